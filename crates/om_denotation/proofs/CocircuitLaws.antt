-- The minimal members of a list that meets the axioms of covectors.
--
-- Main results: a member has at each place of its support the sign of a minimal member that conforms to it
-- (minimal_part); the minimal members meet the axioms of circuits (minimal_axioms), and the members are composed of
-- them (composed), so their covectors are the members (same_covectors).
-- Reference: Björner, Las Vergnas, Sturmfels, White and Ziegler, Oriented Matroids, chapters 3 and 4.
use Rattle.std.specs.List.{Contains}
use Rattle.std.proofs.Common.{ℕ, ◌≡◌, ◌↔◌, List, length, refl, sym, subst, ◌∙◌}
use Rattle.om_signs.specs.declared.sign.Sign.{Sign}
use Rattle.om_signs.specs.SignVec.{at}
use Rattle.om_laws.specs.Signs.{IsNonzero}
use Rattle.om_laws.specs.Vectors.{SignVector}
use Rattle.om_laws.specs.Axioms.{CircuitAxioms}
use Rattle.om_laws.specs.Covectors as families
use Rattle.om_laws.specs.Compositions.{HasConformingParts}
use Rattle.om_laws.specs.Families.{IsListed}
use Rattle.om_laws.specs.Bridge.{as_function}
use Rattle.om_laws.specs.Chirotope.{elements_to}
use Rattle.om_laws.proofs.MinimalLaws as minimal
use Rattle.om_covectors.specs.Axioms.{MeetsCovectorAxioms}
use Rattle.om_members.specs.Listings.{HaveLength, Listing}
use Rattle.om_members.proofs.ScanLaws.{length_of_member}
use Rattle.om_covectors.specs.Minimality.{IsMinimal, AreThose}
use Rattle.om_circuits.specs.Axioms.{MeetsCircuitAxioms}
use Rattle.om_denotation.specs.Covectors.{IsCovectorOfCocircuits}
use Rattle.om_denotation.specs.Denotation.{DenoteTheSame}
use Rattle.om_denotation.specs.Listings.{AreAllOf}
use Rattle.om_denotation.specs.Compositions as lists
use Rattle.om_denotation.proofs.ChirotopeBridge.{same_lists}
use Rattle.om_denotation.proofs.ListFunctions.{AreFunctionsOf}
use Rattle.om_denotation.proofs.FamilyAxioms.{family_axioms, family_parts}
use Rattle.om_denotation.specs.Families.{as_functions}
use Rattle.om_denotation.specs.MinimalParts.{HasMinimalPart}
use Rattle.om_denotation.proofs.SelectionLaws.{those_contained, contained_those}
use Rattle.om_denotation.proofs.FunctionLaws.{unlisted}
use Rattle.om_denotation.proofs.AxiomLaws.{supported, own, covector_axioms, minimal_function, minimal_list}
use Rattle.om_denotation.proofs.ListedFamilies.{circuit_axioms, composed_both}

-- a member of minimal support
abbrev pub IsLeast : List (List Sign) → List Sign → Type 0
IsLeast members X = Contains members X × IsMinimal members X

module _ (n : ℕ) (members : List (List Sign)) (lengths : HaveLength n members)
    (axioms : MeetsCovectorAxioms members) where
  same_member : (f : SignVector) (X : List Sign) → length X ≡ n → IsListed (as_functions members) f
      → ((e : ℕ) → f e ≡ as_function X e) → Contains members X
  same_member f X l h q =
      let u = unlisted members f h in
      subst (Contains members)
      (same_lists n u.0 X (length_of_member n members lengths u.0 u.1) l (λ e. sym (u.2 e) ∙ q e)) u.1

  axioms_of_functions : CircuitAxioms (families.IsMinimal (IsListed (as_functions members)))
  axioms_of_functions = minimal.minimal_axioms (elements_to n) (as_functions members) (supported n members lengths)
      (covector_axioms members axioms)

  parts_of_functions : (X : SignVector) → IsListed (as_functions members) X
      ↔ HasConformingParts (families.IsMinimal (IsListed (as_functions members))) X
  parts_of_functions = minimal.parts_both (elements_to n) (as_functions members) (supported n members lengths)
      (covector_axioms members axioms)

  least_functions : AreFunctionsOf n (IsLeast members) (families.IsMinimal (IsListed (as_functions members)))
  least_functions = record {
    size = λ X d. length_of_member n members lengths X d.0;
    function = λ X d. minimal_function members axioms X d.0 d.1;
    list = λ Z z. let u = unlisted members Z z.member in (u.0, (u.1, minimal_list members axioms Z u.0 z u.2), u.2);
  }

  -- ---- conformal decomposition

  least_parts : (X : List Sign)
      → HasConformingParts (families.IsMinimal (IsListed (as_functions members))) (as_function X)
      ↔ lists.HasConformingParts (IsLeast members) X
  least_parts = family_parts n (IsLeast members) (families.IsMinimal (IsListed (as_functions members))) least_functions

  -- at each place of its support a member has the sign of a minimal member that conforms to it
  pub minimal_part : (X : List Sign) → Contains members X → (i : ℕ) → IsNonzero (at X i) → HasMinimalPart members X i
  minimal_part X m i k = let y = (least_parts X).0 ((parts_of_functions (as_function X)).0 (own members axioms X m)) i k
      in (y.0, y.1.0, y.1.1, y.2, y.3)

  -- ---- the minimal members

  module _ (cocircuits : List (List Sign)) (those : AreThose (IsMinimal members) members cocircuits) where
    all_least : AreAllOf (IsLeast members) cocircuits
    all_least = record {
      sound = λ X c. those_contained (IsMinimal members) members cocircuits those X c;
      complete = λ X d. contained_those (IsMinimal members) members cocircuits those X d.0 d.1;
    }

    -- the minimal members meet the axioms of circuits
    pub minimal_axioms : MeetsCircuitAxioms cocircuits
    minimal_axioms = circuit_axioms (IsLeast members) cocircuits all_least
        (family_axioms n (IsLeast members) (families.IsMinimal (IsListed (as_functions members))) least_functions
        axioms_of_functions)

    -- n signs are a member exactly where minimal members that conform to them give each sign of their support
    pub composed : (X : List Sign) → length X ≡ n → Contains members X
        ↔ lists.HasConformingParts (Contains cocircuits) X
    composed X l =
        let b = composed_both (IsLeast members) cocircuits all_least X in (
          λ m. b.0 ((least_parts X).0 ((parts_of_functions (as_function X)).0 (own members axioms X m))),
          λ h. same_member (as_function X) X l ((parts_of_functions (as_function X)).1 ((least_parts X).1 (b.1 h)))
              (λ e. refl),
        )

    -- the covectors of the minimal members, as cocircuits, are the members
    pub same_covectors : (d : Listing) → d.elements ≡ n → d.members ≡ cocircuits
        → DenoteTheSame n (Contains members) (IsCovectorOfCocircuits d)
    same_covectors d e q X l = (
      λ m. record {
        size = l ∙ sym e;
        composed =
            subst (λ k. lists.HasConformingParts (Contains k) X) (sym q) ((composed X l).0 m);
      },
      λ c. (composed X l).1 (subst (λ k. lists.HasConformingParts (Contains k) X) q c.composed),
    )
