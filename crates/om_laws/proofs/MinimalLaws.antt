-- The members of minimal support of a finite family that meets the covector axioms.
--
-- Main results: the members are what has, at each element of its support, the sign of one of them that conforms to it
-- (parts_both), so they are the compositions of these (composition_both); these meet the circuit axioms
-- (minimal_axioms).
-- Reference: Björner, Las Vergnas, Sturmfels, White and Ziegler, Oriented Matroids, chapters 3 and 4.
use Rattle.std.specs.Prelude.{◌≡◌, ◌↔◌, ℕ, List, [], ◌∷◌}
use Rattle.std.proofs.Common.{sym, subst}
use Rattle.om_signs.specs.declared.sign.Sign.TheVariants.{Zero}
use Rattle.om_signs.specs.Sign.{opposite, first_nonzero}
use Rattle.om_signs.proofs.SignLaws.{nonzero_from_opposite, opposite_nonzero, opposite_swap}
use Rattle.om_laws.specs.Signs.{IsNonzero}
use Rattle.om_laws.specs.Vectors.{SignVector, negated, IsSupportedOn}
use Rattle.om_laws.specs.Axioms.{CircuitAxioms, CovectorAxioms}
use Rattle.om_laws.specs.Covectors.{IsMinimal}
use Rattle.om_laws.specs.Compositions.{EachVector, IsComposition, HasConformingParts, composition_of}
use Rattle.om_laws.specs.Families.{IsListed, AreSupportedOn}
use Rattle.om_laws.proofs.PairAxioms.{nonzero_composition, not_opposite_at}
use Rattle.om_laws.proofs.FamilyLaws as family
use Rattle.om_laws.proofs.PartLaws.{composition_from_conformal, conformal_from_parts}
use Rattle.om_laws.proofs.FamilyLaws.{listed_same}

module _ (E : List ℕ) (Ls : List SignVector) (supported : AreSupportedOn E Ls)
    (axioms : CovectorAxioms (IsListed Ls)) where
  -- elimination, with the opposite sign on the right
  eliminate : (X Y : SignVector) → IsListed Ls X → IsListed Ls Y → (e : ℕ) → IsNonzero (X e) → Y e ≡ opposite (X e)
      → (Z : SignVector) × IsListed Ls Z × (Z e ≡ Zero)
      × ((g : ℕ) → (IsNonzero (X g) → Y g ≡ opposite (X g) → ⊥) → Z g ≡ first_nonzero (X g) (Y g))
  eliminate X Y x y e n op =
      let z = axioms.elimination X Y x y e (n, opposite_swap (Y e) (X e) op) in
      (z.0, z.1, z.2, λ g no. z.3 g (λ s. no s.0 (opposite_swap (X g) (Y g) s.1)))

  minimal_parts : (X : SignVector) → IsListed Ls X → HasConformingParts (IsMinimal (IsListed Ls)) X
  minimal_parts X x e n =
      let y = family.decompose Ls E supported axioms.negation eliminate X x e n in
      (y.0, record { member = y.1; nonzero = (e, subst IsNonzero (sym y.3) n); least = y.4 }, y.3, y.2)

  minimal_negated : (X : SignVector) → IsMinimal (IsListed Ls) X → IsMinimal (IsListed Ls) (negated X)
  minimal_negated X m = record {
    member = axioms.negation X m.member;
    nonzero = (m.nonzero.0, opposite_nonzero (X m.nonzero.0) m.nonzero.1);
    least = λ Z z n sub g k. m.least Z z n (λ h p. nonzero_from_opposite (X h) (sub h p)) g
        (nonzero_from_opposite (X g) k);
  }

  pub minimal_axioms : CircuitAxioms (IsMinimal (IsListed Ls))
  minimal_axioms = record {
    nonzero = λ X m. m.nonzero;
    negation = minimal_negated;
    incomparable = λ X Y m k sub. family.least_incomparable Ls E supported axioms.negation eliminate X Y m.member
        k.member m.least k.least m.nonzero.0 m.nonzero.1 sub;
    elimination = λ X Y m k ne e s.
        let h = not_opposite_at E X Y (supported X m.member) (supported Y k.member) ne in
        let z = family.least_elimination Ls E supported axioms.negation eliminate X Y m.member k.member e h.0 s.0
        (opposite_swap (X e) (Y e) s.1)
        (nonzero_composition (X h.0) (Y h.0) h.1) (λ n q. h.1 (opposite_swap (Y h.0) (X h.0) q)) in
        (z.0, record { member = z.1; nonzero = (h.0, z.4); least = z.2 }, z.3, z.5);
  }

  -- ---- the members are the compositions of those of minimal support

  composition_listed : (Ys : List SignVector) → EachVector (IsMinimal (IsListed Ls)) Ys
      → IsListed Ls (composition_of Ys)
  composition_listed [] m = axioms.zero
  composition_listed (Y ∷ Ys) m = axioms.composition_closed Y (composition_of Ys) m.0.member (composition_listed Ys m.1)

  from_composition : (X : SignVector) → IsComposition (IsMinimal (IsListed Ls)) X → IsListed Ls X
  from_composition X k = listed_same X (composition_of k.0) Ls k.2 (composition_listed k.0 k.1)

  to_composition : (X : SignVector) → HasConformingParts (IsMinimal (IsListed Ls)) X
      → IsComposition (IsMinimal (IsListed Ls)) X
  to_composition X parts =
      let s : IsSupportedOn E X = λ e n. (let y = parts e n in supported y.0 y.1.member e (subst IsNonzero (sym y.2) n))
      in
      composition_from_conformal (IsMinimal (IsListed Ls)) X
      (conformal_from_parts (IsMinimal (IsListed Ls)) X parts E s)

  pub parts_both : (X : SignVector) → IsListed Ls X ↔ HasConformingParts (IsMinimal (IsListed Ls)) X
  parts_both X = (minimal_parts X, λ p. from_composition X (to_composition X p))

  pub composition_both : (X : SignVector) → IsListed Ls X ↔ IsComposition (IsMinimal (IsListed Ls)) X
  composition_both X = (λ x. to_composition X (minimal_parts X x), from_composition X)
