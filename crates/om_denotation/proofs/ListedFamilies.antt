-- Lists of all members of a family of sign vectors.
--
-- Main results: where the family meets the axioms of circuits or of covectors, the list meets them (circuit_axioms,
-- covector_axioms); what conforming members of the family say of a vector, those of the list say (composed_both).
-- Reference: Björner, Las Vergnas, Sturmfels, White and Ziegler, Oriented Matroids, chapters 3 and 4.
use Rattle.std.specs.List.{Contains}
use Rattle.std.proofs.lemmas.List.Elements.{All-contains_itself}
use Rattle.std.proofs.Common.{ℕ, suc, ◌≡◌, ◌-◌, ◌↔◌, List, length, replicate, sym, ◌∙◌}
use Rattle.om_signs.specs.declared.sign.Sign.{Sign}
use Rattle.om_signs.specs.declared.sign.Sign.TheVariants.{Zero}
use Rattle.om_signs.specs.SignVec.{compose}
use Rattle.om_signs.proofs.ListPlaces.{at-replicate}
use Rattle.om_members.specs.Vectors.{negated}
use Rattle.om_circuits.specs.Axioms.{MeetsCircuitAxioms}
use Rattle.om_members.specs.Listings.{HaveLength}
use Rattle.om_covectors.specs.Axioms.{MeetsCovectorAxioms}
use Rattle.om_denotation.specs.Compositions.{HasConformingParts}
use Rattle.om_denotation.specs.FamilyAxioms.{HasCircuitAxioms, HasCovectorAxioms}
use Rattle.om_denotation.specs.Listings.{AreAllOf}
use Rattle.om_denotation.proofs.ListFunctions.{at_place}

module _ (P : List Sign → Type 0) (members : List (List Sign)) (all : AreAllOf P members) where
  -- if each vector of the family has n signs, each member of the list has
  pub lengths : (n : ℕ) → ((X : List Sign) → P X → length X ≡ n) → HaveLength n members
  lengths n size = λ k d l. size _ (all.sound _ (All-contains_itself members k d l))

  -- conforming vectors of the family give each sign of the support of X exactly where conforming members do
  pub composed_both : (X : List Sign) → HasConformingParts P X ↔ HasConformingParts (Contains members) X
  composed_both X = (
    λ h i k. let y = h i k in (y.0, all.complete y.0 y.1, y.2, y.3),
    λ h i k. let y = h i k in (y.0, all.sound y.0 y.1, y.2, y.3),
  )

  -- if the family meets the axioms of circuits, the list meets them
  pub circuit_axioms : HasCircuitAxioms P → MeetsCircuitAxioms members
  circuit_axioms axioms = record {
    no_zero = λ X x z. let n = axioms.nonzero X (all.sound X x) in n.1 (sym (at_place X n.0) ∙ z (suc n.0));
    symmetric = λ X x. all.complete (negated X) (axioms.symmetric X (all.sound X x));
    incomparable = λ X Y x y sub. axioms.incomparable X Y (all.sound X x) (all.sound Y y) sub;
    elimination = λ X Y x y other e low o. let z = axioms.elimination X Y (all.sound X x) (all.sound Y y) other e low o
        in (z.0, all.complete z.0 z.1, z.2);
  }

  -- if the family meets the axioms of covectors with n signs, the list meets them
  pub covector_axioms : (n : ℕ) → HasCovectorAxioms n P → MeetsCovectorAxioms members
  covector_axioms n axioms = record {
    zero = (replicate n Zero, all.complete (replicate n Zero) axioms.zero, λ e. at-replicate n (e - 1));
    symmetric = λ X x. all.complete (negated X) (axioms.symmetric X (all.sound X x));
    compositions = λ X Y x y. all.complete (compose X Y) (axioms.compositions X Y (all.sound X x) (all.sound Y y));
    elimination = λ X Y x y e low s. let z = axioms.elimination X Y (all.sound X x) (all.sound Y y) e low s in
        (z.0, all.complete z.0 z.1, z.2);
  }
