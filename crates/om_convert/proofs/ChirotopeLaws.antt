-- Lists of all circuits, of all cocircuits and of all covectors of a chirotope.
--
-- Main results: they meet the axioms (circuits_lawful, cocircuits_lawful, covectors_lawful) and denote the same
-- oriented matroid (same_as_circuits, same_as_cocircuits, same_as_covectors); the covectors are the compositions of
-- cocircuits (covector_of_composition, composition_of_covector).
-- Reference: Björner, Las Vergnas, Sturmfels, White and Ziegler, Oriented Matroids, chapters 3 and 4.
use Rattle.std.specs.List.{Contains}
use Rattle.std.proofs.Common.{ℕ, ◌≡◌, List, sym, subst, ◌∙◌}
use Rattle.om_signs.specs.declared.sign.Sign.{Sign}
use Rattle.om_chirotope.specs.Map.{SignMap}
use Rattle.om_chirotope.specs.Chirotope.{IsChirotope}
use Rattle.om_circuits.specs.Axioms.{MeetsCircuitAxioms}
use Rattle.om_members.specs.Listings.{Listing, HaveLength}
use Rattle.om_covectors.specs.Axioms.{MeetsCovectorAxioms}
use Rattle.om_denotation.specs.Circuits.{IsCircuitOfChirotope, IsCocircuitOfChirotope}
use Rattle.om_denotation.specs.Compositions.{IsCompositionOf, none, front, HasConformingParts}
use Rattle.om_denotation.specs.Covectors.{IsCovectorOfChirotope, IsCovectorOfCircuits, IsCovectorOfCocircuits}
use Rattle.om_denotation.specs.Covectors.{IsCovectorOfCovectors}
use Rattle.om_denotation.specs.Denotation.{DenoteTheSame}
use Rattle.om_denotation.specs.Listings.{AreAllOf}
use Rattle.om_denotation.proofs.ChirotopeBridge.{circuit_length, cocircuit_length}
use Rattle.om_denotation.proofs.FamilyAxioms as family_axioms
use Rattle.om_denotation.proofs.FamilyLaws as chirotopes
use Rattle.om_denotation.proofs.ListedFamilies.{lengths, circuit_axioms, covector_axioms, composed_both}

-- compositions of members of a family are compositions of members of a larger one
compositions_of : (P Q : List Sign → Type 0) → ((Y : List Sign) → P Y → Q Y) → (n : ℕ) (X : List Sign)
    → IsCompositionOf n P X → IsCompositionOf n Q X
compositions_of P Q each n X none = none
compositions_of P Q each n X (front Y Z y z) = front Y Z (each Y y) (compositions_of P Q each n Z z)

module _ (m : SignMap) where
  -- ---- circuits

  module _ (circuits : List (List Sign)) (all : AreAllOf (IsCircuitOfChirotope m) circuits) where
    pub circuit_lengths : HaveLength m.elements circuits
    circuit_lengths = lengths (IsCircuitOfChirotope m) circuits all m.elements (circuit_length m)

    -- a list of all circuits of a chirotope meets the axioms of circuits
    pub circuits_lawful : IsChirotope m → MeetsCircuitAxioms circuits
    circuits_lawful c = circuit_axioms (IsCircuitOfChirotope m) circuits all (family_axioms.circuit_axioms m c)

    -- a chirotope and a list of all its circuits denote the same oriented matroid
    pub same_as_circuits : IsChirotope m → (d : Listing) → d.elements ≡ m.elements → d.members ≡ circuits
        → DenoteTheSame m.elements (IsCovectorOfChirotope m) (IsCovectorOfCircuits d)
    same_as_circuits c d e q X l =
        let o = chirotopes.orthogonal_both m c X l in (
          λ x. record { size = l ∙ sym e; orthogonal = λ Y y. o.0 x Y (all.sound Y (subst (λ k. Contains k Y) q y)) },
          λ x. o.1 (λ Y y. x.orthogonal Y (subst (λ k. Contains k Y) (sym q) (all.complete Y y))),
        )

  -- ---- cocircuits

  module _ (c : IsChirotope m) (cocircuits : List (List Sign))
      (all : AreAllOf (IsCocircuitOfChirotope m) cocircuits) where
    pub cocircuit_lengths : HaveLength m.elements cocircuits
    cocircuit_lengths = lengths (IsCocircuitOfChirotope m) cocircuits all m.elements (cocircuit_length m)

    -- a list of all cocircuits of a chirotope meets the axioms of circuits, which are those of cocircuits too
    pub cocircuits_lawful : MeetsCircuitAxioms cocircuits
    cocircuits_lawful = circuit_axioms (IsCocircuitOfChirotope m) cocircuits all (family_axioms.cocircuit_axioms m c)

    -- a chirotope and a list of all its cocircuits denote the same oriented matroid
    pub same_as_cocircuits : (d : Listing) → d.elements ≡ m.elements → d.members ≡ cocircuits
        → DenoteTheSame m.elements (IsCovectorOfChirotope m) (IsCovectorOfCocircuits d)
    same_as_cocircuits d e q X l =
        let p = chirotopes.parts_both m c X l in
        let b = composed_both (IsCocircuitOfChirotope m) cocircuits all X in (
          λ x. record {
            size = l ∙ sym e;
            composed =
                subst (λ k. HasConformingParts (Contains k) X) (sym q) (b.0 (p.0 x));
          },
          λ x. p.1 (b.1 (subst (λ k. HasConformingParts (Contains k) X) q x.composed)),
        )

    -- ---- compositions of cocircuits

    pub covector_of_composition : (X : List Sign) → IsCompositionOf m.elements (Contains cocircuits) X
        → IsCovectorOfChirotope m X
    covector_of_composition X h =
        (chirotopes.composition_both m c X).1
        (compositions_of (Contains cocircuits) (IsCocircuitOfChirotope m) all.sound m.elements X h)

    pub composition_of_covector : (X : List Sign) → IsCovectorOfChirotope m X
        → IsCompositionOf m.elements (Contains cocircuits) X
    composition_of_covector X x =
        compositions_of (IsCocircuitOfChirotope m) (Contains cocircuits) all.complete m.elements X
        ((chirotopes.composition_both m c X).0 x)

    pub covectors_of_compositions : (members : List (List Sign))
        → AreAllOf (IsCompositionOf m.elements (Contains cocircuits)) members
        → AreAllOf (IsCovectorOfChirotope m) members
    covectors_of_compositions members a =
        record {
          sound = λ X k. covector_of_composition X (a.sound X k);
          complete =
              λ X x. a.complete X (composition_of_covector X x);
        }

  -- ---- covectors

  module _ (members : List (List Sign)) (all : AreAllOf (IsCovectorOfChirotope m) members) where
    pub covector_lengths : HaveLength m.elements members
    covector_lengths = lengths (IsCovectorOfChirotope m) members all m.elements (λ X x. x.size)

    -- a list of all covectors of a chirotope meets the axioms of covectors
    pub covectors_lawful : IsChirotope m → MeetsCovectorAxioms members
    covectors_lawful c = covector_axioms (IsCovectorOfChirotope m) members all m.elements
        (family_axioms.covector_axioms m c)

    -- a chirotope and a list of all its covectors denote the same oriented matroid
    pub same_as_covectors : (d : Listing) → d.elements ≡ m.elements → d.members ≡ members
        → DenoteTheSame m.elements (IsCovectorOfChirotope m) (IsCovectorOfCovectors d)
    same_as_covectors d e q X l = (
      λ x. record { size = l ∙ sym e; member = subst (λ k. Contains k X) (sym q) (all.complete X x) },
      λ x. all.sound X (subst (λ k. Contains k X) q x.member),
    )
