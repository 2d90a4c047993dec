-- The laws of composition and elimination of covectors, for the four kinds that denote an oriented matroid.
--
-- Main results: of a chirotope (composition_of_chirotope, elimination_of_chirotope), of circuits
-- (composition_of_circuits, elimination_of_circuits), of cocircuits (composition_of_cocircuits,
-- elimination_of_cocircuits) and of covectors (composition_of_covectors, elimination_of_covectors).
-- Reference: Björner, Las Vergnas, Sturmfels, White and Ziegler, Oriented Matroids, chapter 4.
use Rattle.std.proofs.lemmas.List.Elements.{All-contains}
use Rattle.std.proofs.Common.{ℕ, ◌≡◌, ◌≤◌, List, length, sym, ◌∙◌}
use Rattle.om_signs.specs.declared.sign.Sign.{Sign}
use Rattle.om_signs.specs.SignVec.{compose}
use Rattle.om_signs.proofs.ListPlaces.{length-compose}
use Rattle.om_chirotope.specs.Map.{SignMap}
use Rattle.om_chirotope.specs.Chirotope.{IsChirotope, IsChirotopeWithinLimits}
use Rattle.om_members.specs.Listings.{Listing}
use Rattle.om_circuits.specs.SignedSets.{IsSignedSet}
use Rattle.om_covectors.specs.Vectors.{IsSeparatedAt}
use Rattle.om_covectors.specs.CovectorSets as covector_sets
use Rattle.om_denotation.specs.Covectors.{IsCovectorOfChirotope, IsCovectorOfCircuits, IsCovectorOfCocircuits}
use Rattle.om_denotation.specs.Covectors.{IsCovectorOfCovectors}
use Rattle.om_denotation.specs.Denotation.{DenoteTheSame}
use Rattle.om_denotation.specs.Existence.{HasCircuits, HasCocircuits}
use Rattle.om_denotation.specs.Elimination.{HasEliminator}
use Rattle.om_denotation.proofs.FamilyAxioms.{covector_axioms}
use Rattle.om_denotation.proofs.ListExistence.{of_circuits, of_cocircuits}

-- ---- chirotopes

-- the composition of two covectors of a chirotope within the limits is a covector of it
pub composition_of_chirotope : (m : SignMap) (X Y : List Sign) → IsChirotopeWithinLimits m → length X ≡ m.elements
    → length Y ≡ m.elements
    → IsCovectorOfChirotope m X → IsCovectorOfChirotope m Y → IsCovectorOfChirotope m (compose X Y)
composition_of_chirotope m X Y v lx ly x y = (covector_axioms m v.axioms).compositions X Y x y

eliminated : (m : SignMap) → IsChirotope m → (X Y : List Sign) (e : ℕ) → IsCovectorOfChirotope m X
    → IsCovectorOfChirotope m Y → 1 ≤ e → IsSeparatedAt X Y e
    → HasEliminator m.elements (IsCovectorOfChirotope m) X Y e
eliminated m om X Y e x y low apart = let z = (covector_axioms m om).elimination X Y x y e low apart in
    (z.0, z.1.size, z.1, z.2)

-- a covector of a chirotope within the limits eliminates an element that separates two covectors of it
pub elimination_of_chirotope : (m : SignMap) (X Y : List Sign) (e : ℕ) → IsChirotopeWithinLimits m
    → length X ≡ m.elements
    → length Y ≡ m.elements
    → IsCovectorOfChirotope m X → IsCovectorOfChirotope m Y → 1 ≤ e → IsSeparatedAt X Y e
    → HasEliminator m.elements (IsCovectorOfChirotope m) X Y e
elimination_of_chirotope m X Y e v lx ly = eliminated m v.axioms X Y e

-- ---- what denotes the same as a chirotope

module _ (n : ℕ) (P : List Sign → Type 0) (m : SignMap) (om : IsChirotope m) (q : m.elements ≡ n)
    (same : DenoteTheSame n P (IsCovectorOfChirotope m)) where
  composition_by : (X Y : List Sign) → length X ≡ n → length Y ≡ n → P X → P Y → P (compose X Y)
  composition_by X Y lx ly x y =
      (same (compose X Y) (length-compose X Y (lx ∙ sym ly) ∙ lx)).1
      ((covector_axioms m om).compositions X Y ((same X lx).0 x) ((same Y ly).0 y))

  elimination_by : (X Y : List Sign) (e : ℕ) → length X ≡ n → length Y ≡ n → P X → P Y → 1 ≤ e → IsSeparatedAt X Y e
      → HasEliminator n P X Y e
  elimination_by X Y e lx ly x y low apart =
      let z = eliminated m om X Y e ((same X lx).0 x) ((same Y ly).0 y) low apart in
      (z.0, z.1 ∙ q, (same z.0 (z.1 ∙ q)).1 z.2, z.3)

-- ---- circuits and cocircuits

-- if circuits meet their axioms, the composition of two of their covectors is a covector of them
pub composition_of_circuits : (c : Listing) (X Y : List Sign) → IsSignedSet c.elements c.members → length X ≡ c.elements
    → length Y ≡ c.elements
    → IsCovectorOfCircuits c X → IsCovectorOfCircuits c Y → IsCovectorOfCircuits c (compose X Y)
composition_of_circuits c X Y v lx ly = by_map (of_circuits c v.lengths v.axioms)
  where
    by_map : (m : SignMap) × HasCircuits c m → IsCovectorOfCircuits c X → IsCovectorOfCircuits c Y
        → IsCovectorOfCircuits c (compose X Y)
    by_map (m, h) = composition_by c.elements (IsCovectorOfCircuits c) m h.axioms h.elements h.same X Y lx ly

-- if circuits meet their axioms, a covector of them eliminates an element that separates two of their covectors
pub elimination_of_circuits : (c : Listing) (X Y : List Sign) (e : ℕ) → IsSignedSet c.elements c.members
    → length X ≡ c.elements → length Y ≡ c.elements
    → IsCovectorOfCircuits c X → IsCovectorOfCircuits c Y → 1 ≤ e → IsSeparatedAt X Y e
    → HasEliminator c.elements (IsCovectorOfCircuits c) X Y e
elimination_of_circuits c X Y e v lx ly = by_map (of_circuits c v.lengths v.axioms)
  where
    by_map : (m : SignMap) × HasCircuits c m → IsCovectorOfCircuits c X → IsCovectorOfCircuits c Y → 1 ≤ e
        → IsSeparatedAt X Y e → HasEliminator c.elements (IsCovectorOfCircuits c) X Y e
    by_map (m, h) = elimination_by c.elements (IsCovectorOfCircuits c) m h.axioms h.elements h.same X Y e lx ly

-- if cocircuits meet their axioms, the composition of two of their covectors is a covector of them
pub composition_of_cocircuits : (c : Listing) (X Y : List Sign) → IsSignedSet c.elements c.members
    → length X ≡ c.elements → length Y ≡ c.elements
    → IsCovectorOfCocircuits c X → IsCovectorOfCocircuits c Y → IsCovectorOfCocircuits c (compose X Y)
composition_of_cocircuits c X Y v lx ly = by_map (of_cocircuits c v.lengths v.axioms)
  where
    by_map : (m : SignMap) × HasCocircuits c m → IsCovectorOfCocircuits c X → IsCovectorOfCocircuits c Y
        → IsCovectorOfCocircuits c (compose X Y)
    by_map (m, h) = composition_by c.elements (IsCovectorOfCocircuits c) m h.axioms h.elements h.same X Y lx ly

-- if cocircuits meet their axioms, a covector of them eliminates an element that separates two of their covectors
pub elimination_of_cocircuits : (c : Listing) (X Y : List Sign) (e : ℕ) → IsSignedSet c.elements c.members
    → length X ≡ c.elements → length Y ≡ c.elements
    → IsCovectorOfCocircuits c X → IsCovectorOfCocircuits c Y → 1 ≤ e → IsSeparatedAt X Y e
    → HasEliminator c.elements (IsCovectorOfCocircuits c) X Y e
elimination_of_cocircuits c X Y e v lx ly = by_map (of_cocircuits c v.lengths v.axioms)
  where
    by_map : (m : SignMap) × HasCocircuits c m → IsCovectorOfCocircuits c X → IsCovectorOfCocircuits c Y → 1 ≤ e
        → IsSeparatedAt X Y e → HasEliminator c.elements (IsCovectorOfCocircuits c) X Y e
    by_map (m, h) = elimination_by c.elements (IsCovectorOfCocircuits c) m h.axioms h.elements h.same X Y e lx ly

-- ---- covectors

-- if covectors meet their axioms, the composition of two of them is one of them
pub composition_of_covectors : (c : Listing) (X Y : List Sign) → covector_sets.IsCovectorSet c.elements c.members
    → length X ≡ c.elements → length Y ≡ c.elements
    → IsCovectorOfCovectors c X → IsCovectorOfCovectors c Y → IsCovectorOfCovectors c (compose X Y)
composition_of_covectors c X Y v lx ly x y =
    record { size = length-compose X Y (lx ∙ sym ly) ∙ lx; member = v.axioms.compositions X Y x.member y.member }

-- if covectors meet their axioms, one of them eliminates an element that separates two of them
pub elimination_of_covectors : (c : Listing) (X Y : List Sign) (e : ℕ)
    → covector_sets.IsCovectorSet c.elements c.members → length X ≡ c.elements → length Y ≡ c.elements
    → IsCovectorOfCovectors c X → IsCovectorOfCovectors c Y → 1 ≤ e → IsSeparatedAt X Y e
    → HasEliminator c.elements (IsCovectorOfCovectors c) X Y e
elimination_of_covectors c X Y e v lx ly x y low apart =
    let z = v.axioms.elimination X Y x.member y.member e low apart in
    let l = All-contains (λ Z. length Z ≡ c.elements) c.members z.0 v.lengths z.1 in
    (z.0, l, record { size = l; member = z.1 }, z.2)
