-- Deletion and contraction of one element, with the later elements moved down by one.
--
-- Reference: Björner, Las Vergnas, Sturmfels, White and Ziegler, Oriented Matroids, chapters 3 and 4.
use Rattle.std.specs.Prelude.{ℕ, ◌≡◌, List, [], ◌∷◌, ◌++◌, map}
use Rattle.om_signs.specs.declared.sign.Sign.{Sign}
use Rattle.om_signs.specs.declared.sign.Sign.TheVariants.{Zero}
use Rattle.om_laws.specs.Members.{IsMember}
use Rattle.om_laws.specs.Vectors.{SignVector}
use Rattle.om_laws.specs.Bases.{IsBase}
use Rattle.om_laws.specs.Covectors.{IsCovector}
pub use Rattle.om_signs.specs.Numbers.{skip}

-- the value of the renamed tuple followed by the list q
abbrev pub pullback : (List ℕ → Sign) → (ℕ → ℕ) → List ℕ → List ℕ → Sign
pullback chi rename q t = chi (map rename t ++ q)

-- the map on the tuples without e
abbrev pub deletion : ℕ → (List ℕ → Sign) → List ℕ → Sign
deletion e chi = pullback chi (skip e) []

-- the map on the tuples followed by e
abbrev pub contraction : ℕ → (List ℕ → Sign) → List ℕ → Sign
contraction e chi = pullback chi (skip e) (e ∷ [])

-- some base avoids e
abbrev pub IsAvoided : (List ℕ → Sign) → ℕ → Type 0
IsAvoided chi e = (t : List ℕ) × IsBase chi t × (IsMember e t → ⊥)

-- X is some covector of the larger map, without e
abbrev pub IsCovectorWithout : ℕ → List ℕ → (List ℕ → Sign) → SignVector → Type 0
IsCovectorWithout e E chi X = (W : SignVector) × IsCovector E chi W × ((p : ℕ) → W (skip e p) ≡ X p)

-- X is some covector of the larger map that is zero at e, without e
abbrev pub IsZeroCovectorWithout : ℕ → List ℕ → (List ℕ → Sign) → SignVector → Type 0
IsZeroCovectorWithout e E chi X = (W : SignVector) × IsCovector E chi W × (W e ≡ Zero) × ((p : ℕ) → W (skip e p) ≡ X p)
