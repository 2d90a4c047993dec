-- What the fast form of the three-term test computes from a map: marks of the sets that contain a basis, and the
-- rows of its pictures.
use Rattle.std.specs.Prelude.{ℕ, ◌≡◌, ◌+◌, ◌≢◌, ◌-◌, ◌*◌, ◌<◌, ◌≤◌, ◌^◌, List, [], ◌∷◌, ◌++◌, length}
use Rattle.std.specs.Int.{bit_at}
use Rattle.std.proofs.Math.ListN.{get_or}
use Rattle.om_signs.specs.declared.sign.Sign.{Sign}
use Rattle.om_signs.specs.declared.sign.Sign.TheVariants.{Zero}
use Rattle.om_signs.specs.Sign.{opposite, product}
use Rattle.om_signs.specs.SignVec.{at, at_element}
use Rattle.om_subsets.specs.Subsets.{IsMember}
use Rattle.om_subsets.specs.Members.{mask_of}
use Rattle.om_laws.specs.Sorting.{IsElement}
use Rattle.om_laws.specs.ThreeTerm.{AreBalanced}
use Rattle.om_chirotope.specs.Map.{SignMap, value_of, cocircuit_vector}
use Rattle.om_chirotope.specs.Marks.{IsMarked}
use Rattle.om_chirotope.specs.ThreeTerm.{IsBasis}

-- each element of the list has its bit in the mask
abbrev pub IsInMask : List ℕ → ℕ → Type 0
IsInMask b mask = (i : ℕ) → IsMember (i + 1) b → bit_at mask i ≡ 1

-- the set with this mask contains a basis
abbrev pub HasBasisIn : SignMap → ℕ → Type 0
HasBasisIn m mask = (b : List ℕ) × IsBasis m b × IsInMask b mask

-- words with a bit for each set: each basis is marked, and every marked set contains a basis
pub record AreMarked (m : SignMap) (words : List ℕ) : Type 0 where
  pub room : 2 ^ m.elements ≤ 64 * length words
  pub bases : (b : List ℕ) → IsBasis m b → IsMarked words (mask_of 1 b m.elements)
  pub only : (mask : ℕ) → IsMarked words mask → HasBasisIn m mask

-- words with a bit for each set: exactly the sets that contain a basis are marked
pub record AreMarkedAbove (m : SignMap) (words : List ℕ) : Type 0 where
  pub room : 2 ^ m.elements ≤ 64 * length words
  pub above : (mask : ℕ) (b : List ℕ) → mask < 2 ^ m.elements → IsBasis m b → IsInMask b mask → IsMarked words mask
  pub only : (mask : ℕ) → IsMarked words mask → HasBasisIn m mask

-- the vector is zero, or each basis has an element in its support
abbrev pub IsMet : SignMap → List Sign → Type 0
IsMet m u = (i : ℕ) → i < m.elements → at u i ≢ Zero → (b : List ℕ) → IsBasis m b → (f : ℕ) × IsMember f b
    × (at_element u f ≢ Zero)

-- the row of each element x below a limit is at x - 1: at each y it has the value of P followed by x and y
pub record AreRowsBelow (m : SignMap) (p : List ℕ) (rows : List (List Sign)) (limit : ℕ) : Type 0 where
  pub lengths : (k : ℕ) → k < length rows → length (get_or rows k []) ≡ m.elements
  pub row : (x : ℕ) → 1 ≤ x → x < limit → get_or rows (x - 1) [] ≡ cocircuit_vector m (p ++ x ∷ [])

-- all rows have n signs
abbrev pub AreLong : List (List Sign) → ℕ → Type 0
AreLong rows n = (k : ℕ) → k < length rows → length (get_or rows k []) ≡ n

-- the row isn't zero
abbrev pub IsLive : List (List Sign) → ℕ → Type 0
IsLive rows i = (l : ℕ) × (at (get_or rows i []) l ≢ Zero)

-- the relations of the rows i, j and k with every place l
pub record IsTriple (rows : List (List Sign)) (i j k : ℕ) : Type 0 where
  pub each : (l : ℕ) → l < length (get_or rows i [])
      → AreBalanced
      (product (at (get_or rows i []) j) (at (get_or rows k []) l))
      (opposite (product (at (get_or rows i []) k) (at (get_or rows j []) l)))
      (product (at (get_or rows i []) l) (at (get_or rows j []) k))

-- the three-term relations of P with x, y, z and every element w
pub record IsBalancedTriple (m : SignMap) (p : List ℕ) (x y z : ℕ) : Type 0 where
  pub each : (w : ℕ) → 1 ≤ w → w ≤ m.elements
      → AreBalanced
      (product (value_of m (p ++ x ∷ y ∷ [])) (value_of m (p ++ z ∷ w ∷ [])))
      (opposite (product (value_of m (p ++ x ∷ z ∷ [])) (value_of m (p ++ y ∷ w ∷ []))))
      (product (value_of m (p ++ x ∷ w ∷ [])) (value_of m (p ++ y ∷ z ∷ [])))

-- the three-term relations of P with any four elements
abbrev pub HasRelationsAt : SignMap → List ℕ → Type 0
HasRelationsAt m p = (x y z : ℕ) → IsElement m.elements x → IsElement m.elements y → IsElement m.elements z
    → IsBalancedTriple m p x y z
