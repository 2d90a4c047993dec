-- Increasing lists of numbers, and the numbers without one of them.
--
-- Main results: increasing_tail, skip_below, skip_above.
use Rattle.std.proofs.Common.{ℕ, ◌≡◌, ◌+◌, ◌<◌, ◌≤◌, List, [], ◌∷◌, refl}
use Rattle.std.proofs.lemmas.Bool.{lt-ltb, le-ltb}
use Rattle.om_signs.specs.Numbers.{IsIncreasing, skip}

-- a list in which each number is below the next stays so without its first number
pub increasing_tail : (x : ℕ) (xs : List ℕ) → IsIncreasing (x ∷ xs) → IsIncreasing xs
increasing_tail x [] h = tt
increasing_tail x (y ∷ ys) h = h.1

-- the numbering of the numbers other than e leaves those below e as they are
pub skip_below : (e p : ℕ) → p < e → skip e p ≡ p
skip_below e p l = rw (lt-ltb p e l) refl

-- the numbering of the numbers other than e moves those from e on up by one
pub skip_above : (e p : ℕ) → e ≤ p → skip e p ≡ p + 1
skip_above e p l = rw (le-ltb p e l) refl
