-- Increasing lists, tuples of elements, and the extension of a map on increasing lists of r elements to all lists.
--
-- Reference: Björner, Las Vergnas, Sturmfels, White and Ziegler, Oriented Matroids, chapter 3.
use Rattle.std.specs.Prelude.{ℕ, suc, ◌≡◌, ◌<◌, ◌≤◌, List, [], ◌∷◌, length, cond, nat_lt, nat_eq, Bool, true, false}
use Rattle.om_signs.specs.declared.sign.Sign.{Sign}
use Rattle.om_signs.specs.declared.sign.Sign.TheVariants.{Zero}
use Rattle.om_laws.specs.Tuples.{value}
pub use Rattle.om_signs.specs.Numbers.{IsIncreasing}

-- an element of 1 to n
abbrev pub IsElement : ℕ → ℕ → Type 0
IsElement n e = (1 ≤ e) × (e ≤ n)

-- each member has the property
abbrev pub Each : (ℕ → Type 0) → List ℕ → Type 0
Each P [] = Unit {0}
Each P (x ∷ xs) = P x × Each P xs

-- k elements of 1 to n, in any order
pub record IsTuple (n k : ℕ) (xs : List ℕ) : Type 0 where
  pub size : length xs ≡ k
  pub within : Each (IsElement n) xs

-- the test of IsElement
abbrev pub is_element : ℕ → ℕ → Bool
is_element n e = cond (nat_lt 0 e) (nat_lt e (suc n)) false

-- the test whether all numbers are elements of 1 to n
abbrev pub are_elements : ℕ → List ℕ → Bool
are_elements n [] = true
are_elements n (x ∷ xs) = cond (is_element n x) (are_elements n xs) false

-- the test of IsTuple
abbrev pub is_tuple : ℕ → ℕ → List ℕ → Bool
is_tuple n k xs = cond (nat_eq (length xs) k) (are_elements n xs) false

-- the value on tuples of r elements of 1 to n, and zero on all other lists
abbrev pub on_tuples : ℕ → ℕ → (List ℕ → Sign) → List ℕ → Sign
on_tuples n r f t = cond (is_tuple n r t) (value f t) Zero
