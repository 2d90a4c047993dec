-- The relations of a chirotope: on increasing lists, and for all lists.
--
-- Reference: Björner, Las Vergnas, Sturmfels, White and Ziegler, Oriented Matroids, chapter 3.
use Rattle.std.specs.Prelude.{ℕ, suc, ◌≡◌, ◌≤◌, ◌-◌, ◌↔◌, ◌⊎◌, List, [], ◌∷◌, ◌++◌, cond, nat_eq}
use Rattle.om_signs.specs.declared.sign.Sign.{Sign}
use Rattle.om_signs.specs.declared.sign.Sign.TheVariants.{Minus, Zero, Plus}
use Rattle.om_signs.specs.Sign.{opposite, product}
use Rattle.om_laws.specs.Sorting.{IsIncreasing, IsTuple}

-- at the i-th element of xs, counted from 1, the value of the other elements times (-1) ^ i, and zero off xs
abbrev pub around : (List ℕ → Sign) → List ℕ → ℕ → Sign
around chi [] e = Zero
around chi (x ∷ xs) e = opposite (cond (nat_eq e x) (chi xs) (around (λ t. chi (x ∷ t)) xs e))

-- at e, the value of a followed by e
abbrev pub along : (List ℕ → Sign) → List ℕ → ℕ → Sign
along chi a e = chi (a ++ e ∷ [])

-- some product of `around chi xs` and u, at an element of xs, is this sign
abbrev pub HasTerm : (List ℕ → Sign) → List ℕ → (ℕ → Sign) → Sign → Type 0
HasTerm chi [] u s = ⊥
HasTerm chi (x ∷ xs) u s = (product (chi xs) (u x) ≡ opposite s) ⊎ HasTerm (λ t. chi (x ∷ t)) xs u (opposite s)

-- the products of `around chi xs` and u include a plus exactly if they include a minus
abbrev pub IsBalanced : (List ℕ → Sign) → List ℕ → (ℕ → Sign) → Type 0
IsBalanced chi xs u = HasTerm chi xs u Plus ↔ HasTerm chi xs u Minus

-- the relations of increasing lists s and a, where s has r + 1 elements and a has r - 1
abbrev pub HasIncreasingRelations : ℕ → ℕ → (List ℕ → Sign) → Type 0
HasIncreasingRelations n r chi = (s a : List ℕ) → 1 ≤ r → IsTuple n (suc r) s → IsTuple n (r - 1) a → IsIncreasing s
    → IsIncreasing a → IsBalanced chi s (along chi a)

-- the relations of all lists
abbrev pub HasRelations : (List ℕ → Sign) → Type 0
HasRelations chi = (s a : List ℕ) → IsBalanced chi s (along chi a)
