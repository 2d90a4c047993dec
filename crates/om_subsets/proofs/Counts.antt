-- How many increasing lists there are, and how long they are.
--
-- Main results: among more numbers there are no fewer lists (choose_more, choose_grows); one list is empty
-- (choose_none), and as many as numbers have one (choose_one); no list is longer than the numbers are many
-- (subset_small).
use Rattle.std.proofs.Common.{ℕ, zero, suc, ◌≡◌, ◌+◌, ◌≤◌, List, [], ◌∷◌, length, refl, arith, inl, inr}
use Rattle.std.proofs.lemmas.Bool.{cases_lt}
use Rattle.om_subsets.specs.Subsets.{choose, IsSubsetFrom}

-- there is one way to choose none of n
pub choose_none : (n : ℕ) → choose n zero ≡ 1
choose_none zero = refl
choose_none (suc n) = refl

-- there are n ways to choose one of n
pub choose_one : (n : ℕ) → choose n 1 ≡ n
choose_one zero = refl
choose_one (suc n) = let a = choose_none n in let b = choose_one n in omega arith

-- there are no fewer ways to choose r of one number more
pub choose_more : (n r : ℕ) → choose n r ≤ choose (suc n) r
choose_more n zero = let a = choose_none n in omega arith
choose_more n (suc r) = omega arith

-- there are no fewer ways to choose r of n than of m, if m is at most n
pub choose_grows : (m n r : ℕ) → m ≤ n → choose m r ≤ choose n r
choose_grows m zero r l = let e : m ≡ 0 = omega arith in rw e (omega arith)
choose_grows m (suc n) r l = elim (cases_lt m (suc n)) [
  | inl lt ↦ let i = choose_grows m n r (omega arith) in let s = choose_more n r in omega arith
  | inr ge ↦ let e : m ≡ suc n = omega arith in rw e (omega arith)
]

-- no increasing list is longer than the numbers are many
pub subset_small : (low n : ℕ) (xs : List ℕ) → IsSubsetFrom low n xs → length xs ≤ n
subset_small low n [] h = omega arith
subset_small low zero (x ∷ xs) h = absurd h
subset_small low (suc n) (x ∷ xs) (inl (q, h)) = let k = subset_small (low + 1) n xs h in omega arith
subset_small low (suc n) (x ∷ xs) (inr (q, h)) = let k = subset_small (low + 1) n (x ∷ xs) h in omega arith
