-- The reverse lexicographic order of the increasing lists of some of the numbers 1 to n.
use Rattle.std.specs.Prelude.{ℕ, ◌≡◌, ◌+◌, ◌-◌, ◌<◌, List, [], ◌∷◌, ◌++◌, length, map, slice_index_or}
use Rattle.std.proofs.Common.{zero, suc, get_or}
use Rattle.om_subsets.specs.Subsets.{choose}

-- the number at a place of a list, counted from 0
abbrev pub number_at : List ℕ → ℕ → ℕ
number_at xs i = slice_index_or xs i 0

-- at the last place in which the two lists differ, the first one has the smaller number
pub record IsRevlexBefore (xs ys : List ℕ) : Type 0 where
  pub place : ℕ
  pub within : place < length xs
  pub smaller : number_at xs place < number_at ys place
  pub same_after : (i : ℕ) → place < i → i < length xs → number_at xs i ≡ number_at ys i

-- the increasing lists of r of the numbers 1 to n, in reverse lexicographic order: those that end with n come last
abbrev pub revlex_subsets : ℕ → ℕ → List (List ℕ)
revlex_subsets n zero = [] ∷ []
revlex_subsets zero (suc r) = []
revlex_subsets (suc n) (suc r) = revlex_subsets n (suc r) ++ map (λ s. s ++ suc n ∷ []) (revlex_subsets n r)

-- the list at place k of these, counted from 0
abbrev pub revlex_subset_at : ℕ → ℕ → ℕ → List ℕ
revlex_subset_at n r k = get_or (revlex_subsets n r) k []

-- How many lists come before an increasing list because of its numbers at the places from i on, counted from 1. For
-- each number x at a place i these are the lists that agree after it and have a smaller number at it: their first i
-- numbers are below x.
abbrev pub revlex_rank_from : ℕ → List ℕ → ℕ
revlex_rank_from i [] = 0
revlex_rank_from i (x ∷ xs) = choose (x - 1) i + revlex_rank_from (i + 1) xs

-- the place of an increasing list, counted from 0, among those of its size in this order
abbrev pub revlex_rank_of : List ℕ → ℕ
revlex_rank_of xs = revlex_rank_from 1 xs
