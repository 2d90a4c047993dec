-- The increasing lists of some of the numbers 1 to n, and their lexicographic order.
use Rattle.std.specs.Prelude.{ℕ, ◌≡◌, ◌+◌, List, [], ◌∷◌, ◌++◌, length, map, cond, nat_eq, nat_lt, ◌⊎◌}
use Rattle.std.proofs.Common.{zero, suc, get_or}

-- the number of ways to choose r of n
abbrev pub choose : ℕ → ℕ → ℕ
choose n zero = 1
choose zero (suc r) = 0
choose (suc n) (suc r) = choose n r + choose n (suc r)

-- the increasing lists of r of the m numbers from low on, in lexicographic order
abbrev pub subsets_from : ℕ → ℕ → ℕ → List (List ℕ)
subsets_from low m zero = [] ∷ []
subsets_from low zero (suc r) = []
subsets_from low (suc m) (suc r) = map (λ s. low ∷ s) (subsets_from (low + 1) m r) ++ subsets_from (low + 1) m (suc r)

-- the increasing lists of r of the numbers 1 to n, in lexicographic order
abbrev pub all_subsets : ℕ → ℕ → List (List ℕ)
all_subsets n r = subsets_from 1 n r

-- the list at place k of these, counted from 0
abbrev pub subset_at : ℕ → ℕ → ℕ → List ℕ
subset_at n r k = get_or (all_subsets n r) k []

-- the place of an increasing list among the lists of its size of the m numbers from low on
abbrev pub rank_from : ℕ → ℕ → List ℕ → ℕ
rank_from low m [] = 0
rank_from low zero (x ∷ xs) = 0
rank_from low (suc m) (x ∷ xs) =
    cond (nat_eq x low) (rank_from (low + 1) m xs) (choose m (length xs) + rank_from (low + 1) m (x ∷ xs))

-- the place of an increasing list among the lists of its size of the numbers 1 to n
abbrev pub rank_of : ℕ → List ℕ → ℕ
rank_of n xs = rank_from 1 n xs

-- an increasing list of some of the m numbers from low on
abbrev pub IsSubsetFrom : ℕ → ℕ → List ℕ → Type 0
IsSubsetFrom low m [] = Unit {0}
IsSubsetFrom low zero (x ∷ xs) = ⊥
IsSubsetFrom low (suc m) (x ∷ xs) = ((x ≡ low) × IsSubsetFrom (low + 1) m xs)
    ⊎ ((x ≡ low → ⊥) × IsSubsetFrom (low + 1) m (x ∷ xs))

-- an increasing list of three of the elements 1 to n
pub record IsTriple (n : ℕ) (t : List ℕ) : Type 0 where
  pub list : IsSubsetFrom 1 n t
  pub size : length t ≡ 3

-- the r numbers from low on
abbrev pub first_of : ℕ → ℕ → List ℕ
first_of low zero = []
first_of low (suc r) = low ∷ first_of (low + 1) r

-- e occurs in the list
abbrev pub IsMember : ℕ → List ℕ → Type 0
IsMember e [] = ⊥
IsMember e (x ∷ xs) = (e ≡ x) ⊎ IsMember e xs

-- each number of the first list occurs in the second one
abbrev pub IsPartOf : List ℕ → List ℕ → Type 0
IsPartOf t s = (e : ℕ) → IsMember e t → IsMember e s

-- no number occurs in both lists
abbrev pub AreApart : List ℕ → List ℕ → Type 0
AreApart s t = (e : ℕ) → IsMember e s → IsMember e t → ⊥

-- an increasing list with one more number, unless it occurs already
abbrev pub with_element : ℕ → List ℕ → List ℕ
with_element e [] = e ∷ []
with_element e (x ∷ xs) = cond (nat_eq e x) (x ∷ xs) (cond (nat_lt e x) (e ∷ x ∷ xs) (x ∷ with_element e xs))

-- a list with one number left out, if it occurs
abbrev pub without_element : ℕ → List ℕ → List ℕ
without_element e [] = []
without_element e (x ∷ xs) = cond (nat_eq e x) (without_element e xs) (x ∷ without_element e xs)

-- the number of elements above e
abbrev pub count_above : ℕ → List ℕ → ℕ
count_above e [] = 0
count_above e (x ∷ xs) = cond (nat_lt e x) 1 0 + count_above e xs
