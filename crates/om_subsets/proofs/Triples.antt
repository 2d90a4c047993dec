-- Triples of the elements 1 to n, by their elements and by their places in lexicographic order.
--
-- Main definitions: IsRising, three elements in order.
-- Main results: a triple is three elements in order (rising_of_triple, elements_of_triple), and three such elements are
-- a triple (triple_subset, triple_from); the place of a triple and the triple at a place (place_below, triple_at_place,
-- triple_of_place, place_of_place).
use Rattle.std.specs.Prelude.{ℕ, ◌≡◌, ◌<◌, ◌≤◌, List, [], ◌∷◌}
use Rattle.std.proofs.Common.{refl, sym, ◌∙◌, ap, subst, arith, inl, inr}
use Rattle.om_subsets.specs.Subsets.{choose, subset_at, rank_of, IsSubsetFrom, IsMember, IsTriple}
use Rattle.om_subsets.proofs.Order.{rank_from-lt, get_or-rank_from, listed}
use Rattle.om_subsets.proofs.Statements.{subset_is_increasing}

-- ---- three elements in order

-- three numbers from 1 to n, each below the next, are an increasing list of some of 1 to n
pub triple_subset : (n a b c : ℕ) → 1 ≤ a → a < b → b < c → c ≤ n → IsSubsetFrom 1 n (a ∷ b ∷ c ∷ [])
triple_subset n a b c low ab bc high = (subset_is_increasing n (a ∷ b ∷ c ∷ [])).1 ((ab, (bc, tt)), within)
  where
    within : (e : ℕ) → IsMember e (a ∷ b ∷ c ∷ []) → (1 ≤ e) × (e ≤ n)
    within e (inl q) = omega arith
    within e (inr (inl q)) = omega arith
    within e (inr (inr (inl q))) = omega arith
    within e (inr (inr (inr q))) = absurd q

-- three numbers from 1 to n, each below the next, are a triple
pub triple_from : (n a b c : ℕ) → 1 ≤ a → a < b → b < c → c ≤ n → IsTriple n (a ∷ b ∷ c ∷ [])
triple_from n a b c low ab bc high = record { list = triple_subset n a b c low ab bc high; size = refl }

-- the three elements of a triple, in order
pub record IsRising (n a b c : ℕ) : Type 0 where
  pub low : 1 ≤ a
  pub first : a < b
  pub second : b < c
  pub high : c ≤ n

-- each of the three is one of 1 to n
pub rising_within : {n a b c : ℕ} → IsRising n a b c → ((1 ≤ a) × (a ≤ n)) × ((1 ≤ b) × (b ≤ n)) × ((1 ≤ c) × (c ≤ n))
rising_within i =
    let low = i.low in
    let ab = i.first in
    let bc = i.second in
    let high = i.high in
    ((low, omega arith), (omega arith, omega arith), (omega arith, high))

-- the three elements of a triple are in order, and are from 1 to n
pub rising_of_triple : (n a b c : ℕ) → IsTriple n (a ∷ b ∷ c ∷ []) → IsRising n a b c
rising_of_triple n a b c h =
    let i = (subset_is_increasing n (a ∷ b ∷ c ∷ [])).0 h.list in
    record { low = (i.1 a (inl refl)).0; first = i.0.0; second = i.0.1.0; high = (i.1 c (inr (inr (inl refl)))).1 }

-- each triple is three elements from 1 to n, in order
pub elements_of_triple : (n : ℕ) (t : List ℕ) → IsTriple n t → (a : ℕ) × (b : ℕ) × (c : ℕ) × (t ≡ a ∷ b ∷ c ∷ [])
    × IsRising n a b c
elements_of_triple n [] h = let l = h.size in absurd (omega arith)
elements_of_triple n (a ∷ []) h = let l = h.size in absurd (omega arith)
elements_of_triple n (a ∷ b ∷ []) h = let l = h.size in absurd (omega arith)
elements_of_triple n (a ∷ b ∷ c ∷ []) h = (a, b, c, refl, rising_of_triple n a b c h)
elements_of_triple n (a ∷ b ∷ c ∷ d ∷ ds) h = let l = h.size in absurd (omega arith)

-- ---- places

-- the place of a triple is below the number of the triples
pub place_below : (n : ℕ) (b : List ℕ) → IsTriple n b → rank_of n b < choose n 3
place_below n b t = let l = rank_from-lt 1 n b t.list in let s = t.size in subst (λ k. rank_of n b < choose n k) s l

-- at the place of a triple stands the triple
pub triple_at_place : (n : ℕ) (b : List ℕ) → IsTriple n b → subset_at n 3 (rank_of n b) ≡ b
triple_at_place n b t = ap (λ k. subset_at n k (rank_of n b)) (sym t.size) ∙ get_or-rank_from 1 n b t.list

-- at each place below the number of the triples stands a triple
pub triple_of_place : (n k : ℕ) → k < choose n 3 → IsTriple n (subset_at n 3 k)
triple_of_place n k l = let h = listed 1 n 3 k l in record { list = h.lawful; size = h.size }

-- the triple that stands at a place has this place
pub place_of_place : (n k : ℕ) → k < choose n 3 → rank_of n (subset_at n 3 k) ≡ k
place_of_place n k l = (listed 1 n 3 k l).place
