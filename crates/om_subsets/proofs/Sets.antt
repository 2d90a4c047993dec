-- The sets of one size as a list.
--
-- Main results: length-all_sets, how many there are; all_sets_from_first and later_sets, the two steps of the walk over
-- them; no_sets, where there are none.
use Rattle.std.specs.Prelude.{ℕ, ◌≡◌, ◌+◌, ◌<◌, List, [], ◌∷◌, length, drop, Option, Some, None, IsNone, IfSome}
use Rattle.std.proofs.Common.{refl, sym, ◌∙◌, ap, arith, subst, get_or}
use Rattle.std.proofs.lemmas.List.{length-map, get_or-map, drop_more, drop_all}
use Rattle.om_subsets.specs.Subsets.{choose, all_subsets, rank_of, IsSubsetFrom}
use Rattle.om_subsets.specs.Members.{Chosen}
use Rattle.om_subsets.specs.Sets.{set_of, all_sets, set_and_later}
use Rattle.om_subsets.proofs.Order.{length-subsets_from, get_or-rank_from, rank_from-lt}

-- there are `choose n r` of them
pub length-all_sets : (n r : ℕ) → length (all_sets n r) ≡ choose n r
length-all_sets n r = length-map (all_subsets n r) (set_of n) ∙ length-subsets_from 1 n r

-- nothing is to come where no set has this size
pub no_sets : (n r : ℕ) → choose n r ≡ 0 → set_and_later None ≡ all_sets n r
no_sets n r z = sym (drop_all 0 (all_sets n r) (let e = length-all_sets n r in omega (arith, e)))

-- from the set at place 0 on, all sets are to come
pub all_sets_from_first : (n r : ℕ) (a : Chosen) → a.n ≡ n → length a.elements ≡ r → rank_of n a.elements ≡ 0
    → set_and_later (Some a) ≡ all_sets n r
all_sets_from_first n r a an size place =
    ap (λ i. drop (rank_of i a.elements) (all_sets i (length a.elements))) an
    ∙ ap (λ i. drop (rank_of n a.elements) (all_sets n i)) size ∙ ap (λ i. drop i (all_sets n r)) place

-- the sets from one on are this set and those from the next one on; the premises are the clauses of `Subset::next`
pub later_sets : (a : Chosen) (o : Option Chosen) → IsSubsetFrom 1 a.n a.elements
    → (IsNone o → rank_of a.n a.elements + 1 ≡ choose a.n (length a.elements)) → IfSome o (λ b. b.n ≡ a.n)
    → IfSome o (λ b. length b.elements ≡ length a.elements)
    → IfSome o (λ b. rank_of b.n b.elements ≡ rank_of a.n a.elements + 1)
    → set_and_later (Some a) ≡ a ∷ set_and_later o
later_sets a o list none n size rank =
    drop_more sets (rank_of a.n a.elements) a inside ∙ ap (λ b. b ∷ drop (rank_of a.n a.elements + 1) sets) here
    ∙ ap (λ t. a ∷ t) (rest o none n size rank)
  where
    sets : List Chosen
    sets = all_sets a.n (length a.elements)

    inside : rank_of a.n a.elements < length sets
    inside = subst (λ m. rank_of a.n a.elements < m) (sym (length-all_sets a.n (length a.elements)))
        (rank_from-lt 1 a.n a.elements list)

    here : get_or sets (rank_of a.n a.elements) a ≡ a
    here =
        get_or-map (set_of a.n) (all_subsets a.n (length a.elements)) (rank_of a.n a.elements) [] a
        (let e = length-subsets_from 1 a.n (length a.elements) in let l = rank_from-lt 1 a.n a.elements list in
        omega (arith, e, l)) ∙ ap (set_of a.n) (get_or-rank_from 1 a.n a.elements list)

    rest : (o : Option Chosen) → (IsNone o → rank_of a.n a.elements + 1 ≡ choose a.n (length a.elements))
        → IfSome o (λ b. b.n ≡ a.n) → IfSome o (λ b. length b.elements ≡ length a.elements)
        → IfSome o (λ b. rank_of b.n b.elements ≡ rank_of a.n a.elements + 1)
        → drop (rank_of a.n a.elements + 1) sets ≡ set_and_later o
    rest None none n size rank =
        drop_all (rank_of a.n a.elements + 1) sets
        (let e = length-all_sets a.n (length a.elements) in let l = none refl in omega (arith, e, l))
    rest (Some b) none n size rank =
        sym (ap (λ i. drop i (all_sets b.n (length b.elements))) rank
        ∙ ap (λ i. drop (rank_of a.n a.elements + 1) (all_sets i (length b.elements))) n
        ∙ ap (λ i. drop (rank_of a.n a.elements + 1) (all_sets a.n i)) size)
