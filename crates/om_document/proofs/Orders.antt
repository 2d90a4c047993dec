-- The values of a map in reverse lexicographic order, and back.
--
-- Main results: length-values_in_revlex, values_back
use Rattle.std.proofs.Common.{ℕ, ◌≡◌, ◌<◌, List, [], length, get_or, sym, ◌∙◌, ap, subst, arith}
use Rattle.std.proofs.lemmas.List.{length-map, get_or-map, ext_get_or}
use Rattle.om_signs.specs.declared.raw_map.RawMap.{RawMap}
use Rattle.om_signs.specs.declared.sign.Sign.{Sign}
use Rattle.om_signs.specs.declared.sign.Sign.TheVariants.{Zero}
use Rattle.om_subsets.specs.Subsets.{choose, all_subsets, subset_at, rank_of}
use Rattle.om_subsets.specs.Reverse.{revlex_subsets, revlex_subset_at, revlex_rank_of}
use Rattle.om_subsets.proofs.Order.{length-subsets_from, listed}
use Rattle.om_subsets.proofs.ReversePlaces.{length-revlex_subsets, reverse_small, at_reverse_rank}
use Rattle.om_document.specs.Settings.{values_from_revlex}
use Rattle.om_document.specs.PrintTwo.{values_in_revlex}

-- the same map with other values
abbrev pub with_signs : RawMap → List Sign → RawMap
with_signs m xs = record { rank = m.rank; elements = m.elements; signs = xs }

pub length-values_in_revlex : (m : RawMap) → length (values_in_revlex m) ≡ choose m.elements m.rank
length-values_in_revlex m =
    length-map (revlex_subsets m.elements m.rank) (λ s. get_or m.signs (rank_of m.elements s) Zero)
    ∙ length-revlex_subsets m.elements m.rank

-- the value that a map has at a set
value_at : RawMap → List ℕ → Sign
value_at m s = get_or m.signs (rank_of m.elements s) Zero

value_back : (m : RawMap) (k : ℕ) → k < choose m.elements m.rank
    → get_or (values_from_revlex (with_signs m (values_in_revlex m))) k Zero ≡ get_or m.signs k Zero
unfolding value_at
value_back m k l =
    let sets : List (List ℕ) = all_subsets m.elements m.rank in
    let others : List (List ℕ) = revlex_subsets m.elements m.rank in
    let s : List ℕ = subset_at m.elements m.rank k in
    let p = listed 1 m.elements m.rank k l in
    let small : revlex_rank_of s < choose m.elements m.rank =
    subst (λ r. revlex_rank_of s < choose m.elements r) p.size (reverse_small m.elements s p.lawful) in
    let back : revlex_subset_at m.elements m.rank (revlex_rank_of s) ≡ s =
    subst (λ r. revlex_subset_at m.elements r (revlex_rank_of s) ≡ s) p.size
    (at_reverse_rank m.elements s p.lawful) in
    let within : k < length sets = let e = length-subsets_from 1 m.elements m.rank in omega arith in
    let beyond : revlex_rank_of s < length others = let e = length-revlex_subsets m.elements m.rank in omega arith in
    get_or-map (λ s. get_or (values_in_revlex m) (revlex_rank_of s) Zero) sets k [] Zero within
    ∙ get_or-map (value_at m) others (revlex_rank_of s) [] Zero beyond
    ∙ ap (value_at m) back
    ∙ ap (λ i. get_or m.signs i Zero) p.place

-- values that are put in reverse lexicographic order are read as they were
pub values_back : (m : RawMap) → length m.signs ≡ choose m.elements m.rank
    → values_from_revlex (with_signs m (values_in_revlex m)) ≡ m.signs
values_back m h =
    let n : length (values_from_revlex (with_signs m (values_in_revlex m))) ≡ choose m.elements m.rank =
    length-map (all_subsets m.elements m.rank) (λ s. get_or (values_in_revlex m) (revlex_rank_of s) Zero)
    ∙ length-subsets_from 1 m.elements m.rank in
    ext_get_or Zero _ _ (n ∙ sym h) (λ k l. value_back m k (omega arith))
