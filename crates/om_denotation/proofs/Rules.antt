-- Maps that are given by a rule for the sign of each increasing list.
--
-- Main results: the sign of a list is that of the rule (rule_at); the map on all lists is that of the rule (tuples_by);
-- where this is a chirotope of the theory the map meets the axioms (chirotope_by); equal maps on all lists are the same
-- (same_maps).
use Rattle.std.specs.Prelude.{ℕ, ◌≡◌, ◌<◌, ◌≤◌, List, [], length}
use Rattle.std.proofs.Common.{sym, ◌∙◌, ap, subst, inl, inr}
use Rattle.std.proofs.lemmas.List.{length-map, get_or-map}
use Rattle.om_signs.specs.declared.sign.Sign.{Sign}
use Rattle.om_signs.specs.declared.sign.Sign.TheVariants.{Zero}
use Rattle.om_subsets.specs.Subsets.{IsSubsetFrom, choose, all_subsets, subset_at, rank_of}
use Rattle.om_subsets.proofs.Order.{length-subsets_from, rank_from-lt, get_or-rank_from}
use Rattle.om_laws.specs.Chirotope as theory
use Rattle.om_laws.specs.Chirotope.{elements_to}
use Rattle.om_laws.specs.Sorting.{IsIncreasing, on_tuples}
use Rattle.om_laws.proofs.SortingLaws.{value_increasing, alternating_equal}
use Rattle.om_laws.proofs.TupleSizes.{is_tuple_cases, on_tuples_at, on_tuples_off, on_tuples_alternating}
use Rattle.om_chirotope.specs.Map.{SignMap, IsMap, chi_of}
use Rattle.om_chirotope.specs.Chirotope.{IsChirotope}
use Rattle.om_chirotope.proofs.Theory.{from_tuple, map_chirotope}
use Rattle.om_denotation.proofs.ChirotopeBridge.{tuples_of}
use Rattle.om_denotation.specs.Maps.{map_by}

-- maps with the same value on each list are the same
pub same_maps : (f g : List ℕ → Sign) → ((t : List ℕ) → f t ≡ g t) → f ≡ g
same_maps f g h = λ i. λ t. h t i

-- in the map of a rule an increasing list of its rank has the sign that the rule gives it
pub rule_at : (rank elements : ℕ) (rule : List ℕ → Sign) (xs : List ℕ) → IsSubsetFrom 1 elements xs → length xs ≡ rank
    → chi_of (map_by rank elements rule) xs ≡ rule xs
rule_at rank elements rule xs h l =
    let few : rank_of elements xs < choose elements rank =
    subst (λ k. rank_of elements xs < choose elements k) l (rank_from-lt 1 elements xs h) in
    let inside : rank_of elements xs < length (all_subsets elements rank) =
    subst (λ k. rank_of elements xs < k) (sym (length-subsets_from 1 elements rank)) few in
    let back : subset_at elements rank (rank_of elements xs) ≡ xs =
    subst (λ k. subset_at elements k (rank_of elements xs) ≡ xs) l (get_or-rank_from 1 elements xs h) in
    get_or-map rule (all_subsets elements rank) (rank_of elements xs) [] Zero inside ∙ ap rule back

-- the map of a rule has a sign for each increasing list, if its rank isn't above the number of elements
pub whole_by : (rank elements : ℕ) (rule : List ℕ → Sign) → rank ≤ elements → IsMap (map_by rank elements rule)
whole_by rank elements rule le =
    record { part = le; whole = length-map (all_subsets elements rank) rule ∙ length-subsets_from 1 elements rank }

-- two alternating maps on the tuples of a rank that agree on the increasing ones are the same
pub same_on_tuples : (n r : ℕ) (f g : List ℕ → Sign)
    → ((xs : List ℕ) → IsSubsetFrom 1 n xs → length xs ≡ r → f xs ≡ g xs) → (t : List ℕ)
    → on_tuples n r f t ≡ on_tuples n r g t
same_on_tuples n r f g h = alternating_equal (on_tuples n r f) (on_tuples n r g) (on_tuples_alternating n r f)
    (on_tuples_alternating n r g) increasing
  where
    increasing : (xs : List ℕ) → IsIncreasing xs → on_tuples n r f xs ≡ on_tuples n r g xs
    increasing xs i = elim (is_tuple_cases n r xs) [
      | inl t ↦ on_tuples_at n r f xs t.0 ∙ value_increasing f xs i ∙ h xs (from_tuple n r xs t.0 i) t.0.size
          ∙ sym (on_tuples_at n r g xs t.0 ∙ value_increasing g xs i)
      | inr t ↦ on_tuples_off n r f xs t.0 ∙ sym (on_tuples_off n r g xs t.0)
    ]

-- an alternating map that is zero off the tuples of a rank is known by the increasing ones
pub tuples_by : (rank elements : ℕ) (rule : List ℕ → Sign) (t : List ℕ)
    → tuples_of (map_by rank elements rule) t ≡ on_tuples elements rank rule t
tuples_by rank elements rule =
    same_on_tuples elements rank (chi_of (map_by rank elements rule)) rule (rule_at rank elements rule)

-- a map is a chirotope if its values on all lists are those of a chirotope of the theory
pub chirotope_by : (m : SignMap) (chi : List ℕ → Sign) → IsMap m → ((t : List ℕ) → tuples_of m t ≡ chi t)
    → theory.IsChirotope (elements_to m.elements) chi → IsChirotope m
chirotope_by m chi w h c =
    map_chirotope m w (subst (theory.IsChirotope (elements_to m.elements)) (sym (same_maps (tuples_of m) chi h)) c)
