-- A map meets the axioms exactly where its values on tuples are a chirotope of the theory.
--
-- Main results: theory_chirotope and back, map_chirotope; an increasing list with an element increases (lawful_with).
use Rattle.std.specs.Prelude.{ℕ, ◌≡◌, ◌≢◌, ◌+◌, ◌-◌, ◌<◌, ◌≤◌, List, [], ◌∷◌, length, refl}
use Rattle.std.proofs.Common.{zero, suc, sym, ◌∙◌, arith, inl, inr}
use Rattle.std.proofs.lemmas.Bool.{cases_eq, eq-eqb, ne_eqb, lt-ltb, le-ltb}
use Rattle.om_signs.specs.declared.sign.Sign.TheVariants.{Zero}
use Rattle.om_signs.proofs.SignLaws.{left_factor_nonzero, right_factor_nonzero}
use Rattle.om_subsets.specs.Subsets.{IsSubsetFrom, IsMember, with_element}
use Rattle.om_subsets.proofs.OneElement.{later_list}
use Rattle.om_subsets.proofs.Order.{head_low}
use Rattle.om_subsets.proofs.Statements.{subset_is_increasing}
use Rattle.om_laws.specs.Tuples.{value, sorted, sort_sign, before_sign}
use Rattle.om_laws.specs.Sorting.{IsIncreasing, IsTuple, IsElement, Each, on_tuples}
use Rattle.om_laws.specs.Relations.{HasIncreasingRelations, HasRelations}
use Rattle.om_laws.specs.Chirotope as theory
use Rattle.om_laws.specs.Chirotope.{elements_to}
use Rattle.om_laws.proofs.TupleSizes.{each_member, on_tuples_at, on_tuples_tuple, each_from}
use Rattle.om_laws.proofs.BridgeLaws.{relation_from_lists, relation_to_lists}
use Rattle.om_laws.proofs.ChirotopeLaws.{chirotope_from_increasing, relations_of_increasing_tuples}
use Rattle.om_chirotope.specs.Map.{SignMap, IsMap, chi_of, value_of}
use Rattle.om_chirotope.specs.Chirotope.{IsChirotope, IsPair, HasNonzeroValue, HasOrthogonalPairs}
use Rattle.om_chirotope.proofs.InOrder.{value_in_order}
use Rattle.om_chirotope.proofs.Cocircuits.{insert_with, length-with}
use Rattle.om_chirotope.proofs.SortedTuples.{before_member, before_sorted}

-- an increasing tuple is an increasing list
pub from_tuple : (n k : ℕ) (xs : List ℕ) → IsTuple n k xs → IsIncreasing xs → IsSubsetFrom 1 n xs
from_tuple n k xs t i = (subset_is_increasing n xs).1 (i, λ e q. each_member (IsElement n) xs t.within e q)

-- an increasing list of k of the elements 1 to n is a tuple of k elements
pub to_tuple : (n k : ℕ) (xs : List ℕ) → IsSubsetFrom 1 n xs → length xs ≡ k → IsTuple n k xs
to_tuple n k xs h l = record { size = l; within = each_from (IsElement n) xs ((subset_is_increasing n xs).0 h).1 }

relations : (m : SignMap) → IsChirotope m → HasIncreasingRelations m.elements m.rank (value_of m)
relations m c s a low ts ta is ia =
    let ss = ts.size in
    let sa = ta.size in
    let pair : IsPair m s a = record {
      s_list = from_tuple m.elements (suc m.rank) s ts is;
      s_size = omega arith;
      a_list = from_tuple m.elements (m.rank - 1) a ta ia;
      a_size = omega arith;
    } in
    relation_from_lists m.elements (suc m.rank) (value_of m) s a ts is (c.orthogonal s a pair)

-- the values of a chirotope on tuples are a chirotope of the theory
pub theory_chirotope : (m : SignMap) → IsChirotope m
    → theory.IsChirotope (elements_to m.elements) (on_tuples m.elements m.rank (chi_of m))
theory_chirotope m c = base c.nonzero
  where
    base : HasNonzeroValue m → theory.IsChirotope (elements_to m.elements) (on_tuples m.elements m.rank (chi_of m))
    base (xs, h, l, n) =
        chirotope_from_increasing m.elements m.rank (chi_of m) (relations m c) xs (to_tuple m.elements m.rank xs h l)
        ((subset_is_increasing m.elements xs).0 h).0
        (λ z. n (value_in_order 1 m.elements (chi_of m) xs h ∙ z))

-- ---- and back: a nonzero tuple gives a nonzero increasing list

-- an increasing list stays increasing with another number of its range
pub lawful_with : (low m e : ℕ) (ys : List ℕ) → IsSubsetFrom low m ys → low ≤ e → e < low + m
    → IsSubsetFrom low m (with_element e ys)
lawful_with low zero e ys h a b = absurd (omega arith)
lawful_with low (suc m) e [] h a b = elim (cases_eq e low) [
  | inl q ↦ inl (q, tt)
  | inr n ↦ inr (n, lawful_with (low + 1) m e [] tt (omega arith) (omega arith))
]
lawful_with low (suc m) e (x ∷ xs) (inl (q, h)) a b = elim (cases_eq e x) [
  | inl p ↦ rw (eq-eqb e x p) (inl (q, h))
  | inr n ↦ let ge : x ≤ e = omega arith in
      rw (ne_eqb e x n, le-ltb e x ge) (inl (q, lawful_with (low + 1) m e xs h (omega arith) (omega arith)))
]
lawful_with low (suc m) e (x ∷ xs) (inr (g, h)) a b = elim (cases_eq e low) [
  | inl p ↦
      let above = head_low (low + 1) m x xs h in
      let ne : e ≢ x = omega arith in
      let lt : e < x = omega arith in
      rw (ne_eqb e x ne, lt-ltb e x lt) (inl (p, h))
  | inr n ↦
      later_list low m (with_element e (x ∷ xs)) (lawful_with (low + 1) m e (x ∷ xs) h (omega arith) (omega arith))
]

-- the sorted list of a tuple without repeats
pub record IsSorted (n k : ℕ) (xs : List ℕ) : Type 0 where
  pub lawful : IsSubsetFrom 1 n xs
  pub size : length xs ≡ k

sorted_tuple : (n : ℕ) (xs : List ℕ) → Each (IsElement n) xs → sort_sign xs ≢ Zero → IsSorted n (length xs) (sorted xs)
sorted_tuple n [] h s = record { lawful = tt; size = refl }
sorted_tuple n (x ∷ xs) h s =
    let rest = sorted_tuple n xs h.1 (right_factor_nonzero (before_sign x xs) (sort_sign xs) s) in
    let fresh : IsMember x (sorted xs) → ⊥ = (λ q. left_factor_nonzero (before_sign x xs) (sort_sign xs) s
    (sym (before_sorted x xs) ∙ before_member x (sorted xs) q)) in
    let low = h.0.0 in
    let high = h.0.1 in
    let size = rest.size in
    rw (insert_with x (sorted xs) fresh) (record {
      lawful = lawful_with 1 n x (sorted xs) rest.lawful low (omega arith);
      size = length-with x (sorted xs) fresh ∙ omega arith;
    })

some_value : (m : SignMap) → theory.IsChirotope (elements_to m.elements) (on_tuples m.elements m.rank (chi_of m))
    → HasNonzeroValue m
some_value m c = go c.base
  where
    go : (t : List ℕ) × (on_tuples m.elements m.rank (chi_of m) t ≢ Zero) → HasNonzeroValue m
    go (t, nz) =
        let tuple = on_tuples_tuple m.elements m.rank (chi_of m) t nz in
        let at : value (chi_of m) t ≢ Zero = (λ z. nz (on_tuples_at m.elements m.rank (chi_of m) t tuple ∙ z)) in
        let s = sorted_tuple m.elements t tuple.within
        (left_factor_nonzero (sort_sign t) (chi_of m (sorted t)) at) in (
          sorted t,
          s.lawful,
          s.size ∙ tuple.size,
          λ z. right_factor_nonzero (sort_sign t) (chi_of m (sorted t)) at
              (sym (value_in_order 1 m.elements (chi_of m) (sorted t) s.lawful) ∙ z),
        )

pub orthogonal_of_relations : (m : SignMap) → HasRelations (on_tuples m.elements m.rank (chi_of m))
    → HasOrthogonalPairs m
orthogonal_of_relations m rel s a p =
    let ps = p.s_size in
    let pa = p.a_size in
    let ss : length s ≡ suc m.rank = omega arith in
    let sa : length a ≡ m.rank - 1 = omega arith in
    let ts = to_tuple m.elements (suc m.rank) s p.s_list ss in
    let ta = to_tuple m.elements (m.rank - 1) a p.a_list sa in
    let is = ((subset_is_increasing m.elements s).0 p.s_list).0 in
    let ia = ((subset_is_increasing m.elements a).0 p.a_list).0 in
    relation_to_lists m.elements (suc m.rank) (value_of m) s a ts is
    (relations_of_increasing_tuples m.elements m.rank (chi_of m) rel s a (omega arith) ts ta is ia)

-- a map is a chirotope if its values on tuples are a chirotope of the theory
pub map_chirotope : (m : SignMap) → IsMap m
    → theory.IsChirotope (elements_to m.elements) (on_tuples m.elements m.rank (chi_of m)) → IsChirotope m
map_chirotope m w c = record { whole = w; nonzero = some_value m c; orthogonal = orthogonal_of_relations m c.relations }
