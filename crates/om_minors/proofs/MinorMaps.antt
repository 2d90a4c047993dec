-- The maps of deletions and contractions, by the theory.
--
-- Main results: deleted_tuples, contracted_tuples: the maps on all lists are those of the theory; deleted_axioms,
-- contracted_axioms: they are chirotopes.
use Rattle.std.specs.Prelude.{ℕ, ◌≡◌, ◌+◌, ◌-◌, ◌<◌, ◌≤◌, List, [], ◌∷◌, ◌++◌, length, map, false, true}
use Rattle.std.proofs.Common.{zero, suc, sym, ◌∙◌, ap, subst, inl, inr, arith, refl}
use Rattle.std.proofs.lemmas.Bool.{cases_lt, cases_eq, false≢true}
use Rattle.std.proofs.lemmas.List.{length-append, length-map}
use Rattle.om_signs.specs.declared.sign.Sign.{Sign}
use Rattle.om_subsets.specs.Subsets.{IsSubsetFrom, IsMember}
use Rattle.om_subsets.proofs.Counts.{subset_small}
use Rattle.om_laws.specs.Chirotope as theory
use Rattle.om_laws.specs.Chirotope.{elements_to}
use Rattle.om_laws.specs.Minors.{skip, pullback, deletion, contraction, IsAvoided}
use Rattle.om_laws.specs.Parallel.{IsInBase}
use Rattle.om_laws.specs.Sorting.{IsElement, Each, IsTuple, IsIncreasing, on_tuples}
use Rattle.om_laws.specs.Tuples.{value}
use Rattle.om_laws.proofs.MinorLaws.{deletion_chirotope, contraction_chirotope, skip_below, skip_above}
use Rattle.om_laws.proofs.PulledBackMaps.{pullback_alternating}
use Rattle.om_laws.proofs.SortingLaws.{value_increasing, alternating_equal}
use Rattle.om_laws.proofs.TupleSizes.{is_tuple_cases, on_tuples_at, on_tuples_off, on_tuples_alternating}
use Rattle.om_chirotope.specs.Map.{SignMap, chi_of, value_of}
use Rattle.om_chirotope.specs.Chirotope.{IsChirotope}
use Rattle.om_chirotope.proofs.Theory.{theory_chirotope}
use Rattle.om_denotation.proofs.ChirotopeBridge.{tuples_of}
use Rattle.om_denotation.proofs.Rules.{tuples_by, whole_by, chirotope_by}
use Rattle.om_minors.specs.Minors.{deleted, contracted}
use Rattle.om_minors.proofs.BasisLaws.{HasBasis, avoided, in_base, rank_low}

-- ---- the whole set

-- an increasing list of all n numbers has each of them
whole_set : (low n : ℕ) (xs : List ℕ) → IsSubsetFrom low n xs → length xs ≡ n → (g : ℕ) → low ≤ g → g < low + n
    → IsMember g xs
whole_set low zero xs h l g a b = absurd (omega arith)
whole_set low (suc n) [] h l g a b = absurd (omega arith)
whole_set low (suc n) (x ∷ xs) (inl (q, h)) l g a b = elim (cases_eq g low) [
  | inl p ↦ inl (p ∙ sym q)
  | inr ne ↦ inr (whole_set (low + 1) n xs h (omega arith) g (omega arith) (omega arith))
]
whole_set low (suc n) (x ∷ xs) (inr (q, h)) l g a b = let k = subset_small (low + 1) n (x ∷ xs) h in
    absurd (omega arith)

-- ---- tuples with e skipped

module _ (n e : ℕ) (ie : IsElement (suc n) e) where
  skip_element : (p : ℕ) → IsElement n p → IsElement (suc n) (skip e p)
  skip_element p (a, b) = elim (cases_lt p e) [
    | inl l ↦ (let q = skip_below e p l in (omega (arith, a, q), omega (arith, b, q)))
    | inr g ↦ (let q = skip_above e p g in (omega (arith, a, q), omega (arith, b, q)))
  ]

  element_skip : (p : ℕ) → IsElement (suc n) (skip e p) → IsElement n p
  element_skip p (a, b) =
      let low = ie.0 in
      let high = ie.1 in
      elim (cases_lt p e) [
        | inl l ↦ (let q = skip_below e p l in (omega (arith, a, q), omega (arith, high, l)))
        | inr g ↦ (let q = skip_above e p g in (omega (arith, low, g), omega (arith, b, q)))
      ]

  each_up : (t q : List ℕ) → Each (IsElement (suc n)) q → Each (IsElement n) t
      → Each (IsElement (suc n)) (map (skip e) t ++ q)
  each_up [] q w h = w
  each_up (x ∷ t) q w h = (skip_element x h.0, each_up t q w h.1)

  each_down : (t q : List ℕ) → Each (IsElement (suc n)) (map (skip e) t ++ q) → Each (IsElement n) t
  each_down [] q h = tt
  each_down (x ∷ t) q h = (element_skip x h.0, each_down t q h.1)

  sizes : (t q : List ℕ) → length (map (skip e) t ++ q) ≡ length t + length q
  sizes t q = length-append (map (skip e) t) q ∙ ap (λ k. k + length q) (length-map t (skip e))

  tuple_up : (k r : ℕ) (t q : List ℕ) → k + length q ≡ r → Each (IsElement (suc n)) q → IsTuple n k t
      → IsTuple (suc n) r (map (skip e) t ++ q)
  tuple_up k r t q s w h =
      record { size = sizes t q ∙ ap (λ j. j + length q) h.size ∙ s; within = each_up t q w h.within }

  tuple_down : (k r : ℕ) (t q : List ℕ) → k + length q ≡ r → IsTuple (suc n) r (map (skip e) t ++ q) → IsTuple n k t
  tuple_down k r t q s h = record {
    size = (let a = sizes t q in let b = h.size in omega (arith, a, b, s));
    within = each_down t q h.within;
  }

  -- the map on the tuples that a list stands behind, on increasing lists and on all lists
  pub pulled_tuples : (k r : ℕ) (f : List ℕ → Sign) (q : List ℕ) → k + length q ≡ r → Each (IsElement (suc n)) q
      → (t : List ℕ) → on_tuples n k (pullback (value f) (skip e) q) t ≡ pullback (on_tuples (suc n) r f) (skip e) q t
  pulled_tuples k r f q s w =
      alternating_equal (on_tuples n k (pullback (value f) (skip e) q)) (pullback (on_tuples (suc n) r f) (skip e) q)
      (on_tuples_alternating n k (pullback (value f) (skip e) q))
      (pullback_alternating (skip e) q (on_tuples (suc n) r f) (on_tuples_alternating (suc n) r f)) increasing
    where
      increasing : (t : List ℕ) → IsIncreasing t → on_tuples n k (pullback (value f) (skip e) q) t
          ≡ pullback (on_tuples (suc n) r f) (skip e) q t
      increasing t i = elim (is_tuple_cases n k t) [
        | inl h ↦ on_tuples_at n k (pullback (value f) (skip e) q) t h.0
            ∙ value_increasing (pullback (value f) (skip e) q) t i
            ∙ sym (on_tuples_at (suc n) r f (map (skip e) t ++ q) (tuple_up k r t q s w h.0))
        | inr h ↦ on_tuples_off n k (pullback (value f) (skip e) q) t h.0
            ∙ sym (on_tuples_off (suc n) r f (map (skip e) t ++ q) (λ b. h.0 (tuple_down k r t q s b)))
      ]

-- ---- the two maps

module _ (m : SignMap) (om : IsChirotope m) (e : ℕ) (several : 2 ≤ m.elements) (low : 1 ≤ e)
    (high : e ≤ m.elements) where
  pub one_more : m.elements ≡ suc (m.elements - 1)
  one_more = omega arith

  pub element : IsElement (suc (m.elements - 1)) e
  element = (low, omega arith)

  pub larger_chirotope : theory.IsChirotope (elements_to (suc (m.elements - 1)))
      (on_tuples (suc (m.elements - 1)) m.rank (chi_of m))
  larger_chirotope = subst (λ k. theory.IsChirotope (elements_to k) (on_tuples k m.rank (chi_of m))) one_more
      (theory_chirotope m om)

  pub deleted_tuples : (t : List ℕ) → tuples_of (deleted e m) t
      ≡ deletion e (on_tuples (suc (m.elements - 1)) m.rank (chi_of m)) t
  deleted_tuples t = tuples_by m.rank (m.elements - 1) (deletion e (value_of m)) t
      ∙ pulled_tuples (m.elements - 1) e element m.rank m.rank (chi_of m) [] (omega arith) tt t

  pub contracted_tuples : 1 ≤ m.rank → (t : List ℕ) → tuples_of (contracted e m) t
      ≡ contraction e (on_tuples (suc (m.elements - 1)) m.rank (chi_of m)) t
  contracted_tuples rank t = tuples_by (m.rank - 1) (m.elements - 1) (contraction e (value_of m)) t
      ∙ pulled_tuples (m.elements - 1) e element (m.rank - 1) m.rank (chi_of m) (e ∷ [])
      (let l : length (e ∷ []) ≡ 1 = refl in omega (arith, l, rank)) (element, tt) t

  pub larger_avoided : HasBasis m e false → IsAvoided (on_tuples (suc (m.elements - 1)) m.rank (chi_of m)) e
  larger_avoided b = subst (λ k. IsAvoided (on_tuples k m.rank (chi_of m)) e) one_more (avoided m e b)

  pub larger_in_base : HasBasis m e true → IsInBase (on_tuples (suc (m.elements - 1)) m.rank (chi_of m)) e
  larger_in_base b = subst (λ k. IsInBase (on_tuples k m.rank (chi_of m)) e) one_more (in_base m e b)

  -- a basis that avoids e is smaller than the whole set
  smaller : HasBasis m e false → m.rank ≤ m.elements - 1
  smaller (xs, b, w) = elim (cases_lt m.rank m.elements) [
    | inl l ↦ omega arith
    | inr g ↦
        let part = om.whole.part in
        let s = b.size in
        absurd (false≢true
        (w.1 (whole_set 1 m.elements xs b.list (omega (arith, s, g, part)) e low (omega (arith, high)))))
  ]

  -- the map of the deletion of e is a chirotope, if some basis avoids e
  pub deleted_axioms : HasBasis m e false → IsChirotope (deleted e m)
  deleted_axioms b = chirotope_by (deleted e m) (deletion e (on_tuples (suc (m.elements - 1)) m.rank (chi_of m)))
      (whole_by m.rank (m.elements - 1) (deletion e (value_of m)) (smaller b))
      deleted_tuples
      (deletion_chirotope (m.elements - 1) e element (on_tuples (suc (m.elements - 1)) m.rank (chi_of m))
      larger_chirotope (larger_avoided b))

  -- the map of the contraction of e is a chirotope, if some basis has e
  pub contracted_axioms : HasBasis m e true → IsChirotope (contracted e m)
  contracted_axioms b =
      chirotope_by (contracted e m) (contraction e (on_tuples (suc (m.elements - 1)) m.rank (chi_of m)))
      (whole_by (m.rank - 1) (m.elements - 1) (contraction e (value_of m))
      (let part = om.whole.part in omega (arith, part)))
      (contracted_tuples (rank_low m e b))
      (contraction_chirotope (m.elements - 1) e element (on_tuples (suc (m.elements - 1)) m.rank (chi_of m))
      larger_chirotope (larger_in_base b))
