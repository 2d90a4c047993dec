-- A map is known by its values on tuples, and a chirotope up to sign by its covectors.
--
-- Main results: same_map; same_up_to_sign, same_by_covectors; normal_up_to_sign, one_normal_form.
use Rattle.std.specs.Prelude.{ℕ, ◌≡◌, ◌⊎◌, ◌<◌, List, length, map, refl}
use Rattle.std.proofs.Common.{sym, ◌∙◌, ap, subst, inl, inr, arith}
use Rattle.std.proofs.lemmas.Bool.{cases_lt}
use Rattle.std.proofs.lemmas.List.{ext_get_or, length-map}
use Rattle.om_signs.specs.declared.sign.Sign.{Sign}
use Rattle.om_signs.specs.declared.sign.Sign.TheVariants.{Zero, Plus}
use Rattle.om_signs.specs.Sign.{opposite}
use Rattle.om_signs.specs.SignVec.{at}
use Rattle.om_signs.proofs.SignLaws.{opposite_nonzero, zero_not_minus, zero_not_plus, minus_not_plus}
use Rattle.om_signs.proofs.ListPlaces.{at-map-opposite, map-opposite-opposite}
use Rattle.om_subsets.specs.Subsets.{IsSubsetFrom, choose, subset_at, rank_of}
use Rattle.om_subsets.proofs.Order.{listed}
use Rattle.om_laws.specs.Bridge.{as_function, as_list}
use Rattle.om_laws.specs.Chirotope as theory
use Rattle.om_laws.specs.Chirotope.{elements_to}
use Rattle.om_laws.specs.Covectors.{IsCovector}
use Rattle.om_laws.specs.Circuits.{IsCircuit}
use Rattle.om_laws.specs.Reorientation.{negative}
use Rattle.om_laws.specs.Signs.{IsNonzero}
use Rattle.om_laws.specs.Vectors.{SignVector, IsSupportedOn}
use Rattle.om_laws.proofs.BridgeLaws.{as_function-as_list, length-as_list}
use Rattle.om_laws.proofs.PairCovectors.{covector_same}
use Rattle.om_laws.proofs.SortingLaws.{value_increasing}
use Rattle.om_laws.proofs.TupleSizes.{on_tuples_at, on_tuples_tuple}
use Rattle.om_laws.proofs.UniquenessLaws.{unique}
use Rattle.om_chirotope.specs.Map.{SignMap, IsMap, chi_of, negated, IsLedBy}
use Rattle.om_chirotope.specs.Chirotope.{IsChirotope}
use Rattle.om_chirotope.proofs.Negation.{negated_chirotope}
use Rattle.om_chirotope.proofs.Theory.{theory_chirotope, to_tuple}
use Rattle.om_denotation.specs.Covectors.{IsCovectorOfChirotope}
use Rattle.om_denotation.specs.Denotation.{DenoteTheSame}
use Rattle.om_denotation.proofs.ChirotopeBridge.{tuples_of, increasing_subset, covector_list, covector_function}
use Rattle.om_denotation.specs.Maps.{IsNormalFormOf}
use Rattle.om_denotation.proofs.NormalForms.{tuples_negated}

-- ---- maps by their values

-- the value on an increasing list is its sign
pub tuples_at : (m : SignMap) (xs : List ℕ) → IsSubsetFrom 1 m.elements xs → length xs ≡ m.rank
    → tuples_of m xs ≡ chi_of m xs
tuples_at m xs h l = on_tuples_at m.elements m.rank (chi_of m) xs (to_tuple m.elements m.rank xs h l)
    ∙ value_increasing (chi_of m) xs (increasing_subset m.elements xs h)

same_signs : (n r : ℕ) (xs ys : List Sign) → length xs ≡ choose n r → length ys ≡ choose n r
    → ((t : List ℕ) → IsSubsetFrom 1 n t → length t ≡ r → at xs (rank_of n t) ≡ at ys (rank_of n t)) → xs ≡ ys
same_signs n r xs ys lx ly h = ext_get_or Zero xs ys (lx ∙ sym ly) (λ k l.
    let few : k < choose n r = omega (arith, l, lx) in
    let t = listed 1 n r k few in
    subst (λ j. at xs j ≡ at ys j) t.place (h (subset_at n r k) t.lawful t.size))

-- maps of the same rank, on the same elements, with the same values on all lists are the same
pub same_map : (m k : SignMap) → IsMap m → IsMap k → k.elements ≡ m.elements → k.rank ≡ m.rank
    → ((t : List ℕ) → tuples_of k t ≡ tuples_of m t) → k ≡ m
same_map m k wm wk e r h =
    let s : k.signs ≡ m.signs =
    same_signs m.elements m.rank k.signs m.signs (rw (sym e, sym r) wk.whole) wm.whole (λ t ht lt.
    let hk : IsSubsetFrom 1 k.elements t = rw e ht in
    let lk : length t ≡ k.rank = rw r lt in
    let back : at k.signs (rank_of m.elements t) ≡ at k.signs (rank_of k.elements t) = rw e refl in
    back ∙ sym (tuples_at k t hk lk) ∙ h t ∙ tuples_at m t ht lt) in
    rw (e, r, s) refl

-- ---- up to sign

negated_map : (m : SignMap) → IsMap m → IsMap (negated m)
negated_map m w = record { part = w.part; whole = length-map m.signs opposite ∙ w.whole }

negated_twice : (m : SignMap) → negated (negated m) ≡ m
negated_twice m = let e = map-opposite-opposite m.signs in rw e refl

-- the ranks agree, since some tuple has a nonzero value
same_rank : (m k : SignMap) → IsChirotope m → ((t : List ℕ) → IsNonzero (tuples_of m t) → IsNonzero (tuples_of k t))
    → k.rank ≡ m.rank
same_rank m k om h =
    let b = (theory_chirotope m om).base in
    sym (on_tuples_tuple k.elements k.rank (chi_of k) b.0 (h b.0 b.1)).size
    ∙ (on_tuples_tuple m.elements m.rank (chi_of m) b.0 b.1).size

-- a map with the values of a chirotope, or with all the opposite ones, is the chirotope or its negative
pub same_up_to_sign : (m k : SignMap) → IsChirotope m → IsMap k → k.elements ≡ m.elements
    → ((t : List ℕ) → tuples_of k t ≡ tuples_of m t) ⊎ ((t : List ℕ) → tuples_of k t ≡ negative (tuples_of m) t)
    → (k ≡ m) ⊎ (k ≡ negated m)
same_up_to_sign m k om wk e (inl h) =
    inl (same_map m k om.whole wk e (same_rank m k om (λ t n. subst IsNonzero (sym (h t)) n)) h)
same_up_to_sign m k om wk e (inr h) =
    inr (same_map (negated m) k (negated_map m om.whole) wk e
    (same_rank m k om (λ t n. subst IsNonzero (sym (h t)) (opposite_nonzero (tuples_of m t) n)))
    (λ t. h t ∙ sym (tuples_negated m t)))

-- chirotopes with the same covectors are the same up to sign
pub same_by_covectors : (m k : SignMap) → IsChirotope m → IsChirotope k → k.elements ≡ m.elements
    → DenoteTheSame m.elements (IsCovectorOfChirotope m) (IsCovectorOfChirotope k) → (k ≡ m) ⊎ (k ≡ negated m)
same_by_covectors m k om ok e same = same_up_to_sign m k om ok.whole e
    (unique (elements_to m.elements) (tuples_of k) (tuples_of m)
    (subst (λ n. theory.IsChirotope (elements_to n) (tuples_of k)) e (theory_chirotope k ok))
    (theory_chirotope m om) forth back)
  where
    listed_back : (F : SignVector) → IsSupportedOn (elements_to m.elements) F → (j : SignMap) → j.elements ≡ m.elements
        → IsCovectorOfChirotope j (as_list m.elements F) → IsCovector (elements_to m.elements) (tuples_of j) F
    listed_back F s j q c =
        covector_same (elements_to m.elements) (IsCircuit (elements_to m.elements) (tuples_of j)) F
        (as_function (as_list m.elements F)) (λ i. sym (as_function-as_list m.elements F s i))
        (subst (λ n. IsCovector (elements_to n) (tuples_of j) (as_function (as_list m.elements F))) q
        (covector_function j (as_list m.elements F) c))

    forth : (F : SignVector) → IsCovector (elements_to m.elements) (tuples_of k) F
        → IsCovector (elements_to m.elements) (tuples_of m) F
    forth F f =
        let g = subst (λ n. IsCovector (elements_to n) (tuples_of k) F) (sym e) f in
        let l = subst (λ n. IsCovectorOfChirotope k (as_list n F)) e (covector_list k F g) in
        listed_back F f.supported m refl ((same (as_list m.elements F) (length-as_list m.elements F)).1 l)

    back : (F : SignVector) → IsCovector (elements_to m.elements) (tuples_of m) F
        → IsCovector (elements_to m.elements) (tuples_of k) F
    back F f =
        listed_back F f.supported k e
        ((same (as_list m.elements F) (length-as_list m.elements F)).0 (covector_list m F f))

-- ---- normal forms

-- a normal form of a map is also one of the negative of the map
pub normal_up_to_sign : (m k a : SignMap) → (k ≡ m) ⊎ (k ≡ negated m) → IsNormalFormOf m a → IsNormalFormOf k a
normal_up_to_sign m k a (inl q) h = subst (λ j. IsNormalFormOf j a) (sym q) h
normal_up_to_sign m k a (inr q) h =
    subst (λ j. IsNormalFormOf j a) (sym q) (record { same = turned h.same; normal = h.normal })
  where
    turned : (a ≡ m) ⊎ (a ≡ negated m) → (a ≡ negated m) ⊎ (a ≡ negated (negated m))
    turned (inl p) = inr (p ∙ sym (negated_twice m))
    turned (inr p) = inl p

-- if a map is another one or its negative, this one is the map or its negative
pub flipped : (m k : SignMap) → (k ≡ m) ⊎ (k ≡ negated m) → (m ≡ k) ⊎ (m ≡ negated k)
flipped m k (inl q) = inl (sym q)
flipped m k (inr q) = inr (sym (ap negated q ∙ negated_twice m))

led_once : (xs : List Sign) → IsLedBy Plus xs → IsLedBy Plus (map opposite xs) → ⊥
led_once xs (i, p, before) (j, q, former) = elim (cases_lt i j) [
  | inl l ↦ zero_not_minus (sym (former i l) ∙ at-map-opposite xs i ∙ ap opposite p)
  | inr g ↦ elim (cases_lt j i) [
    | inl l ↦ zero_not_plus (sym (ap opposite (before j l)) ∙ sym (at-map-opposite xs j) ∙ q)
    | inr k ↦ let e : i ≡ j = omega arith in
        minus_not_plus (sym (ap opposite p) ∙ sym (at-map-opposite xs i) ∙ ap (at (map opposite xs)) e ∙ q)
  ]
]

-- a map has at most one normal form
pub one_normal_form : (m a b : SignMap) → IsNormalFormOf m a → IsNormalFormOf m b → a ≡ b
one_normal_form m a b h k = by_case h.same k.same
  where
    by_case : (a ≡ m) ⊎ (a ≡ negated m) → (b ≡ m) ⊎ (b ≡ negated m) → a ≡ b
    by_case (inl p) (inl q) = p ∙ sym q
    by_case (inl p) (inr q) =
        absurd (led_once m.signs (subst (λ j. IsLedBy Plus j.signs) p h.normal)
        (subst (λ j. IsLedBy Plus j.signs) q k.normal))
    by_case (inr p) (inl q) =
        absurd (led_once m.signs (subst (λ j. IsLedBy Plus j.signs) q k.normal)
        (subst (λ j. IsLedBy Plus j.signs) p h.normal))
    by_case (inr p) (inr q) = p ∙ sym q

-- a normal form of a chirotope is a chirotope
pub normal_axioms : (m d : SignMap) → IsChirotope m → IsNormalFormOf m d → IsChirotope d
normal_axioms m d om h = by_case h.same
  where
    by_case : (d ≡ m) ⊎ (d ≡ negated m) → IsChirotope d
    by_case (inl q) = subst IsChirotope (sym q) om
    by_case (inr q) = subst IsChirotope (sym q) (negated_chirotope m om)
