-- Reorientations of maps and of lists of signs.
--
-- Main results: turned_odd, turned_even, the sign of the elements that a mask names; reoriented_tuples,
-- reoriented_axioms, is_reorientation; twice.
use Rattle.std.specs.Prelude.{ℕ, ◌≡◌, ◌≢◌, ◌⊎◌, ◌+◌, ◌-◌, ◌/◌, ◌%◌, ◌<◌, ◌≤◌, List, [], ◌∷◌, ◌++◌, length, map}
use Rattle.std.specs.Prelude.{nat_eq, bit_and, Bool, true, false, refl, cond, slice_get, Some}
use Rattle.std.specs.Int.{bit_at}
use Rattle.std.proofs.Common.{zero, suc, sym, ◌∙◌, ap, inl, inr, arith, set}
use Rattle.std.proofs.lemmas.Bool.{cases_eq, eq-eqb, ne_eqb}
use Rattle.std.proofs.lemmas.List.{ext_get_or, length-append, length-map, length-set, get_or-map, get_or-set_same}
use Rattle.std.proofs.lemmas.List.{get_or-set_other}
use Rattle.std.proofs.lemmas.Option.{get_or_from_slice_get}
use Rattle.std.proofs.lemmas.Nat.Bits.{bit_at_lowest, bit_at-suc}
use Rattle.om_signs.specs.declared.sign.Sign.{Sign}
use Rattle.om_signs.specs.declared.sign.Sign.TheVariants.{Minus, Zero, Plus}
use Rattle.om_signs.specs.Sign.{opposite, product}
use Rattle.om_signs.specs.SignVec.{at, flip}
use Rattle.om_signs.proofs.ListPlaces.{at-flip_from, length-flip_from}
use Rattle.om_signs.proofs.SignLaws.{product-zero, product-opposite_right, product_twice}
use Rattle.om_signs.proofs.Bits.{bit_and-half, bit_and-lowest}
use Rattle.om_subsets.specs.Members.{Chosen, members, mask_of}
use Rattle.om_subsets.specs.Subsets.{IsSubsetFrom, choose, all_subsets, subset_at}
use Rattle.om_subsets.proofs.Masks.{members-mask_of}
use Rattle.om_subsets.proofs.Order.{length-subsets_from, listed}
use Rattle.om_laws.specs.Bridge.{as_function}
use Rattle.om_laws.specs.Chirotope.{elements_to}
use Rattle.om_laws.specs.Circuits.{IsCircuit}
use Rattle.om_laws.specs.Reorientation.{turning, signs_product, reoriented, turned, negative}
use Rattle.om_laws.specs.Sorting.{IsIncreasing, on_tuples}
use Rattle.om_laws.proofs.PairCovectors.{covector_same}
use Rattle.om_laws.proofs.TurnedVectors.{signs_product_nonzero}
use Rattle.om_laws.proofs.ReorientationLaws.{reoriented_chirotope, covector_turned}
use Rattle.om_laws.proofs.SortingLaws.{value_increasing, alternating_equal}
use Rattle.om_laws.proofs.TupleSizes.{is_tuple_cases, on_tuples_at, on_tuples_off, on_tuples_alternating}
use Rattle.om_chirotope.specs.Map.{SignMap, chi_of, negated, parity_sign}
use Rattle.om_chirotope.specs.Chirotope.{IsChirotope}
use Rattle.om_chirotope.proofs.Circuits.{parity_sign-suc}
use Rattle.om_chirotope.proofs.NumberedSets.{IsNumberedTurn}
use Rattle.om_chirotope.proofs.Theory.{theory_chirotope}
use Rattle.om_denotation.specs.Covectors.{IsCovectorOfChirotope}
use Rattle.om_denotation.specs.Operations.{IsReorientation}
use Rattle.om_denotation.proofs.ChirotopeBridge.{tuples_of}
use Rattle.om_denotation.specs.Maps.{IsNormalFormOf}
use Rattle.om_denotation.proofs.ListingSigns.{even_parity, odd_parity}
use Rattle.om_denotation.proofs.NormalForms.{tuples_negated, covector_both, which_covectors, normal_elements}
use Rattle.om_denotation.proofs.Uniqueness.{same_up_to_sign, normal_up_to_sign, normal_axioms, flipped}
use Rattle.om_denotation.proofs.Rules.{tuples_by, whole_by, chirotope_by}
use Rattle.om_minors.specs.Minors.{names, reoriented_on}

-- ---- the sign of the elements that a mask names

-- b has the bits of the mask from that of the element low on
turning_members : (a b mask low m : ℕ) → ((i : ℕ) → i < m → bit_at b i ≡ bit_at mask (low - 1 + i)) → 1 ≤ low
    → signs_product (turning (names mask)) (members a low m) ≡ parity_sign (length (members (bit_and a b) low m))
turning_members a b mask low zero h l = refl
turning_members a b mask low (suc m) h l =
    let both = bit_and-lowest a b in
    let here : bit_at mask (low - 1) ≡ b % 2 = (let q : low - 1 ≡ low - 1 + 0 = omega arith in ap (bit_at mask) q)
    ∙ sym (h 0 (omega arith)) ∙ bit_at_lowest b in
    let rest : signs_product (turning (names mask)) (members (a / 2) (low + 1) m)
    ≡ parity_sign (length (members (bit_and a b / 2) (low + 1) m)) =
    turning_members (a / 2) (b / 2) mask (low + 1) m
    (λ i u. sym (bit_at-suc b i) ∙ h (suc i) (omega arith)
    ∙ (let q : low - 1 + suc i ≡ low + 1 - 1 + i = omega arith in ap (bit_at mask) q)) (omega arith)
    ∙ ap (λ x. parity_sign (length (members x (low + 1) m))) (sym (bit_and-half a b)) in
    elim (cases_eq (a % 2) 1) [
      | inl o ↦ elim (cases_eq (b % 2) 1) [
        | inl p ↦
            let q : bit_and a b % 2 ≡ 1 = omega (arith, both, o, p) in
            let n : bit_at mask (low - 1) ≡ 1 = here ∙ p in
            rw (eq-eqb (a % 2) 1 o, eq-eqb (bit_and a b % 2) 1 q, eq-eqb (bit_at mask (low - 1)) 1 n)
            (ap opposite rest ∙ sym (parity_sign-suc (length (members (bit_and a b / 2) (low + 1) m))))
        | inr p ↦
            let q : bit_and a b % 2 ≢ 1 = omega (arith, both, o, p) in
            let n : bit_at mask (low - 1) ≢ 1 = (λ z. p (sym here ∙ z)) in
            rw (eq-eqb (a % 2) 1 o, ne_eqb (bit_and a b % 2) 1 q, ne_eqb (bit_at mask (low - 1)) 1 n) rest
      ]
      | inr o ↦
          let q : bit_and a b % 2 ≢ 1 = omega (arith, both, o) in
          rw (ne_eqb (a % 2) 1 o, ne_eqb (bit_and a b % 2) 1 q) rest
    ]

turning_set : (n mask : ℕ) (xs : List ℕ) → IsSubsetFrom 1 n xs
    → signs_product (turning (names mask)) xs ≡ parity_sign (length (members (bit_and (mask_of 1 xs n) mask) 1 n))
turning_set n mask xs h =
    ap (signs_product (turning (names mask))) (sym (members-mask_of 1 n xs h))
    ∙ turning_members (mask_of 1 xs n) mask mask 1 n (λ i u. let q : i ≡ 1 - 1 + i = omega arith in ap (bit_at mask) q)
    (omega arith)

pub turned_odd : (n mask : ℕ) (xs : List ℕ) → IsSubsetFrom 1 n xs
    → length (members (bit_and (mask_of 1 xs n) mask) 1 n) % 2 ≡ 1 → Minus ≡ signs_product (turning (names mask)) xs
turned_odd n mask xs h o =
    sym (turning_set n mask xs h ∙ odd_parity (length (members (bit_and (mask_of 1 xs n) mask) 1 n)) o)

pub turned_even : (n mask : ℕ) (xs : List ℕ) → IsSubsetFrom 1 n xs
    → (length (members (bit_and (mask_of 1 xs n) mask) 1 n) % 2 ≡ 1 → ⊥)
    → Plus ≡ signs_product (turning (names mask)) xs
turned_even n mask xs h e =
    sym (turning_set n mask xs h ∙ even_parity (length (members (bit_and (mask_of 1 xs n) mask) 1 n)) e)

-- ---- the loop over the signs

-- the sign at each of the first k places is turned as its set says
abbrev pub AreTurnedBelow : SignMap → ℕ → List Sign → ℕ → Type 0
AreTurnedBelow m mask signs k = (j : ℕ) → j < k
    → at signs j ≡ product (signs_product (turning (names mask)) (subset_at m.elements m.rank j)) (at m.signs j)

pub turned_more : (m : SignMap) (mask : ℕ) (signs new : List Sign) (k : ℕ) (item sign sigma : Sign) (s : List ℕ)
    → k < length signs → new ≡ set signs k item → item ≡ product sigma sign → at signs k ≡ sign
    → sigma ≡ signs_product (turning (names mask)) s → s ≡ subset_at m.elements m.rank k
    → at signs k ≡ at m.signs k → AreTurnedBelow m mask signs k → AreTurnedBelow m mask new (k + 1)
turned_more m mask signs new k item sign sigma s lt qn qi qs qt qe same h j l = elim (cases_eq j k) [
  | inl q ↦ ap (λ z. at z j) qn ∙ ap (at (set signs k item)) q ∙ get_or-set_same signs k item Zero lt ∙ qi
      ∙ ap (product sigma) (sym qs ∙ same)
      ∙ ap (λ z. product z (at m.signs k)) (qt ∙ ap (signs_product (turning (names mask))) qe)
      ∙ ap (λ i. product (signs_product (turning (names mask)) (subset_at m.elements m.rank i)) (at m.signs i)) (sym q)
  | inr n ↦ ap (λ z. at z j) qn ∙ get_or-set_other signs k j item Zero n ∙ h j (omega arith)
]

pub turned_rest : (signs new old : List Sign) (k : ℕ) (item : Sign) → new ≡ set signs k item
    → ((j : ℕ) → k ≤ j → at signs j ≡ at old j) → (j : ℕ) → k + 1 ≤ j → at new j ≡ at old j
turned_rest signs new old k item qn h j l = let n : j ≢ k = omega arith in ap (λ z. at z j) qn
    ∙ get_or-set_other signs k j item Zero n ∙ h j (omega arith)

-- the signs of the first k lists are turned, and the others are as before
pub record AreTurnedTo (m : SignMap) (mask : ℕ) (signs : List Sign) (k : ℕ) : Type 0 where
  pub size : length signs ≡ choose m.elements m.rank
  pub done : AreTurnedBelow m mask signs k
  pub rest : (j : ℕ) → k ≤ j → at signs j ≡ at m.signs j

-- the turn of the list that comes with its number, for `turned`
pub turned_on : (m : SignMap) (mask : ℕ) (signs new : List Sign) (xs : List (ℕ × Chosen)) (x : ℕ × Chosen)
    (item sign sigma : Sign) → IsNumberedTurn m.elements m.rank (length xs) x → slice_get signs x.0 ≡ Some sign
    → sigma ≡ signs_product (turning (names mask)) x.1.elements → item ≡ product sigma sign → new ≡ set signs x.0 item
    → AreTurnedTo m mask signs (length xs) → AreTurnedTo m mask new (length (xs ++ x ∷ []))
turned_on m mask signs new xs x item sign sigma turn read turning times written h =
    let inside = turn.turn.inside in
    let size = h.size in
    let here : new ≡ set signs (length xs) item = written ∙ ap (λ k. set signs k item) turn.number in
    let read_here : at signs (length xs) ≡ sign = get_or_from_slice_get signs (length xs) sign Zero
    (sym (ap (slice_get signs) turn.number) ∙ read) in
    rw (length-append xs (x ∷ [])) (record {
      size = ap length here ∙ length-set signs (length xs) item ∙ size;
      done = turned_more m mask signs new (length xs) item sign sigma x.1.elements (omega (arith, inside, size)) here
          times read_here turning turn.turn.here (h.rest (length xs) (omega arith)) h.done;
      rest = turned_rest signs new m.signs (length xs) item here h.rest;
    })

pub turned_all : (m : SignMap) (mask : ℕ) (signs : List Sign) (r n k : ℕ) → r ≡ m.rank → n ≡ m.elements
    → length signs ≡ choose m.elements m.rank → choose m.elements m.rank ≤ k → AreTurnedBelow m mask signs k
    → record { rank = r; elements = n; signs = signs } ≡ reoriented_on mask m
turned_all m mask signs r n k er en l le h =
    let rule = reoriented (names mask) (chi_of m) in
    let all = length-subsets_from 1 m.elements m.rank in
    let size : length signs ≡ length (map (reoriented (names mask) (chi_of m)) (all_subsets m.elements m.rank)) = l
    ∙ sym (length-map (all_subsets m.elements m.rank) (reoriented (names mask) (chi_of m)) ∙ all) in
    let es : signs ≡ map (reoriented (names mask) (chi_of m)) (all_subsets m.elements m.rank) =
    ext_get_or Zero signs (map (reoriented (names mask) (chi_of m)) (all_subsets m.elements m.rank)) size (λ j lt.
    let few : j < choose m.elements m.rank = omega (arith, lt, l) in
    let inside : j < length (all_subsets m.elements m.rank) = omega (arith, few, all) in
    let t = listed 1 m.elements m.rank j few in
    h j (omega (arith, few, le))
    ∙ ap (λ i. product (signs_product (turning (names mask)) (subset_at m.elements m.rank j)) (at m.signs i))
    (sym t.place)
    ∙ sym (get_or-map (reoriented (names mask) (chi_of m)) (all_subsets m.elements m.rank) j [] Zero inside)) in
    rw (er, en, es) refl

-- ---- the map, by the theory

module _ (m : SignMap) (om : IsChirotope m) (mask : ℕ) where
  pub reoriented_tuples : (t : List ℕ) → tuples_of (reoriented_on mask m) t ≡ reoriented (names mask) (tuples_of m) t
  reoriented_tuples t = tuples_by m.rank m.elements (reoriented (names mask) (chi_of m)) t ∙ alternating_equal
      (on_tuples m.elements m.rank (reoriented (names mask) (chi_of m))) (reoriented (names mask) (tuples_of m))
      (on_tuples_alternating m.elements m.rank (reoriented (names mask) (chi_of m)))
      (reoriented_chirotope (names mask) (elements_to m.elements) (tuples_of m) (theory_chirotope m om)).alternating
      increasing t
    where
      increasing : (t : List ℕ) → IsIncreasing t → on_tuples m.elements m.rank (reoriented (names mask) (chi_of m)) t
          ≡ reoriented (names mask) (tuples_of m) t
      increasing t i = elim (is_tuple_cases m.elements m.rank t) [
        | inl h ↦ on_tuples_at m.elements m.rank (reoriented (names mask) (chi_of m)) t h.0
            ∙ value_increasing (reoriented (names mask) (chi_of m)) t i
            ∙ sym (ap (product (signs_product (turning (names mask)) t))
            (on_tuples_at m.elements m.rank (chi_of m) t h.0 ∙ value_increasing (chi_of m) t i))
        | inr h ↦ on_tuples_off m.elements m.rank (reoriented (names mask) (chi_of m)) t h.0
            ∙ sym (ap (product (signs_product (turning (names mask)) t))
            (on_tuples_off m.elements m.rank (chi_of m) t h.0)
            ∙ product-zero (signs_product (turning (names mask)) t))
      ]

  -- the reorientation of a chirotope on a mask is a chirotope
  pub reoriented_axioms : IsChirotope (reoriented_on mask m)
  reoriented_axioms = chirotope_by (reoriented_on mask m) (reoriented (names mask) (tuples_of m))
      (whole_by m.rank m.elements (reoriented (names mask) (chi_of m)) om.whole.part)
      reoriented_tuples
      (reoriented_chirotope (names mask) (elements_to m.elements) (tuples_of m) (theory_chirotope m om))

  flipped_function : (X : List Sign) (p : ℕ) → as_function (flip mask X) p ≡ turned (names mask) (as_function X) p
  flipped_function X zero = sym (product-zero (turning (names mask) 0))
  flipped_function X (suc i) =
      let a : 0 + i ≡ i = omega arith in
      let b : suc i - 1 ≡ i = omega arith in
      at-flip_from 0 mask X i ∙ rw (a, b) (by_case (nat_eq (bit_at mask i) 1) (at X i))
    where
      by_case : (c : Bool) (s : Sign) → cond c (opposite s) s ≡ product (cond c Minus Plus) s
      by_case true s = refl
      by_case false s = refl

  -- the normal form of a chirotope reoriented on a mask denotes the reorientation of what the chirotope denotes
  pub is_reorientation : (d : SignMap) → IsNormalFormOf (reoriented_on mask m) d
      → IsReorientation m.elements mask (IsCovectorOfChirotope m) (IsCovectorOfChirotope d)
  is_reorientation d h X l =
      let E = elements_to m.elements in
      let T = tuples_of m in
      let which = which_covectors (reoriented_on mask m) d (reoriented (names mask) T) h reoriented_tuples X l in
      let both = covector_turned (names mask) E T (as_function X) in
      let list = covector_both m (flip mask X) (length-flip_from 0 mask X ∙ l) in (
        (λ c. list.1
            (covector_same E (IsCircuit E T) (as_function (flip mask X)) (turned (names mask) (as_function X))
            (flipped_function X) (both.0 (which.0 c)))),
        (λ c. which.1
            (both.1 (covector_same E (IsCircuit E T) (turned (names mask) (as_function X)) (as_function (flip mask X))
            (λ p. sym (flipped_function X p)) (list.0 c)))),
      )

-- ---- twice on one set

signs_twice : (set : ℕ → Bool) (chi : List ℕ → Sign) (t : List ℕ) → reoriented set (reoriented set chi) t ≡ chi t
signs_twice set chi t = product_twice (signs_product (turning set) t) (chi t) (signs_product_nonzero set t)

signs_negative : (set : ℕ → Bool) (chi : List ℕ → Sign) (t : List ℕ)
    → reoriented set (negative chi) t ≡ negative (reoriented set chi) t
signs_negative set chi t = product-opposite_right (signs_product (turning set) t) (chi t)

module _ (m : SignMap) (om : IsChirotope m) (mask : ℕ) where
  once : (t : List ℕ) → reoriented (names mask) (tuples_of (reoriented_on mask m)) t ≡ tuples_of m t
  once t = ap (product (signs_product (turning (names mask)) t)) (reoriented_tuples m om mask t)
      ∙ signs_twice (names mask) (tuples_of m) t

  back : (a : SignMap) → IsNormalFormOf (reoriented_on mask m) a
      → ((t : List ℕ) → tuples_of (reoriented_on mask a) t ≡ tuples_of m t)
      ⊎ ((t : List ℕ) → tuples_of (reoriented_on mask a) t ≡ negative (tuples_of m) t)
  back a h = by_case h.same
    where
      by_case : (a ≡ reoriented_on mask m) ⊎ (a ≡ negated (reoriented_on mask m))
          → ((t : List ℕ) → tuples_of (reoriented_on mask a) t ≡ tuples_of m t)
          ⊎ ((t : List ℕ) → tuples_of (reoriented_on mask a) t ≡ negative (tuples_of m) t)
      by_case (inl q) =
          inl (λ t. reoriented_tuples a (normal_axioms (reoriented_on mask m) a (reoriented_axioms m om mask) h) mask t
          ∙ ap (λ k. product (signs_product (turning (names mask)) t) (tuples_of k t)) q ∙ once t)
      by_case (inr q) =
          inr (λ t. reoriented_tuples a (normal_axioms (reoriented_on mask m) a (reoriented_axioms m om mask) h) mask t
          ∙ ap (λ k. product (signs_product (turning (names mask)) t) (tuples_of k t)) q
          ∙ ap (product (signs_product (turning (names mask)) t)) (tuples_negated (reoriented_on mask m) t)
          ∙ signs_negative (names mask) (tuples_of (reoriented_on mask m)) t ∙ ap opposite (once t))

  pub twice_normal : (a b : SignMap) → IsNormalFormOf (reoriented_on mask m) a → IsNormalFormOf (reoriented_on mask a) b
      → IsNormalFormOf m b
  twice_normal a b h k =
      let oa = normal_axioms (reoriented_on mask m) a (reoriented_axioms m om mask) h in
      normal_up_to_sign (reoriented_on mask a) m b
      (flipped m (reoriented_on mask a)
      (same_up_to_sign m (reoriented_on mask a) om (reoriented_axioms a oa mask).whole
      (normal_elements (reoriented_on mask m) a h) (back a h))) k
