-- The dual of a chirotope of a given rank, on increasing lists; the dual of the dual up to one sign.
--
-- Main results: a range increases (range_increasing); a complement has the size that is left (length_complement); the
-- dual of the map of rank r on n elements is the map of rank n - r that is given on increasing lists by
-- dual_on_increasing (dual_of_on_tuples); the dual of the dual is the map or its negative (dual_dual_up_to_sign), and
-- the sign is that of as many negations as the product of the sizes of a tuple and its complement (dual_dual_times).
-- Reference: Björner, Las Vergnas, Sturmfels, White and Ziegler, Oriented Matroids, chapter 3.
use Rattle.std.specs.Prelude.{ℕ, ◌≡◌, ◌+◌, ◌-◌, ◌≤◌, ◌*◌, refl, ◌⊎◌, List, [], ◌∷◌, ◌++◌, length}
use Rattle.std.proofs.Common.{zero, suc, arith, inl, inr, sym, ◌∙◌, ap, ⊎_elim}
use Rattle.std.proofs.lemmas.List.{length-append}
use Rattle.std.proofs.lemmas.List.FromFn.{length-range_with_len}
use Rattle.std.proofs.Math.Nat.{suc-mul}
use Rattle.std.specs.List.{range_with_len}
use Rattle.om_signs.specs.declared.sign.Sign.{Sign}
use Rattle.om_signs.specs.declared.sign.Sign.TheVariants.{Zero, Plus}
use Rattle.om_signs.specs.Sign.{opposite, product}
use Rattle.om_signs.proofs.SignLaws.{plus_nonzero, zero_or_nonzero, product_zero_right, plus_or_minus}
use Rattle.om_laws.specs.Chirotope.{IsChirotope, elements_to}
use Rattle.om_laws.specs.Dual.{dual_map, complement, dual_on_increasing}
use Rattle.om_laws.specs.Members.{IsDistinct, AreAmong}
use Rattle.om_laws.specs.Signs.{IsNonzero, negated_times}
use Rattle.om_laws.specs.Sorting.{IsIncreasing, IsTuple, IsElement, on_tuples}
use Rattle.om_laws.specs.Tuples.{sort_sign}
use Rattle.om_laws.proofs.BlockLaws.{same_members, negated_for, negated_for_nonzero, negated_for_pairs}
use Rattle.om_laws.proofs.BlockLaws.{negated_for_times, negated_for_zero}
use Rattle.om_laws.proofs.ChirotopeLaws.{elements_distinct, element_from_member, member_from_element}
use Rattle.om_laws.proofs.Complements.{is_member_cases, are_members_cases, complement_is_complement, complement_joined}
use Rattle.om_laws.proofs.DualMaps.{dual_among, dual_off, dual_nonzero_among, dual_alternating}
use Rattle.om_laws.proofs.DualLaws.{dual_dual}
use Rattle.om_laws.proofs.MemberLaws.{member_or_not, member_append, member_left, member_right}
use Rattle.om_laws.proofs.SortingLaws.{IsAboveEach, increasing_head, increasing_tail, increasing_distinct}
use Rattle.om_laws.proofs.SortingLaws.{value_increasing, alternating_equal}
use Rattle.om_laws.proofs.TupleLaws.{nonzero_distinct}
use Rattle.om_laws.proofs.TupleSizes.{each_from, on_tuples_at, on_tuples_off, on_tuples_alternating}
use Rattle.om_laws.proofs.TupleSizes.{is_tuple_cases, length_swap, each_member}

-- ---- sizes

-- a list and its complement have all elements
pub length_complement : (E a : List ℕ) → IsDistinct E → IsDistinct a → AreAmong E a
    → length a + length (complement E a) ≡ length E
length_complement E a de da i =
    let k = complement_is_complement E a de in
    sym (length-append a (complement E a))
    ∙ same_members (λ l. length l ≡ length E) (λ u x y v q. length_swap u y x v ∙ q) E [] (a ++ complement E a) de
    (complement_joined E a (complement E a) da k)
    (λ g m. ⊎_elim (λ j. member_left g a (complement E a) j) (λ o. member_right g a (complement E a) (k.all g m o))
    (member_or_not g a))
    (λ g m. ⊎_elim (λ j. i g j) (λ j. k.among g j) (member_append g a (complement E a) m))
    refl

increasing_from_head : (x : ℕ) (xs : List ℕ) → IsAboveEach x xs → IsIncreasing xs → IsIncreasing (x ∷ xs)
increasing_from_head x [] a i = tt
increasing_from_head x (y ∷ ys) a i = (a.0, i)

complement_above : (x : ℕ) (E a : List ℕ) → IsAboveEach x E → IsAboveEach x (complement E a)
complement_above x [] a h = tt
complement_above x (e ∷ E) a h = elim (is_member_cases e a) [
  | inl k ↦ rw k.1 (complement_above x E a h.1)
  | inr k ↦ rw k.1 (h.0, complement_above x E a h.1)
]

-- the complement of any list in an increasing list increases
pub complement_increasing : (E a : List ℕ) → IsIncreasing E → IsIncreasing (complement E a)
complement_increasing [] a i = tt
complement_increasing (e ∷ E) a i = elim (is_member_cases e a) [
  | inl k ↦ rw k.1 (complement_increasing E a (increasing_tail e E i))
  | inr k ↦
      rw k.1 (increasing_from_head e (complement E a) (complement_above e E a (increasing_head e E i))
      (complement_increasing E a (increasing_tail e E i)))
]

pub tuple_among : (n k : ℕ) (a : List ℕ) → IsTuple n k a → AreAmong (elements_to n) a
tuple_among n k a t g m = member_from_element n g (each_member (IsElement n) a t.within g m)

-- the list of k successive numbers from low on increases
pub range_increasing : (low k : ℕ) → IsIncreasing (range_with_len low k)
range_increasing low zero = tt
range_increasing low (suc zero) = tt
range_increasing low (suc (suc k)) = (omega arith, range_increasing (low + 1) (suc k))

module _ (n r : ℕ) (f : List ℕ → Sign) (le : r ≤ n) where
  sizes : (a : List ℕ) → IsDistinct a → AreAmong (elements_to n) a
      → length a + length (complement (elements_to n) a) ≡ n
  sizes a d i = length_complement (elements_to n) a (elements_distinct n) d i ∙ length-range_with_len 1 n

  tuple_from_among : (k : ℕ) (a : List ℕ) → length a ≡ k → AreAmong (elements_to n) a → IsTuple n k a
  tuple_from_among k a q i =
      record { size = q; within = each_from (IsElement n) a (λ e m. element_from_member n e (i e m)) }

  complement_tuple : (k l : ℕ) (a : List ℕ) → k + l ≡ n → IsDistinct a → IsTuple n k a
      → IsTuple n l (complement (elements_to n) a)
  complement_tuple k l a q d t =
      let s = sizes a d (tuple_among n k a t) in
      let z = t.size in
      tuple_from_among l (complement (elements_to n) a) (omega (arith, q, s, z))
      (complement_is_complement (elements_to n) a (elements_distinct n)).among

  on_increasing : (a : List ℕ) → IsIncreasing a → dual_map (elements_to n) (on_tuples n r f) a
      ≡ on_tuples n (n - r) (dual_on_increasing n f) a
  on_increasing a i = elim (is_tuple_cases n (n - r) a) [
    | inl t ↦
        let among = tuple_among n (n - r) a t.0 in
        let c : IsTuple n r (complement (elements_to n) a) =
        complement_tuple (n - r) r a (omega arith) (increasing_distinct a i) t.0 in
        dual_among (elements_to n) (elements_distinct n) (on_tuples n r f) (on_tuples_alternating n r f) a among
        ∙ ap (product (sort_sign (a ++ complement (elements_to n) a)))
        (on_tuples_at n r f (complement (elements_to n) a) c
        ∙ value_increasing f (complement (elements_to n) a)
        (complement_increasing (elements_to n) a (range_increasing 1 n)))
        ∙ sym (on_tuples_at n (n - r) (dual_on_increasing n f) a t.0 ∙ value_increasing (dual_on_increasing n f) a i)
    | inr t ↦ elim (are_members_cases (elements_to n) a) [
      | inl m ↦ dual_among (elements_to n) (elements_distinct n) (on_tuples n r f) (on_tuples_alternating n r f) a m.0
          ∙ product_zero_right (sort_sign (a ++ complement (elements_to n) a))
          (on_tuples n r f (complement (elements_to n) a))
          (on_tuples_off n r f (complement (elements_to n) a)
          (λ c. (let s = sizes a (increasing_distinct a i) m.0 in let z = c.size in
          t.0 (tuple_from_among (n - r) a (omega (arith, s, z)) m.0))))
          ∙ sym (on_tuples_off n (n - r) (dual_on_increasing n f) a t.0)
      | inr m ↦ dual_off (elements_to n) (elements_distinct n) (on_tuples n r f) (on_tuples_alternating n r f) a m.0
          ∙ sym (on_tuples_off n (n - r) (dual_on_increasing n f) a t.0)
    ]
  ]

  -- if r ≤ n, the dual of a map of rank r on 1 to n is that of rank n - r which complements give on increasing lists
  pub dual_of_on_tuples : (a : List ℕ) → dual_map (elements_to n) (on_tuples n r f) a
      ≡ on_tuples n (n - r) (dual_on_increasing n f) a
  dual_of_on_tuples = alternating_equal (dual_map (elements_to n) (on_tuples n r f))
      (on_tuples n (n - r) (dual_on_increasing n f))
      (dual_alternating (elements_to n) (elements_distinct n) (on_tuples n r f) (on_tuples_alternating n r f))
      (on_tuples_alternating n (n - r) (dual_on_increasing n f)) on_increasing

-- ---- the dual of the dual, up to one sign

negated_for_length : (b b' : List ℕ) (s : Sign) → length b ≡ length b' → negated_for b s ≡ negated_for b' s
negated_for_length [] [] s q = refl
negated_for_length [] (y ∷ b') s q = absurd (let l : length (y ∷ b') ≡ suc (length b') = refl in omega (arith, q, l))
negated_for_length (x ∷ b) [] s q = absurd (let l : length (x ∷ b) ≡ suc (length b) = refl in omega (arith, q, l))
negated_for_length (x ∷ b) (y ∷ b') s q =
    ap opposite
    (negated_for_length b b' s (let l : length (x ∷ b) ≡ suc (length b) = refl in
    let k : length (y ∷ b') ≡ suc (length b') = refl in omega (arith, q, l, k)))

pairs_length : (a a' b b' : List ℕ) (s : Sign) → length a ≡ length a' → length b ≡ length b'
    → negated_for_pairs a b s ≡ negated_for_pairs a' b' s
pairs_length [] [] b b' s p q = refl
pairs_length [] (y ∷ a') b b' s p q = absurd (let l : length (y ∷ a') ≡ suc (length a') = refl in omega (arith, p, l))
pairs_length (x ∷ a) [] b b' s p q = absurd (let l : length (x ∷ a) ≡ suc (length a) = refl in omega (arith, p, l))
pairs_length (x ∷ a) (y ∷ a') b b' s p q =
    ap (negated_for_pairs a b) (negated_for_length b b' s q)
    ∙ pairs_length a a' b b' (negated_for b' s)
    (let l : length (x ∷ a) ≡ suc (length a) = refl in let k : length (y ∷ a') ≡ suc (length a') = refl in
    omega (arith, p, l, k)) q

pairs_product : (a b : List ℕ) (s t : Sign) → negated_for_pairs a b (product s t) ≡ product (negated_for_pairs a b s) t
pairs_product [] b s t = refl
pairs_product (x ∷ a) b s t = ap (negated_for_pairs a b) (negated_for_times b s t)
    ∙ pairs_product a b (negated_for b s) t

pairs_nonzero : (a b : List ℕ) (s : Sign) → IsNonzero s → IsNonzero (negated_for_pairs a b s)
pairs_nonzero [] b s n = n
pairs_nonzero (x ∷ a) b s n = pairs_nonzero a b (negated_for b s) (negated_for_nonzero b s n)

pairs_zero : (a b : List ℕ) → negated_for_pairs a b Zero ≡ Zero
pairs_zero [] b = refl
pairs_zero (x ∷ a) b = ap (negated_for_pairs a b) (negated_for_zero b) ∙ pairs_zero a b

module _ (E : List ℕ) (de : IsDistinct E) (chi : List ℕ → Sign) (om : IsChirotope E chi) (r : ℕ)
    (rank : (t : List ℕ) → IsNonzero (chi t) → length t ≡ r) where
  twice : (a : List ℕ) → dual_map E (dual_map E chi) a
      ≡ product (negated_for_pairs om.base.0 (complement E om.base.0) Plus) (chi a)
  twice a = ⊎_elim
      (λ z. ⊎_elim
      (λ w. w ∙ sym (product_zero_right (negated_for_pairs om.base.0 (complement E om.base.0) Plus) (chi a) z))
      (λ n.
      let d = nonzero_distinct (dual_map E (dual_map E chi))
      (dual_alternating E de (dual_map E chi) (dual_alternating E de chi om.alternating)) a n in
      let i = dual_nonzero_among E de (dual_map E chi) (dual_alternating E de chi om.alternating) a n in
      absurd (n (dual_dual E de chi om a d i ∙ ap (negated_for_pairs a (complement E a)) z
      ∙ pairs_zero a (complement E a))))
      (zero_or_nonzero (dual_map E (dual_map E chi) a)))
      (λ n.
      let d = nonzero_distinct chi om.alternating a n in
      let i : AreAmong E a = om.within a n in
      let t = om.base.0 in
      let dt = nonzero_distinct chi om.alternating t om.base.1 in
      let la = rank a n in
      let lt = rank t om.base.1 in
      let ca = length_complement E a de d i in
      let ct = length_complement E t de dt (om.within t om.base.1) in
      dual_dual E de chi om a d i
      ∙ pairs_length a t (complement E a) (complement E t) (chi a) (omega (arith, la, lt))
      (omega (arith, la, lt, ca, ct))
      ∙ pairs_product t (complement E t) Plus (chi a))
      (zero_or_nonzero (chi a))

  -- the dual of the dual of a chirotope whose bases have one size is the map or its negative
  pub dual_dual_up_to_sign : ((a : List ℕ) → dual_map E (dual_map E chi) a ≡ chi a)
      ⊎ ((a : List ℕ) → dual_map E (dual_map E chi) a ≡ opposite (chi a))
  dual_dual_up_to_sign = ⊎_elim
      (λ p. inl (λ a. twice a ∙ ap (λ k. product k (chi a)) p))
      (λ p. inr (λ a. twice a ∙ ap (λ k. product k (chi a)) p))
      (plus_or_minus (negated_for_pairs om.base.0 (complement E om.base.0) Plus)
      (pairs_nonzero om.base.0 (complement E om.base.0) Plus plus_nonzero))

-- ---- the number of negations

times_add : (j k : ℕ) (s : Sign) → negated_times (j + k) s ≡ negated_times j (negated_times k s)
times_add zero k s = let q : 0 + k ≡ k = omega arith in ap (λ m. negated_times m s) q
times_add (suc j) k s =
    let q : suc j + k ≡ suc (j + k) = omega arith in
    ap (λ m. negated_times m s) q ∙ ap opposite (times_add j k s)

pairs_times : (a b : List ℕ) (s : Sign) → negated_for_pairs a b s ≡ negated_times (length a * length b) s
pairs_times [] b s = let q : 0 ≡ 0 * length b = omega arith in ap (λ m. negated_times m s) q
pairs_times (x ∷ a) b s =
    pairs_times a b (negated_for b s)
    ∙ sym (times_add (length a * length b) (length b) s)
    ∙ ap (λ k. negated_times k s) (sym (suc-mul (length a) (length b)))

pub dual_dual_times : (E : List ℕ) → IsDistinct E → (chi : List ℕ → Sign) → IsChirotope E chi → (a : List ℕ)
    → IsDistinct a → AreAmong E a → dual_map E (dual_map E chi) a
    ≡ negated_times (length a * length (complement E a)) (chi a)
dual_dual_times E de chi om a d i = dual_dual E de chi om a d i ∙ pairs_times a (complement E a) (chi a)
