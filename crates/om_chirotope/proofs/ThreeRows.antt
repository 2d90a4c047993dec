-- Three rows of signs are balanced exactly where their masks say so, and three rows of a table.
--
-- Main results: balanced_of_masks, same_bits, masks_of_balanced, triple_of_rows, triple_to_rows; row_length,
-- same_lengths, place_in_row, row_inside and row_read
use Rattle.std.specs.Prelude.{ℕ, ◌≡◌, ◌≢◌, ◌+◌, ◌<◌, ◌≤◌, ◌^◌, ◌⊎◌, List, [], length, refl, bit_or}
use Rattle.std.specs.Int.{bit_at}
use Rattle.std.proofs.Common.{sym, ◌∙◌, ap, arith, inl, inr, subst, get_or, max}
use Rattle.std.proofs.lemmas.Bool.{cases_eq, cases_lt}
use Rattle.std.proofs.lemmas.List.{get_or_default}
use Rattle.std.proofs.lemmas.Nat.Bits.{bit_at-lt, bit_at_or, bit_at_above, same_from_bits}
use Rattle.om_signs.specs.declared.limits.TheConstants.{MAX_PLACES}
use Rattle.om_signs.specs.declared.sign.Sign.{Sign}
use Rattle.om_signs.specs.declared.sign.Sign.TheVariants.{Minus, Zero, Plus}
use Rattle.om_signs.specs.Sign.{opposite, product}
use Rattle.om_signs.specs.SignVec.{at, at_element, IsMaskOf, IsPlus, IsMinus}
use Rattle.om_signs.proofs.SignLaws.{product-same, zero_not_plus, zero_not_minus}
use Rattle.om_signs.proofs.Order.{at_place}
use Rattle.om_laws.specs.ThreeTerm.{AreBalanced}
use Rattle.om_laws.proofs.ThreeTermSigns.{IsOneOf, balanced_from}
use Rattle.om_laws.proofs.BalancedSigns.{balanced_same}
use Rattle.om_chirotope.specs.Pictures.{IsTriple, AreLong}

-- ---- three rows

greatest : (x y z : ℕ) → x < 2 → y < 2 → z < 2 → (x ≡ 1) ⊎ ((y ≡ 1) ⊎ (z ≡ 1)) → max (max x y) z ≡ 1
greatest x y z a b c (inl e) = grind arith
greatest x y z a b c (inr (inl e)) = grind arith
greatest x y z a b c (inr (inr e)) = grind arith

one_of : (x y z : ℕ) → max (max x y) z ≡ 1 → (x ≡ 1) ⊎ ((y ≡ 1) ⊎ (z ≡ 1))
one_of x y z e = elim (cases_eq x 1) [
  | inl q ↦ inl q
  | inr n ↦ elim (cases_eq y 1) [
    | inl q ↦ inr (inl q)
    | inr k ↦ inr (inr (last x y z e n k))
  ]
]
  where
    last : (x y z : ℕ) → max (max x y) z ≡ 1 → x ≢ 1 → y ≢ 1 → z ≡ 1
    last x y z e n k = grind arith

no_sign : {s : Sign} → IsOneOf Zero Zero Zero s → Zero ≡ s
no_sign (inl e) = e
no_sign (inr (inl e)) = e
no_sign (inr (inr e)) = e

with_minus : (x y z : Sign) → AreBalanced x y z → IsOneOf x y z Plus → IsOneOf x y z Minus
with_minus Minus Minus Minus h k = absurd h
with_minus Minus Minus Zero h k = absurd h
with_minus Minus Minus Plus h k = inl refl
with_minus Minus Zero Minus h k = absurd h
with_minus Minus Zero Zero h k = absurd h
with_minus Minus Zero Plus h k = inl refl
with_minus Minus Plus Minus h k = inl refl
with_minus Minus Plus Zero h k = inl refl
with_minus Minus Plus Plus h k = inl refl
with_minus Zero Minus Minus h k = absurd h
with_minus Zero Minus Zero h k = absurd h
with_minus Zero Minus Plus h k = inr (inl refl)
with_minus Zero Zero Minus h k = absurd h
with_minus Zero Zero Zero h k = absurd (zero_not_plus (no_sign k))
with_minus Zero Zero Plus h k = absurd h
with_minus Zero Plus Minus h k = inr (inr refl)
with_minus Zero Plus Zero h k = absurd h
with_minus Zero Plus Plus h k = absurd h
with_minus Plus Minus Minus h k = inr (inl refl)
with_minus Plus Minus Zero h k = inr (inl refl)
with_minus Plus Minus Plus h k = inr (inl refl)
with_minus Plus Zero Minus h k = inr (inr refl)
with_minus Plus Zero Zero h k = absurd h
with_minus Plus Zero Plus h k = absurd h
with_minus Plus Plus Minus h k = inr (inr refl)
with_minus Plus Plus Zero h k = absurd h
with_minus Plus Plus Plus h k = absurd h

with_plus : (x y z : Sign) → AreBalanced x y z → IsOneOf x y z Minus → IsOneOf x y z Plus
with_plus Minus Minus Minus h k = absurd h
with_plus Minus Minus Zero h k = absurd h
with_plus Minus Minus Plus h k = inr (inr refl)
with_plus Minus Zero Minus h k = absurd h
with_plus Minus Zero Zero h k = absurd h
with_plus Minus Zero Plus h k = inr (inr refl)
with_plus Minus Plus Minus h k = inr (inl refl)
with_plus Minus Plus Zero h k = inr (inl refl)
with_plus Minus Plus Plus h k = inr (inl refl)
with_plus Zero Minus Minus h k = absurd h
with_plus Zero Minus Zero h k = absurd h
with_plus Zero Minus Plus h k = inr (inr refl)
with_plus Zero Zero Minus h k = absurd h
with_plus Zero Zero Zero h k = absurd (zero_not_minus (no_sign k))
with_plus Zero Zero Plus h k = absurd h
with_plus Zero Plus Minus h k = inr (inl refl)
with_plus Zero Plus Zero h k = absurd h
with_plus Zero Plus Plus h k = absurd h
with_plus Plus Minus Minus h k = inl refl
with_plus Plus Minus Zero h k = inl refl
with_plus Plus Minus Plus h k = inl refl
with_plus Plus Zero Minus h k = inl refl
with_plus Plus Zero Zero h k = absurd h
with_plus Plus Zero Plus h k = absurd h
with_plus Plus Plus Minus h k = inl refl
with_plus Plus Plus Zero h k = absurd h
with_plus Plus Plus Plus h k = absurd h

module _ (us vs ws : List Sign) (p q r p' q' r' i : ℕ)
    (up : IsMaskOf (length us) (IsPlus us) p) (vp : IsMaskOf (length vs) (IsPlus vs) q)
    (wp : IsMaskOf (length ws) (IsPlus ws) r)
    (um : IsMaskOf (length us) (IsMinus us) p') (vm : IsMaskOf (length vs) (IsMinus vs) q')
    (wm : IsMaskOf (length ws) (IsMinus ws) r')
    (iu : i < length us) (iv : i < length vs) (iw : i < length ws) where
  plus_bit : IsOneOf (at us i) (at vs i) (at ws i) Plus → bit_at (bit_or (bit_or p q) r) i ≡ 1
  plus_bit h = bit_at_or (bit_or p q) r i ∙ ap (λ k. max k (bit_at r i)) (bit_at_or p q i)
      ∙ greatest (bit_at p i) (bit_at q i) (bit_at r i) (bit_at-lt p i) (bit_at-lt q i) (bit_at-lt r i) (bits h)
    where
      bits : IsOneOf (at us i) (at vs i) (at ws i) Plus → (bit_at p i ≡ 1) ⊎ ((bit_at q i ≡ 1) ⊎ (bit_at r i ≡ 1))
      bits (inl e) = inl ((up.holds i iu).1 e)
      bits (inr (inl e)) = inr (inl ((vp.holds i iv).1 e))
      bits (inr (inr e)) = inr (inr ((wp.holds i iw).1 e))

  minus_bit : IsOneOf (at us i) (at vs i) (at ws i) Minus → bit_at (bit_or (bit_or p' q') r') i ≡ 1
  minus_bit h = bit_at_or (bit_or p' q') r' i ∙ ap (λ k. max k (bit_at r' i)) (bit_at_or p' q' i)
      ∙ greatest (bit_at p' i) (bit_at q' i) (bit_at r' i) (bit_at-lt p' i) (bit_at-lt q' i) (bit_at-lt r' i) (bits h)
    where
      bits : IsOneOf (at us i) (at vs i) (at ws i) Minus → (bit_at p' i ≡ 1) ⊎ ((bit_at q' i ≡ 1) ⊎ (bit_at r' i ≡ 1))
      bits (inl e) = inl ((um.holds i iu).1 e)
      bits (inr (inl e)) = inr (inl ((vm.holds i iv).1 e))
      bits (inr (inr e)) = inr (inr ((wm.holds i iw).1 e))

  plus_sign : bit_at (bit_or (bit_or p q) r) i ≡ 1 → IsOneOf (at us i) (at vs i) (at ws i) Plus
  plus_sign h =
      signs (one_of (bit_at p i) (bit_at q i) (bit_at r i)
      (sym (bit_at_or (bit_or p q) r i ∙ ap (λ k. max k (bit_at r i)) (bit_at_or p q i)) ∙ h))
    where
      signs : (bit_at p i ≡ 1) ⊎ ((bit_at q i ≡ 1) ⊎ (bit_at r i ≡ 1)) → IsOneOf (at us i) (at vs i) (at ws i) Plus
      signs (inl e) = inl ((up.holds i iu).0 e)
      signs (inr (inl e)) = inr (inl ((vp.holds i iv).0 e))
      signs (inr (inr e)) = inr (inr ((wp.holds i iw).0 e))

  minus_sign : bit_at (bit_or (bit_or p' q') r') i ≡ 1 → IsOneOf (at us i) (at vs i) (at ws i) Minus
  minus_sign h =
      signs (one_of (bit_at p' i) (bit_at q' i) (bit_at r' i)
      (sym (bit_at_or (bit_or p' q') r' i ∙ ap (λ k. max k (bit_at r' i)) (bit_at_or p' q' i)) ∙ h))
    where
      signs : (bit_at p' i ≡ 1) ⊎ ((bit_at q' i ≡ 1) ⊎ (bit_at r' i ≡ 1)) → IsOneOf (at us i) (at vs i) (at ws i) Minus
      signs (inl e) = inl ((um.holds i iu).0 e)
      signs (inr (inl e)) = inr (inl ((vm.holds i iv).0 e))
      signs (inr (inr e)) = inr (inr ((wm.holds i iw).0 e))

  pub balanced_of_masks : bit_or (bit_or p q) r ≡ bit_or (bit_or p' q') r' → AreBalanced (at us i) (at vs i) (at ws i)
  balanced_of_masks e = balanced_from (at us i) (at vs i) (at ws i)
      (λ h. minus_sign (ap (λ k. bit_at k i) (sym e) ∙ plus_bit h))
      (λ h. plus_sign (ap (λ k. bit_at k i) e ∙ minus_bit h))

  pub same_bits : AreBalanced (at us i) (at vs i) (at ws i)
      → bit_at (bit_or (bit_or p q) r) i ≡ bit_at (bit_or (bit_or p' q') r') i
  same_bits h = elim (cases_eq (bit_at (bit_or (bit_or p q) r) i) 1) [
    | inl o ↦ o ∙ sym (minus_bit (with_minus (at us i) (at vs i) (at ws i) h (plus_sign o)))
    | inr n ↦ elim (cases_eq (bit_at (bit_or (bit_or p' q') r') i) 1) [
      | inl o ↦ absurd (n (plus_bit (with_plus (at us i) (at vs i) (at ws i) h (minus_sign o))))
      | inr k ↦ let a = bit_at-lt (bit_or (bit_or p q) r) i in let b = bit_at-lt (bit_or (bit_or p' q') r') i in
          omega (arith, a, b, n, k)
    ]
  ]

no_bits : (p q r n i : ℕ) → p < 2 ^ n → q < 2 ^ n → r < 2 ^ n → n ≤ i → bit_at (bit_or (bit_or p q) r) i ≡ 0
no_bits p q r n i a b c g = bit_at_or (bit_or p q) r i ∙ ap (λ k. max k (bit_at r i)) (bit_at_or p q i)
    ∙ rw (bit_at_above p n i a g, bit_at_above q n i b g, bit_at_above r n i c g) refl

pub masks_of_balanced : (us vs ws : List Sign) (p q r p' q' r' : ℕ)
    → IsMaskOf (length us) (IsPlus us) p → IsMaskOf (length vs) (IsPlus vs) q → IsMaskOf (length ws) (IsPlus ws) r
    → IsMaskOf (length us) (IsMinus us) p' → IsMaskOf (length vs) (IsMinus vs) q' → IsMaskOf (length ws) (IsMinus ws) r'
    → length vs ≡ length us → length ws ≡ length us
    → ((i : ℕ) → i < length us → AreBalanced (at us i) (at vs i) (at ws i))
    → bit_or (bit_or p q) r ≡ bit_or (bit_or p' q') r'
masks_of_balanced us vs ws p q r p' q' r' up vp wp um vm wm lv lw all =
    same_from_bits (bit_or (bit_or p q) r) (bit_or (bit_or p' q') r') (λ i. elim (cases_lt i (length us)) [
      | inl l ↦ same_bits us vs ws p q r p' q' r' i up vp wp um vm wm l (omega (arith, l, lv)) (omega (arith, l, lw))
          (all i l)
      | inr g ↦
          no_bits p q r (length us) i up.within (subst (λ k. q < 2 ^ k) lv vp.within) (subst (λ k. r < 2 ^ k) lw
          wp.within)
          g
          ∙ sym (no_bits p' q' r' (length us) i um.within (subst (λ k. q' < 2 ^ k) lv vm.within)
          (subst (λ k. r' < 2 ^ k) lw wm.within) g)
    ])

-- ---- three rows of a table

pub triple_of_rows : (rows : List (List Sign)) (x y z : ℕ) (first second third : List Sign) → first ≡ get_or rows x []
    → second ≡ get_or rows y [] → third ≡ get_or rows z []
    → ((i : ℕ) → i < length first
    → AreBalanced (product (at_element first (y + 1)) (at third i))
    (opposite (product (at_element first (z + 1)) (at second i)))
    (product (at first i) (at_element second (z + 1))))
    → IsTriple rows x y z
triple_of_rows rows x y z first second third e1 e2 e3 h = record {
  each = λ l lt.
      balanced_same _ _ _ _ _ _
      (product-same (sym (at_place first _ y e1)) (ap (λ r. at r l) (sym e3)))
      (ap opposite (product-same (sym (at_place first _ z e1)) (ap (λ r. at r l) (sym e2))))
      (product-same (ap (λ r. at r l) (sym e1)) (sym (at_place second _ z e2)))
      (h l (subst (λ r. l < length r) (sym e1) lt));
}

pub triple_to_rows : (rows : List (List Sign)) (x y z : ℕ) (first second third : List Sign) → first ≡ get_or rows x []
    → second ≡ get_or rows y [] → third ≡ get_or rows z []
    → IsTriple rows x y z
    → (i : ℕ) → i < length first
    → AreBalanced (product (at_element first (y + 1)) (at third i))
    (opposite (product (at_element first (z + 1)) (at second i))) (product (at first i) (at_element second (z + 1)))
triple_to_rows rows x y z first second third e1 e2 e3 t l lt =
    balanced_same _ _ _ _ _ _
    (sym (product-same (sym (at_place first _ y e1)) (ap (λ r. at r l) (sym e3))))
    (ap opposite (sym (product-same (sym (at_place first _ z e1)) (ap (λ r. at r l) (sym e2)))))
    (sym (product-same (ap (λ r. at r l) (sym e1)) (sym (at_place second _ z e2))))
    (t.each l (subst (λ r. l < length r) e1 lt))

-- ---- the lengths of the rows

-- whatever is read beyond the rows, each row has n signs
pub row_length : (rows : List (List Sign)) (n k : ℕ) (other : List Sign) → AreLong rows n → k < length rows
    → length (get_or rows k other) ≡ n
row_length rows n k other h l = ap length (get_or_default rows k other [] l) ∙ h k l

-- two rows are equally long
pub same_lengths : (rows : List (List Sign)) (n j k : ℕ) (other another : List Sign) → AreLong rows n → j < length rows
    → k < length rows → length (get_or rows j other) ≡ length (get_or rows k another)
same_lengths rows n j k other another h lj lk = row_length rows n j other h lj ∙ sym (row_length rows n k another h lk)

-- the place of an element in a row
pub place_in_row : (rows : List (List Sign)) (n j k : ℕ) (other : List Sign) → AreLong rows n → k < length rows → j < n
    → j + 1 ≤ length (get_or rows k other)
place_in_row rows n j k other h lk l = let e = row_length rows n k other h lk in omega (arith, e, l)

-- an element has a row
pub row_inside : {k n l : ℕ} → k < n → n ≤ MAX_PLACES → l ≡ MAX_PLACES → k < l
row_inside p q r = omega (arith, p, q, r)

-- the read of its row doesn't give the default
pub row_read : (rows : List (List Sign)) (d : List Sign) {k n : ℕ} → k < n → n ≤ MAX_PLACES
    → length rows ≡ MAX_PLACES → get_or rows k d ≡ get_or rows k []
row_read rows d {k} p q r = get_or_default rows k d [] (row_inside p q r)
