-- The masks of an elimination.
--
-- Main results: fixed_mask: what `a & !b == m` says of a mask of places; separated_if_tested, tested_if_separated,
-- none_separated: the places of the separation; has_fixed_eliminator: some member has the signs that the code asks for
-- exactly where some member eliminates the element.
use Rattle.std.proofs.Common.{ℕ, ◌≡◌, ◌≢◌, ◌+◌, ◌-◌, ◌*◌, ◌%◌, ◌<◌, ◌^◌, ◌↔◌, ◌⊎◌, List, length, bit_and, min, refl}
use Rattle.std.proofs.Common.{sym, ◌∙◌, ap, subst, arith, inl, inr}
use Rattle.std.specs.Int.{bit_at}
use Rattle.std.proofs.lemmas.Bool.{cases_eq}
use Rattle.std.proofs.lemmas.Nat.Bits.{bit_at-lt, bit_at-pow_same, bit_at-pow_other, same_from_bits}
use Rattle.std.proofs.Math.Pow.{pow-lt}
use Rattle.om_signs.specs.declared.sign.Sign.{Sign}
use Rattle.om_signs.specs.declared.sign.Sign.TheVariants.{Minus, Zero, Plus}
use Rattle.om_signs.specs.SignVec.{at, at_element, compose, IsMaskOf, IsPlus, IsMinus, IsSeparated}
use Rattle.om_signs.proofs.Bits.{bit_at_and_not, one_shl_32, bit_from_test, no_bit_from_test, bit_one_or_zero}
use Rattle.om_signs.proofs.SignLaws.{zero_if_neither}
use Rattle.om_covectors.specs.Vectors.{IsSeparatedAt, EliminatesFromComposition}
use Rattle.om_covectors.specs.Axioms.{HasCovectorEliminator}
use Rattle.om_covectors.specs.Scans.{IsFixedOutside, HasFixedOutside}
use Rattle.om_members.proofs.MaskLaws.{zero_mask, plus_bit, minus_bit}
use Rattle.om_covectors.proofs.MaskLaws.{separated_bit}

same_bit : (a b : ℕ) → a < 2 → b < 2 → (a ≡ 1 → b ≡ 1) → (b ≡ 1 → a ≡ 1) → a ≡ b
same_bit a b la lb f g = elim (cases_eq a 1) [
  | inl one ↦ one ∙ sym (f one)
  | inr n ↦ elim (cases_eq b 1) [ inl one ↦ absurd (n (g one)) | inr k ↦ omega arith ]
]

-- `p & !free == m`
pub fixed_mask : (P : ℕ → Type 0) (p free m : ℕ) → p < 2 ^ 32 → free < 2 ^ 32 → ((i : ℕ) → (bit_at p i ≡ 1) ↔ P i)
    → (bit_and p (4294967295 - free) ≡ m) ↔ ((i : ℕ) → (bit_at m i ≡ 1) ↔ (P i × (bit_at free i ≡ 0)))
fixed_mask P p free m lp lf h = (
  λ q i. (
    λ one. apart i (sym (bit_at_and_not p free i lp lf) ∙ ap (λ k. bit_at k i) q ∙ one),
    λ k. sym (ap (λ k. bit_at k i) q) ∙ bit_at_and_not p free i lp lf ∙ together i k.0 k.1,
  ),
  λ k. same_from_bits _ m (λ i. same_bit _ _ (bit_at-lt _ i) (bit_at-lt m i)
      (λ one. (k i).1 (apart i (sym (bit_at_and_not p free i lp lf) ∙ one)))
      (λ one. bit_at_and_not p free i lp lf ∙ together i ((k i).0 one).0 ((k i).0 one).1)),
)
  where
    apart : (i : ℕ) → min (bit_at p i) (1 - bit_at free i) ≡ 1 → P i × (bit_at free i ≡ 0)
    apart i e = let a = bit_at-lt p i in let b = bit_at-lt free i in ((h i).0 (omega arith), omega arith)

    together : (i : ℕ) → P i → bit_at free i ≡ 0 → min (bit_at p i) (1 - bit_at free i) ≡ 1
    together i x z = let one = (h i).1 x in omega arith

same_signs : (s t : Sign) → (s ≡ Plus → t ≡ Plus) → (t ≡ Plus → s ≡ Plus) → (s ≡ Minus → t ≡ Minus)
    → (t ≡ Minus → s ≡ Minus) → s ≡ t
same_signs Plus t a b c d = sym (a refl)
same_signs Minus t a b c d = sym (c refl)
same_signs Zero Plus a b c d = b refl
same_signs Zero Minus a b c d = d refl
same_signs Zero Zero a b c d = refl

module _ (xs ys zs : List Sign) (separation plus minus e : ℕ) (ls : separation < 2 ^ 32) (lp : plus < 2 ^ 32)
    (lm : minus < 2 ^ 32) (le : e - 1 < 32)
    (hs : (i : ℕ) → (bit_at separation i ≡ 1) ↔ IsSeparated xs ys i)
    (hp : (i : ℕ) → (bit_at plus i ≡ 1) ↔ IsPlus (compose xs ys) i)
    (hm : (i : ℕ) → (bit_at minus i ≡ 1) ↔ IsMinus (compose xs ys) i)
    (one : bit_at separation (e - 1) ≡ 1) where
  abbrev free : ℕ
  free = bit_and separation (4294967295 - 2 ^ (e - 1))

  free_bit : (i : ℕ) → bit_at free i ≡ min (bit_at separation i) (1 - bit_at (2 ^ (e - 1)) i)
  free_bit i = bit_at_and_not separation (2 ^ (e - 1)) i ls (pow-lt le)

  not_free : bit_at free (e - 1) ≡ 0
  not_free = let a = free_bit (e - 1) in let b = bit_at-pow_same (e - 1) in omega arith

  not_free_outside : (i : ℕ) → bit_at separation i ≡ 0 → bit_at free i ≡ 0
  not_free_outside i z = let a = free_bit i in omega arith

  -- a place that is not free is the element, or outside the separation
  fixed_place : (i : ℕ) → bit_at free i ≡ 0 → (i ≡ e - 1) ⊎ (bit_at separation i ≡ 0)
  fixed_place i z = elim (cases_eq i (e - 1)) [
    | inl q ↦ inl q
    | inr n ↦ let a = free_bit i in let b = bit_at-pow_other (e - 1) i n in let l = bit_at-lt separation i in
        inr (omega arith)
  ]

  module _ (c : ℕ) (lc : c < 2 ^ 32) where
    kept_bit : (i : ℕ) → bit_at (bit_and c (4294967295 - separation)) i ≡ min (bit_at c i) (1 - bit_at separation i)
    kept_bit i = bit_at_and_not c separation i lc ls

    kept_outside : (i : ℕ) → bit_at (bit_and c (4294967295 - separation)) i ≡ 1 → (bit_at c i ≡ 1)
        × (bit_at separation i ≡ 0)
    kept_outside i k = let a = kept_bit i in let b = bit_at-lt c i in let d = bit_at-lt separation i in
        (omega arith, omega arith)

    kept : (i : ℕ) → bit_at c i ≡ 1 → bit_at separation i ≡ 0 → bit_at (bit_and c (4294967295 - separation)) i ≡ 1
    kept i k z = let a = kept_bit i in omega arith

  -- one of the two signs: from the masks to the vector
  module _ (s : Sign) (c : ℕ) (lc : c < 2 ^ 32) (hc : (i : ℕ) → (bit_at c i ≡ 1) ↔ (at (compose xs ys) i ≡ s)) where
    not_at_element : ((i : ℕ) → (bit_at (bit_and c (4294967295 - separation)) i ≡ 1)
        ↔ ((at zs i ≡ s) × (bit_at free i ≡ 0))) → at zs (e - 1) ≡ s → ⊥
    not_at_element h q = let z = (kept_outside c lc (e - 1) ((h (e - 1)).1 (q, not_free))).1 in absurd (omega arith)

    to_composition : ((i : ℕ) → (bit_at (bit_and c (4294967295 - separation)) i ≡ 1)
        ↔ ((at zs i ≡ s) × (bit_at free i ≡ 0))) → (i : ℕ) → bit_at separation i ≡ 0 → at zs i ≡ s
        → at (compose xs ys) i ≡ s
    to_composition h i z q = (hc i).0 (kept_outside c lc i ((h i).1 (q, not_free_outside i z))).0

    from_composition : ((i : ℕ) → (bit_at (bit_and c (4294967295 - separation)) i ≡ 1)
        ↔ ((at zs i ≡ s) × (bit_at free i ≡ 0))) → (i : ℕ) → bit_at separation i ≡ 0 → at (compose xs ys) i ≡ s
        → at zs i ≡ s
    from_composition h i z q = ((h i).0 (kept c lc i ((hc i).1 q) z)).0

    -- and back
    side : s ≢ Zero → at zs (e - 1) ≡ Zero → ((i : ℕ) → bit_at separation i ≡ 0 → at zs i ≡ at (compose xs ys) i)
        → (i : ℕ) → (bit_at (bit_and c (4294967295 - separation)) i ≡ 1) ↔ ((at zs i ≡ s) × (bit_at free i ≡ 0))
    side n zero same i = (
      λ k. let p = kept_outside c lc i k in (same i p.1 ∙ (hc i).0 p.0, not_free_outside i p.1),
      λ p. elim (fixed_place i p.1) [
        | inl q ↦ absurd (n (sym p.0 ∙ ap (at zs) q ∙ zero))
        | inr z ↦ kept c lc i ((hc i).1 (sym (same i z) ∙ p.0)) z
      ],
    )

  outside_separation : (i : ℕ) → (IsSeparated xs ys i → ⊥) → bit_at separation i ≡ 0
  outside_separation i n = elim (bit_one_or_zero separation i) [ inl k ↦ absurd (n ((hs i).0 k)) | inr z ↦ z ]

  same_outside : EliminatesFromComposition xs ys e zs → (i : ℕ) → bit_at separation i ≡ 0
      → at zs i ≡ at (compose xs ys) i
  same_outside h i z =
      let d : i + 1 - 1 ≡ i = omega arith in
      subst (λ k. at zs k ≡ at (compose xs ys) k) d
      (h.outside (i + 1) (λ s. let k = (hs i).1 (subst (IsSeparated xs ys) d s) in absurd (omega arith)))

  -- the masks of the code
  pub fixed_eliminates : IsFixedOutside (bit_and separation (4294967295 - 2 ^ (e - 1)))
      (bit_and plus (4294967295 - separation)) (bit_and minus (4294967295 - separation)) zs
      ↔ EliminatesFromComposition xs ys e zs
  fixed_eliminates = (
    λ h. record {
      zero = zero_if_neither (at_element zs e) (not_at_element Plus plus lp hp h.pluses)
          (not_at_element Minus minus lm hm h.minuses);
      outside = λ f n. let z = outside_separation (f - 1) n in
          same_signs (at_element zs f) (at_element (compose xs ys) f)
          (to_composition Plus plus lp hp h.pluses (f - 1) z) (from_composition Plus plus lp hp h.pluses (f - 1) z)
          (to_composition Minus minus lm hm h.minuses (f - 1) z)
          (from_composition Minus minus lm hm h.minuses (f - 1) z);
    },
    λ h. record {
      pluses = side Plus plus lp hp (λ d. cc) h.zero (same_outside h);
      minuses = side Minus minus lm hm (λ d. cc) h.zero (same_outside h);
    },
  )

-- some member has the signs that the code asks for exactly where some member eliminates the element
pub has_fixed_eliminator : (members : List (List Sign)) (xs ys cs : List Sign) (separation plus minus e bit : ℕ)
    → separation < 2 ^ 32 → plus < 2 ^ 32 → minus < 2 ^ 32 → e - 1 < 32 → bit ≡ 1 * 2 ^ (e - 1) % 4294967296
    → cs ≡ compose xs ys
    → IsMaskOf (length xs) (IsSeparated xs ys) separation → IsMaskOf (length cs) (IsPlus cs) plus
    → IsMaskOf (length cs) (IsMinus cs) minus → IsSeparatedAt xs ys e
    → HasFixedOutside members (bit_and separation (4294967295 - bit)) (bit_and plus (4294967295 - separation))
    (bit_and minus (4294967295 - separation)) ↔ HasCovectorEliminator members xs ys e
has_fixed_eliminator members xs ys cs separation plus minus e bit ls lp lm le q qc hs hp hm s =
    rw (q ∙ one_shl_32 (e - 1) le) (
      λ h. (h.0, h.1, (fixed h.0).0 h.2),
      λ h. (h.0, h.1, (fixed h.0).1 h.2),
    )
  where
    fixed : (zs : List Sign)
        → IsFixedOutside (bit_and separation (4294967295 - 2 ^ (e - 1))) (bit_and plus (4294967295 - separation))
        (bit_and minus (4294967295 - separation)) zs ↔ EliminatesFromComposition xs ys e zs
    fixed zs = fixed_eliminates xs ys zs separation plus minus e ls lp lm le (separated_bit xs ys separation hs)
        (plus_bit (compose xs ys) plus (subst (λ c. IsMaskOf (length c) (IsPlus c) plus) qc hp))
        (minus_bit (compose xs ys) minus (subst (λ c. IsMaskOf (length c) (IsMinus c) minus) qc hm))
        ((separated_bit xs ys separation hs (e - 1)).1 s)

-- the test of one element
pub separated_if_tested : (xs ys : List Sign) (m e : ℕ) → e - 1 < 32 → IsMaskOf (length xs) (IsSeparated xs ys) m
    → bit_and m (1 * 2 ^ (e - 1) % 4294967296) ≢ 0 → IsSeparatedAt xs ys e
separated_if_tested xs ys m e le h t =
    (separated_bit xs ys m h (e - 1)).0 (bit_from_test m (e - 1) (rw (one_shl_32 (e - 1) le) at t))

pub tested_if_separated : (xs ys : List Sign) (m e : ℕ) → e - 1 < 32 → IsMaskOf (length xs) (IsSeparated xs ys) m
    → bit_and m (1 * 2 ^ (e - 1) % 4294967296) ≡ 0 → IsSeparatedAt xs ys e → ⊥
tested_if_separated xs ys m e le h t s =
    let none = no_bit_from_test m (e - 1) (rw (one_shl_32 (e - 1) le) at t) in
    let one = (separated_bit xs ys m h (e - 1)).1 s in
    absurd (omega arith)

-- no place is separated
pub none_separated : (xs ys : List Sign) (m e : ℕ) → IsMaskOf (length xs) (IsSeparated xs ys) m → m ≡ 0
    → IsSeparatedAt xs ys e → ⊥
none_separated xs ys m e h z s = (zero_mask m).0 z (e - 1) ((separated_bit xs ys m h (e - 1)).1 s)
