-- Classes of sign vectors by masks.
--
-- Main results: a mask that grows by a bit (mask_with, mask_without); the elements of a sign lie in a mask
-- (within_both); the class of a vector by its minuses (no_minus_class, one_minus_class, no_class).
use Rattle.std.proofs.Common.{ℕ, ◌≡◌, ◌≢◌, ◌+◌, ◌-◌, ◌*◌, ◌%◌, ◌<◌, ◌^◌, ◌↔◌, List, length, min, sym, ap, subst, ◌∙◌}
use Rattle.std.proofs.Common.{inl, inr, arith, bit_and, bit_or, w32}
use Rattle.std.specs.Prelude.{Option, None, Some}
use Rattle.std.specs.Int.{bit_at, trailing_zeros}
use Rattle.std.proofs.lemmas.Nat.Bits.{bit_at-zero, bit_at-lt, bit_at_above, bit_at_set_same, bit_at_set_other}
use Rattle.std.proofs.lemmas.Nat.Bits.{bit_at-pow_same, bit_at-pow_other, bit_at-trailing_zeros, same_from_bits}
use Rattle.std.proofs.lemmas.Bool.{cases_lt, cases_eq}
use Rattle.std.proofs.lemmas.List.{get_or_past}
use Rattle.std.proofs.lemmas.Option.{same_Some}
use Rattle.om_signs.specs.declared.sign.Sign.{Sign}
use Rattle.om_signs.specs.declared.sign.Sign.TheVariants.{Zero, Minus}
use Rattle.om_signs.specs.SignVec.{at, IsMaskOf, IsMinus}
use Rattle.om_signs.proofs.Bits.{lt_from_bits, bit_at_and_not, not_zero_and_one, bit_zero_if_not_one}
use Rattle.om_signs.proofs.SignLaws.{minus_nonzero}
use Rattle.om_paint.specs.Classes.{HasMinusAloneAt}

-- ---- one bit more

module _ (P : ℕ → Type 0) (k mask : ℕ) (m : IsMaskOf k P mask) where
  pub mask_with : k < 32 → P k → IsMaskOf (k + 1) P (bit_or mask (1 * 2 ^ k % 2 ^ 32))
  mask_with small p = record {
    within = lt_from_bits (bit_or mask (1 * 2 ^ k % 2 ^ 32)) (k + 1)
        (λ i ge. bit_at_set_other w32 mask k small i (λ e. omega arith) ∙ bit_at_above mask k i m.within (omega arith));
    holds = λ i lt. elim (cases_eq i k) [
      | inl e ↦ (
        λ b. subst P (sym e) p,
        λ q. ap (bit_at (bit_or mask (1 * 2 ^ k % 2 ^ 32))) e
            ∙ bit_at_set_same w32 mask k small,
      )
      | inr n ↦
          let same = bit_at_set_other w32 mask k small i n in
          let h = m.holds i (omega arith) in
          (λ b. h.0 (sym same ∙ b), λ q. same ∙ h.1 q)
    ];
  }

  pub mask_without : (P k → ⊥) → IsMaskOf (k + 1) P mask
  mask_without none = record {
    within = lt_from_bits mask (k + 1) (λ i ge. bit_at_above mask k i m.within (omega arith));
    holds = λ i lt. elim (cases_eq i k) [
      | inl e ↦ (
        λ b. absurd (not_zero_and_one (bit_at mask i) (bit_at_above mask k i m.within (omega arith)) b),
        λ q. absurd (none (subst P e q)),
      )
      | inr n ↦ m.holds i (omega arith)
    ];
  }

-- ---- the elements of a sign

pub inside : (X : List Sign) (i : ℕ) (s : Sign) → s ≢ Zero → at X i ≡ s → i < length X
inside X i s n e = elim (cases_lt i (length X)) [
  | inl lt ↦ lt
  | inr ge ↦ absurd (n (sym e ∙ get_or_past X i Zero ge))
]

module _ (X : List Sign) (s : Sign) (not : s ≢ Zero) (mask : ℕ) (m : IsMaskOf (length X) (λ i. at X i ≡ s) mask) where
  pub bit_both : (i : ℕ) → (at X i ≡ s) ↔ (bit_at mask i ≡ 1)
  bit_both i = (
    λ q. (m.holds i (inside X i s not q)).1 q,
    λ b. elim (cases_lt i (length X)) [
      | inl lt ↦ (m.holds i lt).0 b
      | inr ge ↦ absurd (not_zero_and_one (bit_at mask i) (bit_at_above mask (length X) i m.within ge) b)
    ],
  )

  -- they lie in a mask exactly where nothing is left without it
  pub within_both : mask < 2 ^ 32 → (free : ℕ) → free < 2 ^ 32 → (bit_and mask (4294967295 - free) ≡ 0)
      ↔ ((i : ℕ) → at X i ≡ s → bit_at free i ≡ 1)
  within_both small free fits = (
    λ z i q.
        let b = (bit_both i).0 q in
        let e = bit_at_and_not mask free i small fits in
        let o : bit_at (bit_and mask (4294967295 - free)) i ≡ 0 = ap (λ k. bit_at k i) z ∙ bit_at-zero i in
        let l = bit_at-lt free i in
        omega arith,
    λ h. same_from_bits (bit_and mask (4294967295 - free)) 0
        (λ i. bit_at_and_not mask free i small fits ∙ left h i ∙ sym (bit_at-zero i)),
  )
    where
      left : ((i : ℕ) → at X i ≡ s → bit_at free i ≡ 1) → (i : ℕ) → min (bit_at mask i) (1 - bit_at free i) ≡ 0
      left h i = elim (cases_eq (bit_at mask i) 1) [
        | inl b ↦ let o = h i ((bit_both i).1 b) in omega arith
        | inr n ↦ let z = bit_zero_if_not_one mask i n in omega arith
      ]

-- ---- the minuses

abbrev value : Option ℕ → ℕ
value None = 0
value (Some i) = i

module _ (X : List Sign) (mask : ℕ) (m : IsMaskOf (length X) (IsMinus X) mask) where
  minus_both : (i : ℕ) → (at X i ≡ Minus) ↔ (bit_at mask i ≡ 1)
  minus_both i = bit_both X Minus minus_nonzero mask m i

  pub no_minus_class : mask ≡ 0 → (i : ℕ) → HasMinusAloneAt i X ↔ (Some 0 ≡ Some i)
  no_minus_class z i = (
    λ h. elim (cases_eq 0 i) [
      | inl e ↦ ap Some e
      | inr n ↦ absurd (none (i - 1) ((h (i - 1)).1 (omega arith)))
    ],
    λ e k. let e' = same_Some 0 i e in (λ q. absurd (none k q), λ f. absurd (omega (arith, e', f))),
  )
    where
      none : (k : ℕ) → at X k ≡ Minus → ⊥
      none k q = not_zero_and_one (bit_at mask k) (ap (λ j. bit_at j k) z ∙ bit_at-zero k) ((minus_both k).0 q)

  module _ (t : ℕ) where
    pub one_minus_class : mask ≡ 2 ^ t → (i : ℕ) → HasMinusAloneAt i X ↔ (Some (t + 1) ≡ Some i)
    one_minus_class e i = (
      λ h. ap Some ((h t).0 ((minus_both t).1 here)),
      λ s k. let s' = same_Some (t + 1) i s in (
        λ q. elim (cases_eq k t) [
          | inl j ↦ omega arith
          | inr n ↦
              absurd (not_zero_and_one (bit_at mask k) (ap (λ j. bit_at j k) e ∙ bit_at-pow_other t k n)
              ((minus_both k).0 q))
        ],
        λ f. (minus_both k).1 (let j : k ≡ t = omega arith in ap (bit_at mask) j ∙ here),
      ),
    )
      where
        here : bit_at mask t ≡ 1
        here = ap (λ j. bit_at j t) e ∙ bit_at-pow_same t

    -- a mask that is no power of two has a bit beside its lowest
    pub no_class : bit_at mask t ≡ 1 → mask ≢ 2 ^ t → (i : ℕ) → HasMinusAloneAt i X → ⊥
    no_class here n i h = n (same_from_bits mask (2 ^ t) (λ k. elim (cases_eq k t) [
      | inl j ↦ ap (bit_at mask) j ∙ here ∙ sym (ap (bit_at (2 ^ t)) j ∙ bit_at-pow_same t)
      | inr o ↦ bit_zero_if_not_one mask k (λ b.
          let first = (h t).0 ((minus_both t).1 here) in
          let second = (h k).0 ((minus_both k).1 b) in
          omega arith) ∙ sym (bit_at-pow_other t k o)
    ]))

pub lowest_minus : (mask : ℕ) → mask ≢ 0 → mask < 2 ^ 32 → bit_at mask (trailing_zeros w32 mask) ≡ 1
lowest_minus mask n small = let h = bit_at-trailing_zeros w32 mask (omega arith) small in h.1

pub lowest_small : (mask : ℕ) → mask ≢ 0 → mask < 2 ^ 32 → trailing_zeros w32 mask < 32
lowest_small mask n small = let h = bit_at-trailing_zeros w32 mask (omega arith) small in h.0
