-- Masks of places, and what their tests say of the signs.
--
-- Main results: zero_test, part_test, support_test: the tests of the code mean the words of the clauses; support_bit,
-- plus_bit, minus_bit: a bit of a mask means the sign at its place.
use Rattle.std.proofs.Common.{ℕ, ◌≡◌, ◌+◌, ◌-◌, ◌<◌, ◌≤◌, ◌^◌, ◌↔◌, List, length, bit_and, min, nat_eq}
use Rattle.std.proofs.Common.{IsTrue, refl, sym, ◌∙◌, ap, subst, arith, inl, inr}
use Rattle.std.specs.Int.{bit_at}
use Rattle.std.proofs.lemmas.Bool.{cases_lt, eq-eqb, eqb-true}
use Rattle.std.proofs.lemmas.Nat.Bits.{bit_at-zero, bit_at_above, same_from_bits}
use Rattle.std.proofs.lemmas.List.{get_or_past}
use Rattle.om_signs.specs.declared.sign.Sign.{Sign}
use Rattle.om_signs.specs.declared.sign.Sign.TheVariants.{Zero}
use Rattle.om_signs.specs.SignVec.{at, at_element, IsMaskOf, IsInSupport, IsPlus, IsMinus}
use Rattle.om_signs.proofs.Bits.{bit_at_and_not, bit_one_or_zero}
use Rattle.om_signs.proofs.SignLaws.{zero_or_nonzero}
use Rattle.om_members.specs.Vectors.{IsZero, HasSupportIn}

-- what holds of the sign at each element holds at each place
pub at_from_place : (P : Sign → Type 0) (xs : List Sign) → ((e : ℕ) → P (at_element xs e)) → (i : ℕ) → P (at xs i)
at_from_place P xs h i = let e : i + 1 - 1 ≡ i = omega arith in subst (λ k. P (at xs k)) e (h (i + 1))

-- ---- one bit

-- a mask is zero exactly where it has no bit
pub zero_mask : (m : ℕ) → (m ≡ 0) ↔ ((i : ℕ) → bit_at m i ≡ 1 → ⊥)
zero_mask m = (
  λ z i one. let n : bit_at m i ≡ 0 = ap (λ k. bit_at k i) z ∙ bit_at-zero i in absurd (omega arith),
  λ h. same_from_bits m 0
      (λ i. elim (bit_one_or_zero m i) [ inl one ↦ absurd (h i one) | inr z ↦ z ∙ sym (bit_at-zero i) ]),
)

-- the bits of a mask of places, at all places
pub bit_of_mask : (xs : List Sign) (P : ℕ → Type 0) (m : ℕ) → IsMaskOf (length xs) P m
    → ((i : ℕ) → length xs ≤ i → P i → ⊥) → (i : ℕ) → (bit_at m i ≡ 1) ↔ P i
bit_of_mask xs P m h off i = elim (cases_lt i (length xs)) [
  | inl lt ↦ h.holds i lt
  | inr ge ↦ (λ one. absurd (let z = bit_at_above m (length xs) i h.within ge in omega arith), λ p. absurd (off i ge p))
]

-- a bit of the mask of the support is 1 exactly if the sign at its place isn't zero
pub support_bit : (xs : List Sign) (m : ℕ) → IsMaskOf (length xs) (IsInSupport xs) m → (i : ℕ) → (bit_at m i ≡ 1)
    ↔ IsInSupport xs i
support_bit xs m h = bit_of_mask xs (IsInSupport xs) m h (λ i ge n. n (get_or_past xs i Zero ge))

-- a bit of the mask of the pluses is 1 exactly if the sign at its place is plus
pub plus_bit : (xs : List Sign) (m : ℕ) → IsMaskOf (length xs) (IsPlus xs) m → (i : ℕ) → (bit_at m i ≡ 1) ↔ IsPlus xs i
plus_bit xs m h = bit_of_mask xs (IsPlus xs) m h (λ i ge p. let e = sym (get_or_past xs i Zero ge) ∙ p in cc)

-- a bit of the mask of the minuses is 1 exactly if the sign at its place is minus
pub minus_bit : (xs : List Sign) (m : ℕ) → IsMaskOf (length xs) (IsMinus xs) m → (i : ℕ) → (bit_at m i ≡ 1)
    ↔ IsMinus xs i
minus_bit xs m h = bit_of_mask xs (IsMinus xs) m h (λ i ge p. let e = sym (get_or_past xs i Zero ge) ∙ p in cc)

-- ---- tests

-- the support is the zero mask
pub zero_support : (xs : List Sign) (m : ℕ) → IsMaskOf (length xs) (IsInSupport xs) m → (m ≡ 0) ↔ IsZero xs
zero_support xs m h = (
  λ t e. elim (zero_or_nonzero (at_element xs e)) [
    | inl z ↦ z
    | inr n ↦ absurd ((zero_mask m).0 t (e - 1) ((support_bit xs m h (e - 1)).1 n))
  ],
  λ z. (zero_mask m).1 (λ i one. (support_bit xs m h i).0 one (at_from_place (λ s. s ≡ Zero) xs z i)),
)

-- `x.support() == 0`
pub zero_test : (xs : List Sign) (m : ℕ) → IsMaskOf (length xs) (IsInSupport xs) m → IsTrue (nat_eq m 0) ↔ IsZero xs
zero_test xs m h = (λ t. (zero_support xs m h).0 (eqb-true m 0 t), λ z. eq-eqb m 0 ((zero_support xs m h).1 z))

-- `a & !b == 0`: the bits of a are bits of b
pub part_test : (a b : ℕ) → a < 2 ^ 32 → b < 2 ^ 32 → (bit_and a (4294967295 - b) ≡ 0)
    ↔ ((i : ℕ) → bit_at a i ≡ 1 → bit_at b i ≡ 1)
part_test a b la lb = (
  λ z i one. elim (bit_one_or_zero b i) [
    | inl have ↦ have
    | inr none ↦ absurd ((zero_mask _).0 z i (bit_at_and_not a b i la lb ∙ rw (one, none) refl))
  ],
  λ h. (zero_mask _).1 (λ i one.
      let e : min (bit_at a i) (1 - bit_at b i) ≡ 1 = sym (bit_at_and_not a b i la lb) ∙ one in
      elim (bit_one_or_zero a i) [
        | inl have ↦ let q = h i have in absurd (omega arith)
        | inr none ↦ absurd (omega arith)
      ]),
)

-- `x.support() & !y.support() == 0`
pub support_test : (xs ys : List Sign) (m n : ℕ) → m < 2 ^ 32 → n < 2 ^ 32 → IsMaskOf (length xs) (IsInSupport xs) m
    → IsMaskOf (length ys) (IsInSupport ys) n → (bit_and m (4294967295 - n) ≡ 0) ↔ HasSupportIn xs ys
support_test xs ys m n lm ln hm hn = (
  λ t e z. elim (zero_or_nonzero (at_element xs e)) [
    | inl q ↦ q
    | inr k ↦
        absurd ((support_bit ys n hn (e - 1)).0 ((part_test m n lm ln).0 t (e - 1) ((support_bit xs m hm (e - 1)).1 k))
        z)
  ],
  λ h. (part_test m n lm ln).1 (λ i one. (support_bit ys n hn i).1 (λ z.
      let e : i + 1 - 1 ≡ i = omega arith in
      (support_bit xs m hm i).0 one
      (subst (λ k. at xs k ≡ Zero) e (h (i + 1) (subst (λ k. at ys k ≡ Zero) (sym e) z))))),
)
