-- Masks of places, and what their tests say of the signs.
--
-- Main results: element_within: an element with a plus is one of the vector; within_test: the test of the code means
-- the word of the clause.
use Rattle.std.proofs.Common.{ℕ, ◌≡◌, ◌+◌, ◌-◌, ◌<◌, ◌^◌, ◌↔◌, List, length, bit_and, bit_or, max, nat_eq, IsTrue, sym}
use Rattle.std.proofs.Common.{◌∙◌, ap, arith, inl, inr}
use Rattle.std.specs.Int.{bit_at}
use Rattle.std.proofs.lemmas.Bool.{cases_lt, eq-eqb, eqb-true}
use Rattle.std.proofs.lemmas.Nat.Bits.{bit_at-zero, bit_at-lt, bit_at_or}
use Rattle.std.proofs.lemmas.List.{get_or_past}
use Rattle.om_signs.specs.declared.sign.Sign.{Sign}
use Rattle.om_signs.specs.declared.sign.Sign.TheVariants.{Zero, Plus}
use Rattle.om_signs.specs.SignVec.{at_element, IsMaskOf, IsPlus, IsMinus}
use Rattle.om_members.proofs.MaskLaws.{zero_mask, plus_bit, minus_bit, part_test}
use Rattle.om_circuits.specs.Scans.{IsWithin}

-- an element with a plus is one of the vector
pub element_within : (xs : List Sign) (e n : ℕ) → length xs ≡ n → at_element xs e ≡ Plus → e < n + 1
element_within xs e n l p = elim (cases_lt (e - 1) (length xs)) [
  | inl lt ↦ omega arith
  | inr ge ↦ absurd (let q : Plus ≡ Zero = sym p ∙ get_or_past xs (e - 1) Zero ge in cc)
]

-- `a | b == 0`
pub both_zero : (a b : ℕ) → (bit_or a b ≡ 0) ↔ ((a ≡ 0) × (b ≡ 0))
both_zero a b = (
  λ z. (
    (zero_mask a).1 (λ i one. (zero_mask _).0 z i (bit_at_or a b i ∙ (let l = bit_at-lt b i in omega arith))),
    (zero_mask b).1 (λ i one. (zero_mask _).0 z i (bit_at_or a b i ∙ (let l = bit_at-lt a i in omega arith))),
  ),
  λ (p, q). (zero_mask _).1 (λ i one.
      let e : max (bit_at a i) (bit_at b i) ≡ 1 = sym (bit_at_or a b i) ∙ one in
      let ea : bit_at a i ≡ 0 = ap (λ k. bit_at k i) p ∙ bit_at-zero i in
      let eb : bit_at b i ≡ 0 = ap (λ k. bit_at k i) q ∙ bit_at-zero i in
      absurd (omega arith)),
)

-- `(z.plus() & !plus) | (z.minus() & !minus) == 0`
pub within_test : (zs : List Sign) (p m plus minus : ℕ) → p < 2 ^ 32 → m < 2 ^ 32 → plus < 2 ^ 32 → minus < 2 ^ 32
    → IsMaskOf (length zs) (IsPlus zs) p → IsMaskOf (length zs) (IsMinus zs) m
    → IsTrue (nat_eq (bit_or (bit_and p (4294967295 - plus)) (bit_and m (4294967295 - minus))) 0)
    ↔ IsWithin plus minus zs
within_test zs p m plus minus lp lm la lb hp hm = (
  λ t. let z = (both_zero _ _).0 (eqb-true _ 0 t) in
      record {
        pluses = λ i q. (part_test p plus lp la).0 z.0 i ((plus_bit zs p hp i).1 q);
        minuses = λ i q. (part_test m minus lm lb).0 z.1 i ((minus_bit zs m hm i).1 q);
      },
  λ w. eq-eqb _ 0 ((both_zero _ _).1 (
    (part_test p plus lp la).1 (λ i one. w.pluses i ((plus_bit zs p hp i).0 one)),
    (part_test m minus lm lb).1 (λ i one. w.minuses i ((minus_bit zs m hm i).0 one)),
  )),
)
