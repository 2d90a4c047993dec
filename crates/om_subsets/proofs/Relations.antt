-- What the masks of two sets say of the sets.
--
-- Main results: the first is part of the second (part_from_masks, masks_from_part), they are apart (apart_from_masks,
-- masks_from_apart), and the members of a set with the common bits (common_members).
use Rattle.std.specs.Int.{bit_at}
use Rattle.std.proofs.Common.{ℕ, ◌≡◌, ◌+◌, ◌-◌, ◌<◌, ◌≤◌, ◌↔◌, List, bit_and, sym, ap, subst, ◌∙◌, inl, inr}
use Rattle.std.proofs.Common.{arith}
use Rattle.std.proofs.lemmas.Bool.{cases_lt, cases_eq}
use Rattle.std.proofs.lemmas.Nat.Bits.{bit_at-zero, bit_at_and, bit_at_above, same_from_bits}
use Rattle.om_signs.specs.SignVec.{IsMaskOf}
use Rattle.om_signs.proofs.Bits.{bit_zero_if_not_one, bit_at_and_one}
use Rattle.om_subsets.specs.Subsets.{IsSubsetFrom, IsMember, IsPartOf, AreApart}
use Rattle.om_subsets.proofs.Order.{members_from}

-- the bit of a member, and the member of a bit
bit_of_member : (n : ℕ) (s : List ℕ) (p : ℕ) → IsMaskOf n (λ i. IsMember (i + 1) s) p → IsSubsetFrom 1 n s → (e : ℕ)
    → IsMember e s → bit_at p (e - 1) ≡ 1
bit_of_member n s p mask list e k =
    let bound = members_from 1 n e s list k in
    let back : e ≡ e - 1 + 1 = omega arith in
    (mask.holds (e - 1) (omega arith)).1 (subst (λ i. IsMember i s) back k)

member_of_bit : (n : ℕ) (s : List ℕ) (p : ℕ) → IsMaskOf n (λ i. IsMember (i + 1) s) p → (e : ℕ) → 1 ≤ e → e ≤ n
    → bit_at p (e - 1) ≡ 1 → IsMember e s
member_of_bit n s p mask e low high one =
    let back : e - 1 + 1 ≡ e = omega arith in
    subst (λ i. IsMember i s) back ((mask.holds (e - 1) (omega arith)).0 one)

module _ (n : ℕ) (s b : List ℕ) (p q : ℕ) (first : IsMaskOf n (λ i. IsMember (i + 1) s) p)
    (second : IsMaskOf n (λ i. IsMember (i + 1) b) q) (list : IsSubsetFrom 1 n s) where
  pub part_from_masks : bit_and p q ≡ p → IsPartOf s b
  part_from_masks same e k =
      let bound = members_from 1 n e s list k in
      let one = bit_of_member n s p first list e k in
      member_of_bit n b q second e (omega arith) (omega arith)
      ((bit_at_and_one p q (e - 1)).0 (ap (λ m. bit_at m (e - 1)) same ∙ one)).1

  -- a bit of the first mask is that of an element
  low_bit : (i : ℕ) → bit_at p i ≡ 1 → i < n
  low_bit i one = elim (cases_lt i n) [
    | inl lt ↦ lt
    | inr ge ↦ let zero = bit_at_above p n i first.within ge in absurd (omega arith)
  ]

  pub masks_from_part : IsPartOf s b → bit_and p q ≡ p
  masks_from_part part = same_from_bits (bit_and p q) p (λ i. elim (cases_eq (bit_at p i) 1) [
    | inl one ↦
        let lt = low_bit i one in
        (bit_at_and_one p q i).1 (one, (second.holds i lt).1 (part (i + 1) ((first.holds i lt).0 one))) ∙ sym one
    | inr none ↦ let zero = bit_zero_if_not_one p i none in bit_at_and p q i ∙ rw zero (omega arith)
  ])

  pub apart_from_masks : IsSubsetFrom 1 n b → bit_and p q ≡ 0 → AreApart s b
  apart_from_masks other none e k l =
      let one = (bit_at_and_one p q (e - 1)).1
      (bit_of_member n s p first list e k, bit_of_member n b q second other e l) in
      let zero = ap (λ m. bit_at m (e - 1)) none ∙ bit_at-zero (e - 1) in
      omega arith

  pub masks_from_apart : AreApart s b → bit_and p q ≡ 0
  masks_from_apart apart = same_from_bits (bit_and p q) 0 (λ i. bit_zero_if_not_one (bit_and p q) i (λ one.
      let bits = (bit_at_and_one p q i).0 one in
      let lt = low_bit i bits.0 in
      apart (i + 1) ((first.holds i lt).0 bits.0) ((second.holds i lt).0 bits.1)) ∙ sym (bit_at-zero i))

  pub common_members : (t : List ℕ) → IsSubsetFrom 1 n b → IsSubsetFrom 1 n t
      → IsMaskOf n (λ i. IsMember (i + 1) t) (bit_and p q) → (e : ℕ) → IsMember e t ↔ (IsMember e s × IsMember e b)
  common_members t other lawful both e = (
    λ k.
        let bound = members_from 1 n e t lawful k in
        let bits = (bit_at_and_one p q (e - 1)).0 (bit_of_member n t (bit_and p q) both lawful e k) in (
          member_of_bit n s p first e (omega arith) (omega arith) bits.0,
          member_of_bit n b q second e (omega arith) (omega arith) bits.1,
        ),
    λ k.
        let bound = members_from 1 n e s list k.0 in
        member_of_bit n t (bit_and p q) both e (omega arith) (omega arith)
        ((bit_at_and_one p q (e - 1)).1
        (bit_of_member n s p first list e k.0, bit_of_member n b q second other e k.1)),
  )
