-- The numbers off a set, by the mask that has the other bits.
--
-- Main results: complement_size, how many they are; complement_member, which they are.
use Rattle.std.proofs.Common.{ℕ, zero, suc, ◌≡◌, ◌≢◌, ◌+◌, ◌-◌, ◌*◌, ◌/◌, ◌%◌, ◌<◌, ◌≤◌, ◌^◌, ◌↔◌, List, length, refl}
use Rattle.std.proofs.Common.{sym, ap, subst, ◌∙◌, inl, inr, arith}
use Rattle.std.specs.Int.{bit_at}
use Rattle.std.proofs.lemmas.Bool.{cases_eq, eq-eqb, ne_eqb}
use Rattle.std.proofs.lemmas.Nat.Bits.{bit_at-suc, bit_at_lowest, bit_at-lt}
use Rattle.std.proofs.Math.Nat.{pow-succ'}
use Rattle.om_subsets.specs.Subsets.{IsSubsetFrom, IsMember}
use Rattle.om_subsets.specs.Members.{members, mask_of, members-subset}
use Rattle.om_subsets.proofs.Edits.{member_bit}
use Rattle.om_subsets.proofs.Masks.{members-mask_of, mask_of-lt}
use Rattle.om_subsets.proofs.Order.{members_from}

-- the mask with the other bits
abbrev pub others : ℕ → ℕ → ℕ
others mask m = 2 ^ m - 1 - mask

others_half : (mask m : ℕ) → mask < 2 ^ suc m → (others mask (suc m) / 2 ≡ others (mask / 2) m)
    × (others mask (suc m) % 2 + mask % 2 ≡ 1)
others_half mask m l = let p : 2 ^ suc m ≡ 2 * 2 ^ m = pow-succ' 2 m in (omega arith, omega arith)

others_length : (mask e m : ℕ) → mask < 2 ^ m → length (members (others mask m) e m) + length (members mask e m) ≡ m
others_length mask e zero l = refl
others_length mask e (suc m) l =
    let p : 2 ^ suc m ≡ 2 * 2 ^ m = pow-succ' 2 m in
    let h = others_half mask m l in
    let rest = others_length (mask / 2) (e + 1) m (omega arith) in
    let low = h.1 in
    elim (cases_eq (mask % 2) 1) [
      | inl o ↦
          let z : others mask (suc m) % 2 ≢ 1 = omega arith in
          rw (eq-eqb (mask % 2) 1 o, ne_eqb (others mask (suc m) % 2) 1 z, h.0) (omega arith)
      | inr n ↦
          let o : others mask (suc m) % 2 ≡ 1 = omega arith in
          rw (ne_eqb (mask % 2) 1 n, eq-eqb (others mask (suc m) % 2) 1 o, h.0) (omega arith)
    ]

others_bit : (mask m i : ℕ) → mask < 2 ^ m → i < m → bit_at (others mask m) i + bit_at mask i ≡ 1
others_bit mask zero i l k = absurd (omega arith)
others_bit mask (suc m) zero l k =
    let a = bit_at_lowest (others mask (suc m)) in
    let b = bit_at_lowest mask in
    let h = (others_half mask m l).1 in
    omega arith
others_bit mask (suc m) (suc i) l k =
    let p : 2 ^ suc m ≡ 2 * 2 ^ m = pow-succ' 2 m in
    let half = (others_half mask m l).0 in
    let a : bit_at (others mask (suc m)) (suc i) ≡ bit_at (others (mask / 2) m) i = bit_at-suc (others mask (suc m)) i
    ∙ ap (λ x. bit_at x i) half in
    let b = bit_at-suc mask i in
    let rest = others_bit (mask / 2) m i (omega arith) (omega arith) in
    omega arith

module _ (n : ℕ) (xs : List ℕ) (h : IsSubsetFrom 1 n xs) where
  same : members (mask_of 1 xs n) 1 n ≡ xs
  same = members-mask_of 1 n xs h

  small : mask_of 1 xs n < 2 ^ n
  small = mask_of-lt 1 n xs

  pub complement_size : length (members (others (mask_of 1 xs n) n) 1 n) + length xs ≡ n
  complement_size = ap (λ ys. length (members (others (mask_of 1 xs n) n) 1 n) + length ys) (sym same)
      ∙ others_length (mask_of 1 xs n) 1 n small

  -- the bit of a number from 1 to n
  bit_of : (mask e : ℕ) → 1 ≤ e → e ≤ n → (bit_at mask (e - 1) ≡ 1) ↔ IsMember e (members mask 1 n)
  bit_of mask e low high =
      let back : 1 + (e - 1) ≡ e = omega arith in
      subst (λ g. (bit_at mask (e - 1) ≡ 1) ↔ IsMember g (members mask 1 n)) back
      (member_bit mask 1 n (e - 1) (omega arith))

  pub complement_member : (e : ℕ) → IsMember e (members (others (mask_of 1 xs n) n) 1 n)
      ↔ ((1 ≤ e) × (e ≤ n) × (IsMember e xs → ⊥))
  complement_member e = (
    λ k.
        let b = members_from 1 n e (members (others (mask_of 1 xs n) n) 1 n)
        (members-subset (others (mask_of 1 xs n) n) 1 n) k in
        let low : 1 ≤ e = b.0 in
        let high : e ≤ n = (let t = b.1 in omega arith) in
        (low, high, λ q. off e low high k q),
    λ k. on e k.0 k.1 k.2,
  )
    where
      off : (e : ℕ) → 1 ≤ e → e ≤ n → IsMember e (members (others (mask_of 1 xs n) n) 1 n) → IsMember e xs → ⊥
      off e low high k q =
          let a = (bit_of (others (mask_of 1 xs n) n) e low high).1 k in
          let b = (bit_of (mask_of 1 xs n) e low high).1 (subst (IsMember e) (sym same) q) in
          let c = others_bit (mask_of 1 xs n) n (e - 1) small (omega arith) in
          omega (arith, a, b, c)

      on : (e : ℕ) → 1 ≤ e → e ≤ n → (IsMember e xs → ⊥) → IsMember e (members (others (mask_of 1 xs n) n) 1 n)
      on e low high none =
          let c = others_bit (mask_of 1 xs n) n (e - 1) small (omega arith) in
          let l = bit_at-lt (mask_of 1 xs n) (e - 1) in
          (bit_of (others (mask_of 1 xs n) n) e low high).0 (elim (cases_eq (bit_at (mask_of 1 xs n) (e - 1)) 1) [
            | inl one ↦ absurd (none (subst (IsMember e) same ((bit_of (mask_of 1 xs n) e low high).0 one)))
            | inr other ↦ omega (arith, c, l, other)
          ])
