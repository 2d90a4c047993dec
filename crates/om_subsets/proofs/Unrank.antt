-- The set at a place, chosen one number at a time.
--
-- Main definitions: Completes, IsBegun
-- Main results: begun, begun_done, begun_skip, begun_take, begun_end, listed_end
use Rattle.std.proofs.Common.{ℕ, ◌≡◌, ◌≢◌, ◌+◌, ◌-◌, ◌*◌, ◌/◌, ◌%◌, ◌<◌, ◌≤◌, ◌^◌, length, zero, suc, refl, sym, ◌∙◌}
use Rattle.std.proofs.Common.{ap, arith, bit_and, bit_or, add-one, max}
use Rattle.std.specs.Int.{bit_at}
use Rattle.std.proofs.Math.Pow.{pow-lt}
use Rattle.std.proofs.lemmas.Nat.{one_shl, or_lt}
use Rattle.std.proofs.lemmas.Nat.Bits.{bit_at_or, bit_at_above, bit_at-pow_same, bit_at-pow_other, shr_and_one}
use Rattle.std.proofs.Math.Nat.{pow-succ'}
use Rattle.om_signs.proofs.Bits.{not_zero_and_one}
use Rattle.om_subsets.specs.Subsets.{choose, rank_from, subset_at}
use Rattle.om_subsets.specs.Members.{members, members-subset}
use Rattle.om_subsets.proofs.Order.{get_or-rank_from}
use Rattle.om_subsets.proofs.Counts.{choose_none}
use Rattle.om_subsets.proofs.Places.{from_place, rank_from_place, member_here, none_here, rank_member, rank_skipped}
use Rattle.om_subsets.proofs.Places.{rank_none}

-- a mask that begins as this one, and goes on with a set of this size and place, has size r and place k
abbrev pub Completes : ℕ → ℕ → ℕ → ℕ → ℕ → ℕ → ℕ → Type 0
Completes mask i left rest r k n = (m : ℕ) → ((j : ℕ) → j < i → bit_at m j ≡ bit_at mask j)
    → length (from_place m i n) ≡ left → rank_from_place i n (from_place m i n) ≡ rest → (length (members m 1 n) ≡ r)
    × (rank_from 1 n (members m 1 n) ≡ k)

pub record IsBegun (mask i left rest r k n : ℕ) : Type 0 where
  pub small : mask < 2 ^ i
  pub place : rest < choose (n - i) left
  pub completes : Completes mask i left rest r k n

grow : (mask i : ℕ) → mask < 2 ^ i → mask < 2 ^ (i + 1)
grow mask i l = let d = pow-succ' 2 i in rw add-one (omega arith)

pub begun_done : (mask i rest r k n : ℕ) → i < n → IsBegun mask i 0 rest r k n → IsBegun mask (i + 1) 0 rest r k n
begun_done mask i rest r k n l b = record {
  small = grow mask i b.small;
  place = rw (choose_none (n - (i + 1))) (let p : rest < choose (n - i) 0 = b.place in let q = choose_none (n - i) in
      omega arith);
  completes = λ m same len rank.
      let bit : bit_at m i ≡ 0 = same i (omega arith) ∙ bit_at_above mask i i b.small (omega arith) in
      let none : bit_and (m / 2 ^ i) 1 ≢ 1 = (λ e. not_zero_and_one (bit_at m i) bit (sym (shr_and_one m i) ∙ e)) in
      let here = none_here m i n l none in
      let len0 = ap length here ∙ len in
      b.completes m (λ j lj. same j (omega arith)) len0
      (rank_none i n (from_place m i n) len0 ∙ sym (rank_zero m rank len));
}
  where
    rank_zero : (m : ℕ) → rank_from_place (i + 1) n (from_place m (i + 1) n) ≡ rest
        → length (from_place m (i + 1) n) ≡ 0 → rest ≡ 0
    rank_zero m rank len = sym rank ∙ rank_none (i + 1) n (from_place m (i + 1) n) len

pub begun_skip : (mask i left rest r k n : ℕ) → i < n → 0 < left → choose (n - 1 - i) (left - 1) ≤ rest
    → IsBegun mask i left rest r k n → IsBegun mask (i + 1) left (rest - choose (n - 1 - i) (left - 1)) r k n
begun_skip mask i left rest r k n l some le b = record {
  small = grow mask i b.small;
  place = pascal (n - i) (n - 1 - i) (n - (i + 1)) left rest (omega arith) (omega arith) some b.place le;
  completes = λ m same len rank.
      let bit : bit_at m i ≡ 0 = same i (omega arith) ∙ bit_at_above mask i i b.small (omega arith) in
      let none : bit_and (m / 2 ^ i) 1 ≢ 1 = (λ e. not_zero_and_one (bit_at m i) bit (sym (shr_and_one m i) ∙ e)) in
      let s : 0 < length (from_place m (i + 1) n) = omega arith in
      let step = rank_skipped m i n l none s in
      let q = ap (λ x. choose (n - 1 - i) (x - 1)) len in
      b.completes m (λ j lj. same j (omega arith)) (ap length (none_here m i n l none) ∙ len) (omega arith);
}
  where
    pascal : (a b c t x : ℕ) → a ≡ suc c → b ≡ c → 0 < t → x < choose a t → choose b (t - 1) ≤ x
        → x - choose b (t - 1) < choose c t
    pascal a b c zero x ea eb s p q = absurd (omega arith)
    pascal a b c (suc t) x ea eb s p q =
        let o : suc t - 1 ≡ t = omega arith in
        let p' : x < choose (suc c) (suc t) = rw ea at p in
        let q' : choose c t ≤ x = rw (eb, o) at q in
        rw (eb, o) (omega arith)

pub begun_take : (mask i left rest r k n : ℕ) → i < n → n < 32 → 0 < left → rest < choose (n - 1 - i) (left - 1)
    → IsBegun mask i left rest r k n → IsBegun (bit_or mask (1 * 2 ^ i % 4294967296)) (i + 1) (left - 1) rest r k n
begun_take mask i left rest r k n l h some lt b = rw (one_shl i 32 (omega arith)) (record {
  small = or_lt (i + 1) mask (2 ^ i) (grow mask i b.small) (pow-lt (omega arith));
  place = let e : n - (i + 1) ≡ n - 1 - i = omega arith in rw e lt;
  completes = λ m same len rank.
      let bit : bit_at m i ≡ 1 = same i (omega arith) ∙ bit_at_or mask (2 ^ i) i
      ∙ rw (bit_at_above mask i i b.small (omega arith), bit_at-pow_same i) refl in
      let test = shr_and_one m i ∙ bit in
      b.completes m
      (λ j lj. same j (omega arith) ∙ bit_at_or mask (2 ^ i) j ∙ low j lj)
      (ap length (member_here m i n l test) ∙ more len)
      (rank_member m i n l test ∙ rank);
})
  where
    low : (j : ℕ) → j < i → max (bit_at mask j) (bit_at (2 ^ i) j) ≡ bit_at mask j
    low j lj = let ne : j ≢ i = omega arith in rw (bit_at-pow_other i j ne) (omega arith)

    more : {x : ℕ} → x ≡ left - 1 → suc x ≡ left
    more e = omega arith

choose_of_zero : (t : ℕ) (x : ℕ) → x < choose zero t → (t ≡ 0) × (x ≡ 0)
choose_of_zero zero x l = (refl, omega arith)
choose_of_zero (suc t) x l = absurd (omega arith)

pub begun_end : (mask left rest r k n : ℕ) → IsBegun mask n left rest r k n → (length (members mask 1 n) ≡ r)
    × (rank_from 1 n (members mask 1 n) ≡ k)
begun_end mask left rest r k n b =
    let z : n - n ≡ 0 = omega arith in
    let p : rest < choose zero left = rw z at b.place in
    let q = choose_of_zero left rest p in
    b.completes mask (λ j l. refl) (rw (z, q.0) refl) (rw (z, q.1) refl)

-- it is the list at this place
pub listed_end : (mask left rest r k n : ℕ) → IsBegun mask n left rest r k n → members mask 1 n ≡ subset_at n r k
listed_end mask left rest r k n b =
    let e = begun_end mask left rest r k n b in
    sym (get_or-rank_from 1 n (members mask 1 n) (members-subset mask 1 n)) ∙ rw (e.0, e.1) refl
