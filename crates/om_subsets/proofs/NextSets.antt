-- The next set of the same size: the last member that can move goes up by one, and those behind it follow it.
--
-- Main definitions: IsMoved, IsNext
-- Main results: next_made, what the loop for the next set makes; not_last; moved, moved_below, moved_members,
-- moved_rank; same_low and from_low, of two masks with the same low bits
-- Reference: Knuth, The Art of Computer Programming, volume 4A, section 7.2.1.3.
use Rattle.std.proofs.Common.{ℕ, ◌≡◌, ◌≢◌, ◌+◌, ◌-◌, ◌*◌, ◌/◌, ◌%◌, ◌<◌, ◌≤◌, ◌^◌, List, length, zero, suc, refl, sym}
use Rattle.std.proofs.Common.{◌∙◌, ap, arith, inl, inr, bit_and, add-one}
use Rattle.std.proofs.Math.Pow.{pow_pos, pow_mono}
use Rattle.std.proofs.lemmas.Bool.{cases_eq, ne_eqb}
use Rattle.std.proofs.lemmas.Nat.{one_shl}
use Rattle.std.proofs.Common.{add-zero, suc-mul, bit_or, mul-le-mul_right, pow-add}
use Rattle.std.proofs.Math.Arith.{digits_div}
use Rattle.std.proofs.lemmas.Nat.{mod_below, and_mask}
use Rattle.std.proofs.Math.Nat.{mod-eq_of_lt, pow-succ'}
use Rattle.std.specs.Int.{bit_at}
use Rattle.std.specs.Int.Bits.{or_shifted_r}
use Rattle.std.proofs.lemmas.Nat.Bits.{shr_and_one, bit_at-lt, bit_at_and, bit_at_ones, bit_at_cat_low}
use Rattle.om_subsets.specs.Subsets.{choose, rank_from, first_of}
use Rattle.om_subsets.proofs.Order.{rank_from-lt}
use Rattle.om_subsets.specs.Members.{members, members-subset}
use Rattle.om_subsets.proofs.Places.{members-ones, from_place, from_start, member_here, none_here}
use Rattle.om_subsets.proofs.Places.{rank_from_place, rank_member, rank_skipped, rank_none, length-first_of}
use Rattle.om_subsets.proofs.Places.{rank-first_of}
use Rattle.om_subsets.proofs.LastSets.{IsLast}

-- a mask that has the low i bits of another, none at i, and then k ones
pub record IsMoved (mask i k next : ℕ) : Type 0 where
  pub sum : next ≡ (2 ^ k - 1) * 2 ^ (i + 1) + mask % 2 ^ i

low_bits : (mask i : ℕ) → bit_and mask (2 ^ i - 1) ≡ mask % 2 ^ i
low_bits mask i = and_mask mask i

pub moved : (mask i k n : ℕ) → i + 1 + k ≤ n → n < 32
    → IsMoved mask i k
    (bit_or (bit_and mask (1 * 2 ^ i % 4294967296 - 1)) ((1 * 2 ^ k % 4294967296 - 1) * 2 ^ (i + 1) % 4294967296))
moved mask i k n l h =
    let e : 1 * 2 ^ i % 4294967296 ≡ 2 ^ i = one_shl i 32 (omega arith) in
    let f : 1 * 2 ^ k % 4294967296 ≡ 2 ^ k = one_shl k 32 (omega arith) in
    let fits = run_fits in
    let small : mask % 2 ^ i < 2 ^ (i + 1) = let d = pow-succ' 2 i in let p = pow_pos i in let m =
    mod_below mask (2 ^ i) p in rw add-one (omega arith) in
    record {
      sum =
          rw (e, f, low_bits mask i, mod-eq_of_lt fits) (or_shifted_r (2 ^ k - 1) (i + 1) (mask % 2 ^ i) small);
    }
  where
    run_fits : (2 ^ k - 1) * 2 ^ (i + 1) < 4294967296
    run_fits =
        let a : 2 ^ (k + (i + 1)) ≡ 2 ^ k * 2 ^ (i + 1) = pow-add 2 k (i + 1) in
        let b : 2 ^ (k + (i + 1)) ≤ 2 ^ 31 = pow_mono {j = 31} (omega arith) in
        let c : (2 ^ k - 1) * 2 ^ (i + 1) ≤ 2 ^ k * 2 ^ (i + 1) = mul-le-mul_right (2 ^ (i + 1)) (omega arith) in
        omega arith

pub moved_below : (mask i k n next : ℕ) → IsMoved mask i k next → i + 1 + k ≤ n → next < 2 ^ n
moved_below mask i k n next m l =
    let s = m.sum in
    let a : 2 ^ (k + (i + 1)) ≡ 2 ^ k * 2 ^ (i + 1) = pow-add 2 k (i + 1) in
    let b : 2 ^ (k + (i + 1)) ≤ 2 ^ n = pow_mono (omega arith) in
    let d : 2 ^ (i + 1) ≡ 2 * 2 ^ i = rw add-one (pow-succ' 2 i) in
    let p = pow_pos i in
    let q = mod_below mask (2 ^ i) p in
    let c : (2 ^ k - 1) * 2 ^ (i + 1) + 2 ^ (i + 1) ≡ 2 ^ k * 2 ^ (i + 1) = run (2 ^ k) (2 ^ (i + 1)) (pow_pos k) in
    omega arith
  where
    run : (a b : ℕ) → 1 ≤ a → (a - 1) * b + b ≡ a * b
    run zero b l = absurd (omega arith)
    run (suc a) b l = let e : suc a - 1 ≡ a = omega arith in rw (e, suc-mul) refl

-- its members from place i on
pub moved_members : (mask i k n next : ℕ) → IsMoved mask i k next → i + 1 + k ≤ n
    → from_place next i n ≡ first_of (i + 2) k
moved_members mask i k n next m l =
    let p = pow_pos i in
    let d : 2 ^ (i + 1) ≡ 2 ^ i * 2 = let e = pow-succ' 2 i in rw add-one (omega arith) in
    let q : next / 2 ^ i ≡ (2 ^ k - 1) * 2 =
    quotient (2 ^ k - 1) (2 ^ i) (mask % 2 ^ i) next (2 ^ (i + 1)) p (mod_below mask (2 ^ i) p) d m.sum in
    let s : n - i ≡ suc (n - (i + 1)) = omega arith in
    let even : (2 ^ k - 1) * 2 % 2 ≡ 0 = omega arith in
    let half : (2 ^ k - 1) * 2 / 2 ≡ 2 ^ k - 1 = omega arith in
    let two : i + 1 + 1 ≡ i + 2 = omega arith in
    rw (q, s, even, half, two) (members-ones k (i + 2) (n - (i + 1)) (omega arith))
  where
    quotient : (a b r x c : ℕ) → 0 < b → r < b → c ≡ b * 2 → x ≡ a * c + r → x / b ≡ a * 2
    quotient a b r x c pb lr ec ex =
        let e : a * 2 * b + r ≡ x = rw (ex, ec) (omega arith) in
        rw (← e) (digits_div (a * 2) lr)

-- the next of a list of the last ones after i + 1
pub moved_rank : (mask i k n next : ℕ) → IsMoved mask i (suc k) next → i + 1 + suc k ≤ n → bit_and (mask / 2 ^ i) 1 ≡ 1
    → k ≡ length (from_place mask (i + 1) n) → IsLast mask (i + 1) n
    → rank_from_place i n (from_place next i n) ≡ rank_from_place i n (from_place mask i n) + 1
moved_rank mask i k n next m l t ek h =
    let e = rank_member mask i n (omega arith) t in
    rw (moved_members mask i (suc k) n next m l)
    (skip (n - i) (n - (i + 1)) (omega arith) ∙ sym (ap (λ x. x + 1) e ∙ h ∙ ap (choose (n - (i + 1))) (sym ek)))
  where
    skip : (a b : ℕ) → a ≡ suc b → rank_from (i + 1) a (first_of (i + 2) (suc k)) ≡ choose b k
    skip a b ea =
        let ne : i + 2 ≡ i + 1 → ⊥ = omega arith in
        let two : i + 1 + 1 ≡ i + 2 = omega arith in
        rw (ea, ne_eqb (i + 2) (i + 1) ne, two, rank-first_of (i + 2) b (suc k), length-first_of (i + 2 + 1) k)
        (add-zero (choose b k))

pub same_low : (mask i k next j : ℕ) → IsMoved mask i k next → j < i → bit_at next j ≡ bit_at mask j
same_low mask i k next j m l =
    rw (m.sum, bit_at_cat_low (2 ^ k - 1) (i + 1) (mask % 2 ^ i) j (omega arith), ← low_bits mask i)
    (bit_at_and mask (2 ^ i - 1) j ∙ rw (bit_at_ones i j l) (let b = bit_at-lt mask j in omega arith))

step_rank : (a b i n : ℕ) → i < n → bit_at a i ≡ bit_at b i
    → length (from_place a (i + 1) n) ≡ length (from_place b (i + 1) n)
    → rank_from_place (i + 1) n (from_place b (i + 1) n) ≡ rank_from_place (i + 1) n (from_place a (i + 1) n) + 1
    → (length (from_place a i n) ≡ length (from_place b i n))
    × (rank_from_place i n (from_place b i n) ≡ rank_from_place i n (from_place a i n) + 1)
step_rank a b i n l same len rank = elim (cases_eq (bit_at a i) 1) [
  | inl o ↦
      let ta = shr_and_one a i ∙ o in
      let tb = shr_and_one b i ∙ sym same ∙ o in (
        ap length (member_here a i n l ta) ∙ ap suc len ∙ sym (ap length (member_here b i n l tb)),
        rank_member b i n l tb ∙ rank ∙ ap (λ x. x + 1) (sym (rank_member a i n l ta)),
      )
  | inr z ↦
      let ta : bit_and (a / 2 ^ i) 1 ≢ 1 = (λ e. z (sym (shr_and_one a i) ∙ e)) in
      let tb : bit_and (b / 2 ^ i) 1 ≢ 1 = (λ e. z (same ∙ sym (shr_and_one b i) ∙ e)) in (
        ap length (none_here a i n l ta) ∙ len ∙ sym (ap length (none_here b i n l tb)),
        elim (cases_eq (length (from_place b (i + 1) n)) 0) [
          | inl none ↦ let r = rank_none (i + 1) n (from_place b (i + 1) n) none in absurd (omega arith)
          | inr some ↦
              let ra = rank_skipped a i n l ta (omega arith) in
              let rb = rank_skipped b i n l tb (omega arith) in
              let q = ap (λ x. choose (n - 1 - i) (x - 1)) len in
              omega arith
        ],
      )
]

pub from_low : (a b i n : ℕ) → i ≤ n → ((j : ℕ) → j < i → bit_at a j ≡ bit_at b j)
    → length (from_place a i n) ≡ length (from_place b i n)
    → rank_from_place i n (from_place b i n) ≡ rank_from_place i n (from_place a i n) + 1
    → (length (members a 1 n) ≡ length (members b 1 n))
    × (rank_from 1 n (members b 1 n) ≡ rank_from 1 n (members a 1 n) + 1)
from_low a b zero n l same len rank =
    let z : n - 0 ≡ n = omega arith in
    let one : 0 + 1 ≡ 1 = omega arith in (
      sym (ap length (from_start a n)) ∙ len ∙ ap length (from_start b n),
      ap (rank_from 1 n) (sym (from_start b n)) ∙ at_start (from_place b 0 n) ∙ rank
          ∙ ap (λ x. x + 1) (sym (at_start (from_place a 0 n)) ∙ ap (rank_from 1 n) (from_start a n)),
    )
  where
    at_start : (xs : List ℕ) → rank_from 1 n xs ≡ rank_from_place 0 n xs
    at_start xs = let z : n - 0 ≡ n = omega arith in rw z refl
from_low a b (suc i) n l same len rank =
    let e : suc i ≡ i + 1 = omega arith in
    let len' : length (from_place a (i + 1) n) ≡ length (from_place b (i + 1) n) = rw e at len in
    let rank' : rank_from_place (i + 1) n (from_place b (i + 1) n) ≡ rank_from_place (i + 1) n (from_place a (i + 1) n)
    + 1 = rw e at rank in
    let s = step_rank a b i n (omega arith) (same i (omega arith)) len' rank' in
    from_low a b i n (omega arith) (λ j lt. same j (omega arith)) s.0 s.1

-- another mask of as many members, whose place is the next one
pub record IsNext (mask n next : ℕ) : Type 0 where
  pub below : next < 2 ^ n
  pub size : length (members mask 1 n) ≡ length (members next 1 n)
  pub rank : rank_from 1 n (members next 1 n) ≡ rank_from 1 n (members mask 1 n) + 1

recount : (mask i k j next : ℕ) → k ≡ j → IsMoved mask i k next → IsMoved mask i j next
recount mask i k j next e m = record { sum = m.sum ∙ ap (λ x. (2 ^ x - 1) * 2 ^ (i + 1) + mask % 2 ^ i) e }

pub next_made : (mask n k t : ℕ) → n < 32 → k < n → bit_and (mask / 2 ^ (n - 1 - k)) 1 ≡ 1 → t < k
    → t ≡ length (from_place mask (n - k) n) → IsLast mask (n - k) n
    → IsNext mask n
    (bit_or (bit_and mask (1 * 2 ^ (n - 1 - k) % 4294967296 - 1))
    ((1 * 2 ^ (t + 1) % 4294967296 - 1) * 2 ^ (n - 1 - k + 1) % 4294967296))
next_made mask n k t h lk test lt et last =
    let here : n - k ≡ n - 1 - k + 1 = omega arith in
    let st : t + 1 ≡ suc t = omega arith in
    let et' : t ≡ length (from_place mask (n - 1 - k + 1) n) = rw here at et in
    let last' : IsLast mask (n - 1 - k + 1) n = rw here at last in
    let room : n - 1 - k + 1 + (t + 1) ≤ n = omega arith in
    let m = moved mask (n - 1 - k) (t + 1) n room h in
    let m' = recount mask (n - 1 - k) (t + 1) (suc t) _ st m in
    let r = moved_rank mask (n - 1 - k) t n _ m' (omega arith) test et' last' in
    let lens : length (from_place mask (n - 1 - k) n) ≡ length (from_place _ (n - 1 - k) n) =
    ap length (member_here mask (n - 1 - k) n (omega arith) test) ∙ ap suc (sym et')
    ∙ sym (ap length (moved_members mask (n - 1 - k) (suc t) n _ m' (omega arith))
    ∙ length-first_of (n - 1 - k + 2) (suc t)) in
    let all = from_low mask _ (n - 1 - k) n (omega arith) (λ j l. sym (same_low mask (n - 1 - k) (suc t) _ j m' l)) lens
    r in
    record { below = moved_below mask (n - 1 - k) (t + 1) n _ m room; size = all.0; rank = all.1 }

pub not_last : (mask n next : ℕ) → IsNext mask n next
    → rank_from 1 n (members mask 1 n) + 1 ≡ choose n (length (members mask 1 n)) → ⊥
not_last mask n next h e =
    let l = rank_from-lt 1 n (members next 1 n) (members-subset next 1 n) in
    let c = ap (choose n) h.size in
    let r = h.rank in
    absurd (omega arith)
