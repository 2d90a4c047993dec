-- Laws of the bits of a mask: the one home of them, some in the forms that the code's goals have.
--
-- Main results: lt_from_bits, bit_at_and_not, one_shl_32, bit_from_test, no_bit_from_test, some_bit; a bit is 0 or 1
-- (bit_one_or_zero, bit_within); common bits (bit_at_and_one, bit_and-half, bit_and-lowest); pow-add_one
use Rattle.std.proofs.Common.{ℕ, ◌≡◌, ◌≢◌, ◌+◌, ◌-◌, ◌*◌, ◌/◌, ◌%◌, ◌<◌, ◌≤◌, ◌^◌, ◌↔◌, ◌⊎◌, suc, min, refl, sym, ◌∙◌}
use Rattle.std.proofs.Common.{ap, arith, bit_and, inl, inr, w32}
use Rattle.std.specs.Int.{bit_at}
use Rattle.std.proofs.lemmas.Bool.{cases_lt, cases_eq}
use Rattle.std.proofs.lemmas.Nat.{one_shl}
use Rattle.std.proofs.Math.Nat.{mod-add-div', pow-succ'}
use Rattle.std.proofs.lemmas.Nat.{mod_below}
use Rattle.std.proofs.Math.Pow.{pow_pos}
use Rattle.std.proofs.lemmas.Nat.Bits.{bit_at-zero, bit_at-lt, bit_at_and, bit_at_not, bit_at_above, same_from_bits}
use Rattle.std.proofs.lemmas.Nat.Bits.{bit_at_cat_high, bit_at-trailing_zeros, and_pow, bit_at_lowest, bit_at-suc}

-- a number whose bits from n on are 0
pub lt_from_bits : (p n : ℕ) → ((i : ℕ) → n ≤ i → bit_at p i ≡ 0) → p < 2 ^ n
lt_from_bits p n none =
    let split : p % 2 ^ n + p / 2 ^ n * 2 ^ n ≡ p = mod-add-div' p (2 ^ n) in
    let small : p % 2 ^ n < 2 ^ n = mod_below p (2 ^ n) (pow_pos n) in
    let high : p / 2 ^ n ≡ 0 =
    same_from_bits (p / 2 ^ n) 0
    (λ i. high_bit i (sym (bit_at_cat_high (p / 2 ^ n) n (p % 2 ^ n) (n + i) small (omega arith)))) in
    let z : p / 2 ^ n * 2 ^ n ≡ 0 = rw high (omega arith) in
    omega arith
  where
    high_bit : (i : ℕ) → bit_at (p / 2 ^ n) (n + i - n) ≡ bit_at (p / 2 ^ n * 2 ^ n + p % 2 ^ n) (n + i)
        → bit_at (p / 2 ^ n) i ≡ bit_at 0 i
    high_bit i h =
        let back : n + i - n ≡ i = omega arith in
        let whole : p / 2 ^ n * 2 ^ n + p % 2 ^ n ≡ p = let e = mod-add-div' p (2 ^ n) in omega arith in
        ap (λ k. bit_at (p / 2 ^ n) k) (sym back) ∙ h ∙ ap (λ k. bit_at k (n + i)) whole ∙ none (n + i) (omega arith)
        ∙ sym (bit_at-zero i)

-- `a & !b`
pub bit_at_and_not : (a b i : ℕ) → a < 2 ^ 32 → b < 2 ^ 32
    → bit_at (bit_and a (4294967295 - b)) i ≡ min (bit_at a i) (1 - bit_at b i)
bit_at_and_not a b i la lb = elim (cases_lt i 32) [
  | inl lt ↦ bit_at_and a (4294967295 - b) i ∙ ap (λ k. min (bit_at a i) k) (bit_at_not w32 b i lb lt)
  | inr ge ↦ let z : bit_at a i ≡ 0 = bit_at_above a 32 i la ge in
      bit_at_and a (4294967295 - b) i ∙ rw z (omega arith)
]

-- `1 << k`
pub one_shl_32 : (k : ℕ) → k < 32 → 1 * 2 ^ k % 4294967296 ≡ 2 ^ k
one_shl_32 k lt = one_shl k 32 lt

-- a test `p & (1 << k) != 0`
pub bit_from_test : (p k : ℕ) → bit_and p (2 ^ k) ≢ 0 → bit_at p k ≡ 1
bit_from_test p k h = elim (cases_eq (bit_at p k) 0) [
  | inl z ↦ absurd (h (and_pow p k ∙ rw z (omega arith)))
  | inr n ↦ let l = bit_at-lt p k in omega arith
]

-- a test `p & (1 << k) == 0`
pub no_bit_from_test : (p k : ℕ) → bit_and p (2 ^ k) ≡ 0 → bit_at p k ≡ 0
no_bit_from_test p k h = elim (cases_eq (bit_at p k) 0) [
  | inl z ↦ z
  | inr n ↦
      let l = bit_at-lt p k in
      let one : bit_at p k ≡ 1 = omega arith in
      let e : bit_at p k * 2 ^ k ≡ 0 = sym (and_pow p k) ∙ h in
      let e' : 1 * 2 ^ k ≡ 0 = rw one at e in
      let pos = pow_pos k in
      absurd (omega arith)
]

-- the place of some bit of a number that is not 0
pub some_bit : (n : ℕ) → n ≢ 0 → n < 2 ^ 32 → (i : ℕ) × (bit_at n i ≡ 1)
some_bit n pos lt = let h = bit_at-trailing_zeros w32 n (omega arith) lt in (_, h.1)

-- ---- a bit is 0 or 1

-- no bit is both 0 and 1
pub not_zero_and_one : (b : ℕ) → b ≡ 0 → b ≡ 1 → ⊥
not_zero_and_one b zero one = omega arith

-- a bit is 1 or 0, to tell the two cases apart
pub bit_one_or_zero : (n i : ℕ) → (bit_at n i ≡ 1) ⊎ (bit_at n i ≡ 0)
bit_one_or_zero n i =
    elim (cases_eq (bit_at n i) 1) [ inl one ↦ inl one | inr none ↦ let l = bit_at-lt n i in inr (omega arith) ]

-- a bit that isn't 1 is 0
pub bit_zero_if_not_one : (n i : ℕ) → (bit_at n i ≡ 1 → ⊥) → bit_at n i ≡ 0
bit_zero_if_not_one n i none = elim (bit_one_or_zero n i) [ inl one ↦ absurd (none one) | inr zero ↦ zero ]

-- the number 0 has no bit that is 1
pub zero_has_no_bit : (i : ℕ) → bit_at 0 i ≡ 1 → ⊥
zero_has_no_bit i = not_zero_and_one (bit_at 0 i) (bit_at-zero i)

-- a number with a bit that is 1 isn't 0
pub nonzero_from_bit : (n i : ℕ) → bit_at n i ≡ 1 → n ≢ 0
nonzero_from_bit n i one z = zero_has_no_bit i (ap (λ k. bit_at k i) (sym z) ∙ one)

-- the place of a bit of a mask that is below 2 ^ n
pub bit_within : (mask n i : ℕ) → mask < 2 ^ n → bit_at mask i ≡ 1 → i < n
bit_within mask n i small one = elim (cases_lt i n) [
  | inl lt ↦ lt
  | inr ge ↦ absurd (not_zero_and_one (bit_at mask i) (bit_at_above mask n i small ge) one)
]

-- ---- the bits that two numbers have in common

-- a bit of `a & b` is 1 exactly if that bit is 1 in both numbers
pub bit_at_and_one : (a b i : ℕ) → (bit_at (bit_and a b) i ≡ 1) ↔ ((bit_at a i ≡ 1) × (bit_at b i ≡ 1))
bit_at_and_one a b i =
    let both = bit_at_and a b i in
    let p = bit_at-lt a i in
    let q = bit_at-lt b i in
    (λ h. (omega arith, omega arith), λ (u, v). omega arith)

-- half of `a & b`, rounded down, is what the halves of the two numbers have in common
pub bit_and-half : (a b : ℕ) → bit_and a b / 2 ≡ bit_and (a / 2) (b / 2)
bit_and-half a b = same_from_bits _ _ (λ i.
    sym (bit_at-suc (bit_and a b) i) ∙ bit_at_and a b (suc i) ∙ sides i ∙ sym (bit_at_and (a / 2) (b / 2) i))
  where
    sides : (i : ℕ) → min (bit_at a (suc i)) (bit_at b (suc i)) ≡ min (bit_at (a / 2) i) (bit_at (b / 2) i)
    sides i = rw (bit_at-suc a i, bit_at-suc b i) refl

-- the lowest bit of `a & b` is the smaller one of the two lowest bits
pub bit_and-lowest : (a b : ℕ) → bit_and a b % 2 ≡ min (a % 2) (b % 2)
bit_and-lowest a b = sym (bit_at_lowest (bit_and a b)) ∙ bit_at_and a b 0
    ∙ (let p = bit_at_lowest a in let q = bit_at_lowest b in rw (p, q) refl)

-- ---- powers of 2

-- one more in the exponent doubles a power of 2
pub pow-add_one : (n : ℕ) → 2 ^ (n + 1) ≡ 2 * 2 ^ n
pow-add_one n = let e : n + 1 ≡ suc n = omega arith in ap (λ k. 2 ^ k) e ∙ pow-succ' 2 n
