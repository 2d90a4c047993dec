-- The masks where one place is read, written or dropped.
--
-- Main results: get_plus, get_minus, get_zero, set_made, drop_made
use Rattle.std.proofs.Common.{ℕ, ◌≡◌, ◌≢◌, ◌+◌, ◌-◌, ◌*◌, ◌/◌, ◌%◌, ◌<◌, ◌≤◌, ◌^◌, zero, suc, refl, sym, ◌∙◌, arith}
use Rattle.std.proofs.Common.{bit_and, bit_or, inl, inr, List, length, set}
use Rattle.std.specs.Int.{bit_at}
use Rattle.std.specs.List.{remove}
use Rattle.std.proofs.lemmas.Bool.{cases_lt, cases_eq}
use Rattle.std.proofs.lemmas.Nat.Bits.{bit_at-zero, bit_at-suc, bit_at-lt, bit_at_and, bit_at_or, bit_at-pow_same}
use Rattle.std.proofs.lemmas.Nat.Bits.{bit_at-pow_other, bit_at_ones, bit_at_ones_above}
use Rattle.std.proofs.lemmas.List.{get_or-set_same, get_or-set_other, length-set}
use Rattle.std.proofs.Common.{add-one}
use Rattle.std.proofs.Math.Nat.{zero-mul}
use Rattle.om_signs.specs.Masks.{is_plus-lt, is_minus-lt}
use Rattle.std.proofs.Math.Pow.{pow-lt}
use Rattle.std.proofs.lemmas.List.Edits.{get_or-remove_below, get_or-remove_above, length-remove}
use Rattle.om_signs.specs.declared.sign.Sign.{Sign}
use Rattle.om_signs.specs.declared.sign.Sign.TheVariants.{Minus, Zero, Plus}
use Rattle.om_signs.specs.Sign.{is_plus, is_minus}
use Rattle.om_signs.specs.SignVec.{at}
use Rattle.om_signs.specs.Masks.{signs_of, AreSignMasks}
use Rattle.om_signs.proofs.Views.{Stands, length_is, shows, stands, fits_32, from_plus_bit, from_minus_bit}
use Rattle.om_signs.proofs.Bits.{bit_at_and_not, one_shl_32, bit_from_test, no_bit_from_test}

pub get_plus : (p m n : ℕ) (xs : List Sign) (e : ℕ) → AreSignMasks p m n → signs_of p m n ≡ xs → e ≤ length xs
    → bit_and p (1 * 2 ^ (e - 1) % 4294967296) ≢ 0 → Plus ≡ at xs (e - 1)
get_plus p m n xs e h v le t =
    let k : e - 1 < 32 = let l = length_is p m n xs v in let b = h.high in omega arith in
    let t' : bit_and p (2 ^ (e - 1)) ≢ 0 = rw one_shl_32 at t in
    sym (from_plus_bit (at xs (e - 1)) (sym ((shows p m n xs h v (e - 1)).0) ∙ bit_from_test p (e - 1) t'))

pub get_minus : (p m n : ℕ) (xs : List Sign) (e : ℕ) → AreSignMasks p m n → signs_of p m n ≡ xs → e ≤ length xs
    → bit_and m (1 * 2 ^ (e - 1) % 4294967296) ≢ 0 → Minus ≡ at xs (e - 1)
get_minus p m n xs e h v le t =
    let k : e - 1 < 32 = let l = length_is p m n xs v in let b = h.high in omega arith in
    let t' : bit_and m (2 ^ (e - 1)) ≢ 0 = rw one_shl_32 at t in
    sym (from_minus_bit (at xs (e - 1)) (sym ((shows p m n xs h v (e - 1)).1) ∙ bit_from_test m (e - 1) t'))

pub get_zero : (p m n : ℕ) (xs : List Sign) (e : ℕ) → AreSignMasks p m n → signs_of p m n ≡ xs → e ≤ length xs
    → bit_and p (1 * 2 ^ (e - 1) % 4294967296) ≡ 0 → bit_and m (1 * 2 ^ (e - 1) % 4294967296) ≡ 0 → Zero ≡ at xs (e - 1)
get_zero p m n xs e h v le t u =
    let k : e - 1 < 32 = let l = length_is p m n xs v in let b = h.high in omega arith in
    let t' : bit_and p (2 ^ (e - 1)) ≡ 0 = rw one_shl_32 at t in
    let u' : bit_and m (2 ^ (e - 1)) ≡ 0 = rw one_shl_32 at u in
    let f = shows p m n xs h v (e - 1) in
    from_none (at xs (e - 1)) (sym f.0 ∙ no_bit_from_test p (e - 1) t') (sym f.1 ∙ no_bit_from_test m (e - 1) u')
  where
    from_none : (s : Sign) → is_plus s ≡ 0 → is_minus s ≡ 0 → Zero ≡ s
    from_none Minus a b = cc
    from_none Zero a b = refl
    from_none Plus a b = cc

-- one bit of `(p & !(1 << k)) | (b << k)`
bit_put : (p k b i : ℕ) → p < 2 ^ 32 → k < 32 → b < 2 → i ≢ k
    → bit_at (bit_or (bit_and p (4294967295 - 1 * 2 ^ k % 4294967296)) (b * 2 ^ k % 4294967296)) i ≡ bit_at p i
bit_put p k b i lp lk lb ne = rw (one_shl_32 k lk)
    (rw (bit_at_or, bit_at_and_not p (2 ^ k) i lp (pow-lt lk), bit_at-pow_other k i ne, bit_low b lb)
    (let l = bit_at-lt p i in omega arith))
  where
    bit_low : (b : ℕ) → b < 2 → bit_at (b * 2 ^ k % 4294967296) i ≡ 0
    bit_low zero l = rw zero-mul (bit_at-zero i)
    bit_low (suc zero) l = rw (one_shl_32 k lk) (bit_at-pow_other k i ne)
    bit_low (suc (suc b)) l = absurd (omega arith)

bit_put_same : (p k b : ℕ) → p < 2 ^ 32 → k < 32 → b < 2
    → bit_at (bit_or (bit_and p (4294967295 - 1 * 2 ^ k % 4294967296)) (b * 2 ^ k % 4294967296)) k ≡ b
bit_put_same p k b lp lk lb = rw (one_shl_32 k lk)
    (rw (bit_at_or, bit_at_and_not p (2 ^ k) k lp (pow-lt lk), bit_at-pow_same k, bit_high b lb)
    (omega arith))
  where
    bit_high : (b : ℕ) → b < 2 → bit_at (b * 2 ^ k % 4294967296) k ≡ b
    bit_high zero l = rw zero-mul (bit_at-zero k)
    bit_high (suc zero) l = rw (one_shl_32 k lk) (bit_at-pow_same k)
    bit_high (suc (suc b)) l = absurd (omega arith)

pub set_made : (p m n : ℕ) (xs : List Sign) (k : ℕ) (s : Sign) → AreSignMasks p m n → signs_of p m n ≡ xs
    → k < length xs
    → Stands (bit_or (bit_and p (4294967295 - 1 * 2 ^ k % 4294967296)) (is_plus s * 2 ^ k % 4294967296))
    (bit_or (bit_and m (4294967295 - 1 * 2 ^ k % 4294967296)) (is_minus s * 2 ^ k % 4294967296)) n (set xs k s)
set_made p m n xs k s h v lt =
    stands _ _ n _ h.low h.high (length-set xs k s ∙ length_is p m n xs v) (λ i. elim (cases_eq i k) [
      | inl e ↦ rw (e, get_or-set_same xs k s Zero lt)
          (bit_put_same p k (is_plus s) fp lk (is_plus-lt s), bit_put_same m k (is_minus s) fm lk (is_minus-lt s))
      | inr ne ↦ let f = shows p m n xs h v i in rw (get_or-set_other xs k i s Zero ne) (
        bit_put p k (is_plus s) i fp lk (is_plus-lt s) ne ∙ f.0,
        bit_put m k (is_minus s) i fm lk (is_minus-lt s) ne
            ∙ f.1,
      )
    ])
  where
    fp : p < 2 ^ 32
    fp = fits_32 p n h.high h.plus_within

    fm : m < 2 ^ 32
    fm = fits_32 m n h.high h.minus_within

    lk : k < 32
    lk = let l = length_is p m n xs v in let b = h.high in omega arith

-- one bit of `(p & below) | ((p >> 1) & !below)`, below having the bits under k
drop_below : (p k i : ℕ) → p < 2 ^ 32 → k < 32 → i < k
    → bit_at (bit_or (bit_and p (1 * 2 ^ k % 4294967296 - 1))
    (bit_and (p / 2) (4294967295 - (1 * 2 ^ k % 4294967296 - 1)))) i ≡ bit_at p i
drop_below p k i lp lk lt = rw (one_shl_32 k lk)
    (rw (
      bit_at_or,
      bit_at_and p (2 ^ k - 1) i,
      bit_at_and_not (p / 2) (2 ^ k - 1) i (omega arith) (let l : 2 ^ k < 2 ^ 32 = pow-lt lk in omega arith),
      bit_at_ones k i lt,
    )
    (let l = bit_at-lt p i in omega arith))

drop_above : (p k i : ℕ) → p < 2 ^ 32 → k < 32 → k ≤ i
    → bit_at (bit_or (bit_and p (1 * 2 ^ k % 4294967296 - 1))
    (bit_and (p / 2) (4294967295 - (1 * 2 ^ k % 4294967296 - 1)))) i ≡ bit_at p (i + 1)
drop_above p k i lp lk ge = rw (one_shl_32 k lk)
    (rw (
      bit_at_or,
      bit_at_and p (2 ^ k - 1) i,
      bit_at_and_not (p / 2) (2 ^ k - 1) i (omega arith) (let l : 2 ^ k < 2 ^ 32 = pow-lt lk in omega arith),
      bit_at_ones_above k i ge,
      ← bit_at-suc p i,
    )
    (rw add-one (let l = bit_at-lt p (suc i) in omega arith)))

pub drop_made : (p m n : ℕ) (xs : List Sign) (k : ℕ) → AreSignMasks p m n → signs_of p m n ≡ xs → k < length xs
    → 2 ≤ length xs
    → Stands (bit_or (bit_and p (1 * 2 ^ k % 4294967296 - 1))
    (bit_and (p / 2) (4294967295 - (1 * 2 ^ k % 4294967296 - 1))))
    (bit_or (bit_and m (1 * 2 ^ k % 4294967296 - 1)) (bit_and (m / 2) (4294967295 - (1 * 2 ^ k % 4294967296 - 1))))
    (n - 1) (remove xs k)
drop_made p m n xs k h v lt two =
    let l = length_is p m n xs v in
    let r = length-remove xs k lt in
    let top = h.high in
    stands _ _ (n - 1) _ (omega arith) (omega arith) (omega arith) (λ i. elim (cases_lt i k) [
      | inl below ↦ let f = shows p m n xs h v i in rw (get_or-remove_below xs k Zero i below lt)
          (drop_below p k i fp lk below ∙ f.0, drop_below m k i fm lk below ∙ f.1)
      | inr above ↦ let f = shows p m n xs h v (i + 1) in rw (get_or-remove_above xs k Zero i above lt)
          (drop_above p k i fp lk above ∙ f.0, drop_above m k i fm lk above ∙ f.1)
    ])
  where
    fp : p < 2 ^ 32
    fp = fits_32 p n h.high h.plus_within

    fm : m < 2 ^ 32
    fm = fits_32 m n h.high h.minus_within

    lk : k < 32
    lk = let l = length_is p m n xs v in let b = h.high in omega arith
