-- A number with one bit more or less, and the bits of a word spread to the places with one bit more.
--
-- Main definitions: moved
-- Main results: add_bit_same, add_bit_other, take_bit, stays_within, word_spread
use Rattle.std.specs.Prelude.{ℕ, ◌≡◌, ◌≢◌, ◌+◌, ◌-◌, ◌*◌, ◌/◌, ◌%◌, ◌<◌, ◌≤◌, ◌^◌, ◌⊎◌, refl, Bool, true, bit_and}
use Rattle.std.specs.Prelude.{bit_or, nat_eq, nat_lt, ◌&&◌}
use Rattle.std.specs.Int.{bit_at}
use Rattle.std.proofs.Common.{sym, ◌∙◌, ap, arith, inl, inr, get_or, min, zero, suc}
use Rattle.std.proofs.lemmas.Bool.{cases_eq, cases_lt, eqb-true, ltb-true, and_parts}
use Rattle.std.proofs.lemmas.Nat.{mod_below}
use Rattle.std.proofs.Math.Nat.{mod-add-div'}
use Rattle.std.proofs.Math.Pow.{pow_pos}
use Rattle.std.proofs.lemmas.Nat.Bits.{bit_at-lt, bit_at_above, bit_at-zero, bit_at_or, bit_at_and, bit_at_cat_low}
use Rattle.std.proofs.lemmas.Nat.Bits.{bit_at_cat_high}
use Rattle.om_signs.proofs.Bits.{not_zero_and_one, bit_one_or_zero, pow-add_one}
use Rattle.om_chirotope.specs.declared.marking.TheConstants.{LOW}
use Rattle.om_chirotope.specs.Marks.{IsWordSpread}

-- ---- a number with one bit more

-- a number of e + 1 bits whose bit e is 0 is below 2 ^ e
low_part : (b e : ℕ) → b < 2 ^ (e + 1) → bit_at b e ≡ 0 → b < 2 ^ e
low_part b e l z = elim (cases_lt b (2 ^ e)) [
  | inl k ↦ k
  | inr g ↦
      let d = pow-add_one e in
      let parts : 1 * 2 ^ e + (b - 2 ^ e) ≡ b = omega arith in
      let one = bit_at_cat_high 1 e (b - 2 ^ e) e (omega arith) (omega arith) in
      let none : e - e ≡ 0 = omega arith in
      absurd (not_zero_and_one (bit_at b e) z (ap (λ k. bit_at k e) (sym parts) ∙ one ∙ ap (bit_at 1) none))
]

record IsSplit (t e : ℕ) : Type 0 where
  a : ℕ
  b : ℕ
  whole : a * 2 ^ (e + 1) + b ≡ t
  small : b < 2 ^ e

split : (t e : ℕ) → bit_at t e ≡ 0 → IsSplit t e
split t e z =
    let w : t / 2 ^ (e + 1) * 2 ^ (e + 1) + t % 2 ^ (e + 1) ≡ t = let e' = mod-add-div' t (2 ^ (e + 1)) in
    omega arith in
    record {
      a = t / 2 ^ (e + 1);
      b = t % 2 ^ (e + 1);
      whole = w;
      small = low_part (t % 2 ^ (e + 1)) e (mod_below t (2 ^ (e + 1)) (pow_pos (e + 1)))
          (sym (bit_at_cat_low (t / 2 ^ (e + 1)) (e + 1) (t % 2 ^ (e + 1)) e (omega arith)) ∙ ap (λ k. bit_at k e) w
          ∙ z);
    }

added : (t e : ℕ) (s : IsSplit t e) → s.a * 2 ^ (e + 1) + (1 * 2 ^ e + s.b) ≡ t + 2 ^ e
added t e s = let w = s.whole in omega arith

pub add_bit_same : (t e : ℕ) → bit_at t e ≡ 0 → bit_at (t + 2 ^ e) e ≡ 1
add_bit_same t e z =
    let s = split t e z in
    let none : e - e ≡ 0 = omega arith in
    ap (λ k. bit_at k e) (sym (added t e s)) ∙ bit_at_cat_low s.a (e + 1) (1 * 2 ^ e + s.b) e (omega arith)
    ∙ bit_at_cat_high 1 e s.b e s.small (omega arith) ∙ ap (bit_at 1) none

pub add_bit_other : (t e j : ℕ) → bit_at t e ≡ 0 → j ≢ e → bit_at (t + 2 ^ e) j ≡ bit_at t j
add_bit_other t e j z n = ap (λ k. bit_at k j) (sym (added t e s)) ∙ elim (cases_lt j e) [
  | inl l ↦ bit_at_cat_low s.a (e + 1) (1 * 2 ^ e + s.b) j (omega arith) ∙ bit_at_cat_low 1 e s.b j l
      ∙ sym (bit_at_cat_low s.a (e + 1) s.b j (omega arith)) ∙ ap (λ k. bit_at k j) s.whole
  | inr g ↦
      let d = pow-add_one e in
      let small = s.small in
      let up : e + 1 ≤ j = omega (arith, g, n) in
      bit_at_cat_high s.a (e + 1) (1 * 2 ^ e + s.b) j (omega arith) up
      ∙ sym (bit_at_cat_high s.a (e + 1) s.b j (omega arith) up) ∙ ap (λ k. bit_at k j) s.whole
]
  where
    s : IsSplit t e
    s = split t e z

-- the number without its bit e
pub take_bit : (s e : ℕ) → bit_at s e ≡ 1 → (2 ^ e ≤ s) × (bit_at (s - 2 ^ e) e ≡ 0)
take_bit s e one = (above, low)
  where
    a : ℕ
    a = s / 2 ^ (e + 1)

    b : ℕ
    b = s % 2 ^ (e + 1)

    whole : s / 2 ^ (e + 1) * 2 ^ (e + 1) + s % 2 ^ (e + 1) ≡ s
    whole = let e' = mod-add-div' s (2 ^ (e + 1)) in omega arith

    one_low : bit_at (s % 2 ^ (e + 1)) e ≡ 1
    one_low = sym (bit_at_cat_low (s / 2 ^ (e + 1)) (e + 1) (s % 2 ^ (e + 1)) e (omega arith))
        ∙ ap (λ k. bit_at k e) whole ∙ one

    high : 2 ^ e ≤ s % 2 ^ (e + 1)
    high = elim (cases_lt (s % 2 ^ (e + 1)) (2 ^ e)) [
      | inl l ↦
          absurd (not_zero_and_one (bit_at (s % 2 ^ (e + 1)) e)
          (bit_at_above (s % 2 ^ (e + 1)) e e l (omega arith)) one_low)
      | inr g ↦ g
    ]

    above : 2 ^ e ≤ s
    above = let h = high in let w = whole in omega arith

    low : bit_at (s - 2 ^ e) e ≡ 0
    low =
        let h = high in
        let w = whole in
        let d = pow-add_one e in
        let m = mod_below s (2 ^ (e + 1)) (pow_pos (e + 1)) in
        let parts : s / 2 ^ (e + 1) * 2 ^ (e + 1) + (s % 2 ^ (e + 1) - 2 ^ e) ≡ s - 2 ^ e = omega arith in
        ap (λ k. bit_at k e) (sym parts)
        ∙ bit_at_cat_low (s / 2 ^ (e + 1)) (e + 1) (s % 2 ^ (e + 1) - 2 ^ e) e (omega arith)
        ∙ bit_at_above (s % 2 ^ (e + 1) - 2 ^ e) e e (omega arith) (omega arith)

-- ---- within a word

mod_bit : (x p : ℕ) → p < 64 → bit_at (x % 2 ^ 64) p ≡ bit_at x p
mod_bit x p l =
    let w : x / 2 ^ 64 * 2 ^ 64 + x % 2 ^ 64 ≡ x = let e' = mod-add-div' x (2 ^ 64) in omega arith in
    sym (bit_at_cat_low (x / 2 ^ 64) 64 (x % 2 ^ 64) p l) ∙ ap (λ k. bit_at k p) w

shl_high : (x s p : ℕ) → s ≤ p → p < 64 → bit_at (x * 2 ^ s % 2 ^ 64) p ≡ bit_at x (p - s)
shl_high x s p g l =
    let z : x * 2 ^ s + 0 ≡ x * 2 ^ s = omega arith in
    mod_bit (x * 2 ^ s) p l ∙ ap (λ k. bit_at k p) (sym z) ∙ bit_at_cat_high x s 0 p (pow_pos s) g

shl_low : (x s p : ℕ) → p < s → p < 64 → bit_at (x * 2 ^ s % 2 ^ 64) p ≡ 0
shl_low x s p g l =
    let z : x * 2 ^ s + 0 ≡ x * 2 ^ s = omega arith in
    mod_bit (x * 2 ^ s) p l ∙ ap (λ k. bit_at k p) (sym z) ∙ bit_at_cat_low x s 0 p g ∙ bit_at-zero p

abbrev below_all : ℕ → (ℕ → Bool) → Bool
below_all zero f = true
below_all (suc n) f = f n && below_all n f

below_at : (n : ℕ) (f : ℕ → Bool) → below_all n f ≡ true → (k : ℕ) → k < n → f k ≡ true
below_at zero f h k l = absurd (omega arith)
below_at (suc n) f h k l = elim (cases_eq k n) [
  | inl q ↦ ap f q ∙ (and_parts (f n) (below_all n f) h).0
  | inr ne ↦ below_at n f (and_parts (f n) (below_all n f) h).1 k (omega arith)
]

-- at each place of a word, the mask of e has the bit that the place hasn't; where it has one, the place with bit e is
-- in the word too
abbrev fits_at : ℕ → ℕ → Bool
fits_at e p = nat_eq (bit_at (get_or LOW e 0) p + bit_at p e) 1 && nat_lt (p + 2 ^ e * (1 - bit_at p e)) 64

all_fit : below_all 6 (λ e. below_all 64 (fits_at e)) ≡ true
all_fit = refl

fits : (e p : ℕ) → e < 6 → p < 64 → fits_at e p ≡ true
fits e p le lp = below_at 64 (fits_at e) (below_at 6 (λ e. below_all 64 (fits_at e)) all_fit e le) p lp

-- the mask of e has a bit at the places without bit e
mask_bit : (e p : ℕ) → e < 6 → p < 64 → bit_at (get_or LOW e 0) p + bit_at p e ≡ 1
mask_bit e p le lp = eqb-true (bit_at (get_or LOW e 0) p + bit_at p e) 1
    (and_parts (nat_eq (bit_at (get_or LOW e 0) p + bit_at p e) 1) (nat_lt (p + 2 ^ e * (1 - bit_at p e)) 64)
    (fits e p le lp)).0

pub stays_within : (e p : ℕ) → e < 6 → p < 64 → bit_at p e ≡ 0 → p + 2 ^ e < 64
stays_within e p le lp z =
    let h = ltb-true (p + 2 ^ e * (1 - bit_at p e)) 64
    (and_parts (nat_eq (bit_at (get_or LOW e 0) p + bit_at p e) 1) (nat_lt (p + 2 ^ e * (1 - bit_at p e)) 64)
    (fits e p le lp)).1 in
    let one : 1 - bit_at p e ≡ 1 = omega arith in
    let same : 2 ^ e * (1 - bit_at p e) ≡ 2 ^ e = ap (λ k. 2 ^ e * k) one ∙ omega arith in
    omega arith

-- the word with what its mask has moved up
abbrev pub moved : ℕ → ℕ → ℕ
moved w e = bit_and w (get_or LOW e 0) * 2 ^ (2 ^ e) % 2 ^ 64

pub word_spread : (w e : ℕ) → e < 6 → IsWordSpread w (bit_or w (moved w e)) e
word_spread w e le = record { keeps = keeps; adds = adds; only = only }
  where
    keeps : (p : ℕ) → bit_at w p ≡ 1 → bit_at (bit_or w (moved w e)) p ≡ 1
    keeps p h = let o = bit_at_or w (moved w e) p in let l = bit_at-lt (moved w e) p in omega (arith, o, h, l)

    adds : (p : ℕ) → p < 64 → bit_at p e ≡ 0 → bit_at w p ≡ 1 → bit_at (bit_or w (moved w e)) (p + 2 ^ e) ≡ 1
    adds p lp z h =
        let within = stays_within e p le lp z in
        let up = shl_high (bit_and w (get_or LOW e 0)) (2 ^ e) (p + 2 ^ e) (omega arith) within in
        let back : p + 2 ^ e - 2 ^ e ≡ p = omega arith in
        let both = bit_at_and w (get_or LOW e 0) p in
        let mask = mask_bit e p le lp in
        let on : bit_at (moved w e) (p + 2 ^ e) ≡ 1 = up ∙ ap (bit_at (bit_and w (get_or LOW e 0))) back
        ∙ omega (arith, both, mask, z, h) in
        let o = bit_at_or w (moved w e) (p + 2 ^ e) in
        let l = bit_at-lt w (p + 2 ^ e) in
        omega (arith, o, on, l)

    only : (p : ℕ) → p < 64 → bit_at (bit_or w (moved w e)) p ≡ 1 → (bit_at w p ≡ 1)
        ⊎ ((q : ℕ) × (q + 2 ^ e ≡ p) × (bit_at q e ≡ 0) × (bit_at w q ≡ 1))
    only p lp h = elim (bit_one_or_zero w p) [
      | inl on ↦ inl on
      | inr off ↦
          let o = bit_at_or w (moved w e) p in
          let m : bit_at (moved w e) p ≡ 1 = omega (arith, o, h, off) in
          elim (cases_lt p (2 ^ e)) [
            | inl below ↦
                absurd (not_zero_and_one (bit_at (moved w e) p)
                (shl_low (bit_and w (get_or LOW e 0)) (2 ^ e) p below lp) m)
            | inr above ↦
                let up = shl_high (bit_and w (get_or LOW e 0)) (2 ^ e) p above lp in
                let both = bit_at_and w (get_or LOW e 0) (p - 2 ^ e) in
                let one : bit_at (bit_and w (get_or LOW e 0)) (p - 2 ^ e) ≡ 1 = sym up ∙ m in
                let mask = mask_bit e (p - 2 ^ e) le (omega arith) in
                let lw = bit_at-lt w (p - 2 ^ e) in
                let in_mask : bit_at (get_or LOW e 0) (p - 2 ^ e) ≡ 1 =
                both_one (bit_at w (p - 2 ^ e)) (bit_at (get_or LOW e 0) (p - 2 ^ e)) lw (sym both ∙ one)
                (bit_at-lt (get_or LOW e 0) (p - 2 ^ e)) in
                let in_word : bit_at w (p - 2 ^ e) ≡ 1 =
                one_both (bit_at w (p - 2 ^ e)) (bit_at (get_or LOW e 0) (p - 2 ^ e)) lw (sym both ∙ one) in
                inr (p - 2 ^ e, omega (arith, above), omega (arith, mask, in_mask), in_word)
          ]
    ]
      where
        both_one : (a b : ℕ) → a < 2 → min a b ≡ 1 → b < 2 → b ≡ 1
        both_one a b l h k = omega arith

        one_both : (a b : ℕ) → a < 2 → min a b ≡ 1 → a ≡ 1
        one_both a b l h = omega arith
