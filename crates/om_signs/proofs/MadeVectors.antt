-- The masks of the zero vector, of a negative, of a composition and of a vector with flipped signs.
--
-- Main results: zero_made, neg_made, compose_made, flip_made
-- Reference: Björner, Las Vergnas, Sturmfels, White and Ziegler, Oriented Matroids, chapter 3.
use Rattle.std.proofs.Common.{ℕ, ◌≡◌, ◌-◌, ◌<◌, ◌≤◌, ◌^◌, zero, suc, min, max, refl, ◌∙◌, arith, bit_and, bit_or, List}
use Rattle.std.proofs.Common.{length, map, replicate, cond, nat_eq}
use Rattle.std.specs.Int.{bit_at}
use Rattle.std.proofs.lemmas.Nat.Bits.{bit_at-zero, bit_at-lt, bit_at_and, bit_at_or}
use Rattle.std.proofs.lemmas.List.{length-map, length-replicate}
use Rattle.std.proofs.Common.{zero-add}
use Rattle.om_signs.specs.declared.sign.Sign.{Sign}
use Rattle.om_signs.specs.declared.sign.Sign.TheVariants.{Minus, Zero, Plus}
use Rattle.om_signs.specs.Sign.{opposite, first_nonzero, is_plus, is_minus}
use Rattle.om_signs.specs.declared.limits.TheConstants.{MAX_PLACES}
use Rattle.om_signs.specs.SignVec.{at, compose, flip}
use Rattle.om_signs.specs.Masks.{signs_of, AreSignMasks}
use Rattle.om_signs.proofs.Bits.{bit_at_and_not}
use Rattle.om_signs.proofs.Views.{Stands, length_is, shows, stands, fits_32}
use Rattle.om_signs.proofs.ListPlaces.{at-compose, length-compose, at-map-opposite, at-replicate, at-flip_from}
use Rattle.om_signs.proofs.ListPlaces.{length-flip_from}

pub plus_of_opposite : (s : Sign) → is_minus s ≡ is_plus (opposite s)
plus_of_opposite Minus = refl
plus_of_opposite Zero = refl
plus_of_opposite Plus = refl

pub minus_of_opposite : (s : Sign) → is_plus s ≡ is_minus (opposite s)
minus_of_opposite Minus = refl
minus_of_opposite Zero = refl
minus_of_opposite Plus = refl

pub zero_made : (n : ℕ) → 1 ≤ n → n ≤ MAX_PLACES → Stands 0 0 n (replicate n Zero)
zero_made n low high = stands 0 0 n _ low high (length-replicate n Zero) (λ i.
    rw (at-replicate n i) (bit_at-zero i, bit_at-zero i))

pub neg_made : (p m n : ℕ) (xs : List Sign) → AreSignMasks p m n → signs_of p m n ≡ xs → Stands m p n (map opposite xs)
neg_made p m n xs h e = stands m p n _ h.low h.high (length-map xs opposite ∙ length_is p m n xs e) (λ i.
    let f = shows p m n xs h e i in
    rw (at-map-opposite xs i) (f.1 ∙ plus_of_opposite (at xs i), f.0 ∙ minus_of_opposite (at xs i)))

composed_plus : (s t : Sign) → max (is_plus s) (min (is_plus t) (1 - is_minus s)) ≡ is_plus (first_nonzero s t)
composed_plus Minus Minus = refl
composed_plus Minus Zero = refl
composed_plus Minus Plus = refl
composed_plus Zero Minus = refl
composed_plus Zero Zero = refl
composed_plus Zero Plus = refl
composed_plus Plus Minus = refl
composed_plus Plus Zero = refl
composed_plus Plus Plus = refl

composed_minus : (s t : Sign) → max (is_minus s) (min (is_minus t) (1 - is_plus s)) ≡ is_minus (first_nonzero s t)
composed_minus Minus Minus = refl
composed_minus Minus Zero = refl
composed_minus Minus Plus = refl
composed_minus Zero Minus = refl
composed_minus Zero Zero = refl
composed_minus Zero Plus = refl
composed_minus Plus Minus = refl
composed_minus Plus Zero = refl
composed_minus Plus Plus = refl

pub compose_made : (p m n p' m' n' : ℕ) (xs ys : List Sign) → AreSignMasks p m n → signs_of p m n ≡ xs
    → AreSignMasks p' m' n'
    → signs_of p' m' n' ≡ ys → length xs ≡ length ys
    → Stands (bit_or p (bit_and p' (4294967295 - m))) (bit_or m (bit_and m' (4294967295 - p))) n (compose xs ys)
compose_made p m n p' m' n' xs ys h e h' e' same =
    stands _ _ n _ h.low h.high (length-compose xs ys same ∙ length_is p m n xs e) (λ i.
    let f = shows p m n xs h e i in
    let f' = shows p' m' n' ys h' e' i in
    let fp = fits_32 p n h.high h.plus_within in
    let fm = fits_32 m n h.high h.minus_within in
    let fp' = fits_32 p' n' h'.high h'.plus_within in
    let fm' = fits_32 m' n' h'.high h'.minus_within in
    rw (at-compose xs ys i) (
      bit_at_or p _ i ∙ rw (bit_at_and_not p' m i fp' fm, f.0, f.1, f'.0) (composed_plus (at xs i) (at ys i)),
      bit_at_or m _ i ∙ rw (bit_at_and_not m' p i fm' fp, f.0, f.1, f'.1) (composed_minus (at xs i) (at ys i)),
    ))

flipped_plus : (b : ℕ) (s : Sign) → b < 2 → max (min (is_plus s) (1 - b)) (min (is_minus s) b)
    ≡ is_plus (cond (nat_eq b 1) (opposite s) s)
flipped_plus zero Minus l = refl
flipped_plus zero Zero l = refl
flipped_plus zero Plus l = refl
flipped_plus (suc zero) Minus l = refl
flipped_plus (suc zero) Zero l = refl
flipped_plus (suc zero) Plus l = refl
flipped_plus (suc (suc b)) s l = absurd (omega arith)

flipped_minus : (b : ℕ) (s : Sign) → b < 2 → max (min (is_minus s) (1 - b)) (min (is_plus s) b)
    ≡ is_minus (cond (nat_eq b 1) (opposite s) s)
flipped_minus zero Minus l = refl
flipped_minus zero Zero l = refl
flipped_minus zero Plus l = refl
flipped_minus (suc zero) Minus l = refl
flipped_minus (suc zero) Zero l = refl
flipped_minus (suc zero) Plus l = refl
flipped_minus (suc (suc b)) s l = absurd (omega arith)

pub flip_made : (p m n : ℕ) (xs : List Sign) (mask : ℕ) → AreSignMasks p m n → signs_of p m n ≡ xs
    → mask < 2 ^ length xs
    → Stands (bit_or (bit_and p (4294967295 - mask)) (bit_and m mask))
    (bit_or (bit_and m (4294967295 - mask)) (bit_and p mask)) n (flip mask xs)
flip_made p m n xs mask h v lt =
    let l = length_is p m n xs v in
    let fk = fits_32 mask n h.high (rw l at lt) in
    let fp = fits_32 p n h.high h.plus_within in
    let fm = fits_32 m n h.high h.minus_within in
    stands _ _ n _ h.low h.high (length-flip_from 0 mask xs ∙ l) (λ i.
    let f = shows p m n xs h v i in
    rw (at-flip_from 0 mask xs i, zero-add i) (
      rw (bit_at_or, bit_at_and_not p mask i fp fk, bit_at_and m mask i, f.0, f.1)
          (flipped_plus (bit_at mask i) (at xs i) (bit_at-lt mask i)),
      rw (bit_at_or, bit_at_and_not m mask i fm fk, bit_at_and p mask i, f.0, f.1)
          (flipped_minus (bit_at mask i) (at xs i) (bit_at-lt mask i)),
    ))
