-- The sign at a place of a list that is made of others: a composition, a negative, zeros, a list with flipped signs.
--
-- Main results: at-compose, length-compose, at-map-opposite, map-opposite-opposite, at-replicate,
-- at_element_past, at-flip_from, length-flip_from
use Rattle.std.proofs.Common.{ℕ, ◌≡◌, ◌+◌, zero, suc, refl, sym, ◌∙◌, ap, arith, List, [], ◌∷◌, length, map, replicate}
use Rattle.std.proofs.Common.{true, false, cond, nat_eq}
use Rattle.std.specs.Int.{bit_at}
use Rattle.std.proofs.Common.{add-zero, ◌-◌, ◌≤◌}
use Rattle.std.proofs.Math.ListN.{get_or-map}
use Rattle.std.proofs.lemmas.List.{get_or_past}
use Rattle.om_signs.specs.declared.sign.Sign.{Sign}
use Rattle.om_signs.specs.declared.sign.Sign.TheVariants.{Zero}
use Rattle.om_signs.specs.Sign.{opposite, first_nonzero}
use Rattle.om_signs.specs.SignVec.{at, compose, flip_from, at_element}
use Rattle.om_signs.proofs.SignLaws.{first_nonzero-zero, opposite-opposite}

-- at each place a composition has the first nonzero one of the two signs there
pub at-compose : (xs ys : List Sign) (i : ℕ) → at (compose xs ys) i ≡ first_nonzero (at xs i) (at ys i)
at-compose [] ys i = refl
at-compose (x ∷ xs) [] i = sym (first_nonzero-zero (at (x ∷ xs) i))
at-compose (x ∷ xs) (y ∷ ys) zero = refl
at-compose (x ∷ xs) (y ∷ ys) (suc i) = at-compose xs ys i

-- the composition of two vectors of one length has that length
pub length-compose : (xs ys : List Sign) → length xs ≡ length ys → length (compose xs ys) ≡ length xs
length-compose [] ys e = sym e
length-compose (x ∷ xs) [] e = refl
length-compose (x ∷ xs) (y ∷ ys) e = ap suc (length-compose xs ys (omega arith))

-- at each place the negative of a vector has the opposite sign
pub at-map-opposite : (xs : List Sign) (i : ℕ) → at (map opposite xs) i ≡ opposite (at xs i)
at-map-opposite xs i = get_or-map opposite xs i Zero

-- the negative of the negative is the vector itself
pub map-opposite-opposite : (xs : List Sign) → map opposite (map opposite xs) ≡ xs
map-opposite-opposite [] = refl
map-opposite-opposite (x ∷ xs) = ap (λ s. s ∷ map opposite (map opposite xs)) (opposite-opposite x)
    ∙ ap (λ l. x ∷ l) (map-opposite-opposite xs)

-- a vector of zeros has zero at each place
pub at-replicate : (n i : ℕ) → at (replicate n Zero) i ≡ Zero
at-replicate zero i = refl
at-replicate (suc n) zero = refl
at-replicate (suc n) (suc i) = at-replicate n i

-- an element beyond the length has the sign zero
pub at_element_past : (xs : List Sign) (e : ℕ) → length xs + 1 ≤ e → at_element xs e ≡ Zero
at_element_past xs e ge = get_or_past xs (e - 1) Zero (omega arith)

-- the sign at place i of a flip that begins with bit j of the mask: the opposite one if bit j + i is 1
pub at-flip_from : (j mask : ℕ) (xs : List Sign) (i : ℕ)
    → at (flip_from j mask xs) i ≡ cond (nat_eq (bit_at mask (j + i)) 1) (opposite (at xs i)) (at xs i)
at-flip_from j mask [] i = elim (nat_eq (bit_at mask (j + i)) 1) as
    (λ b. Zero ≡ cond b Zero Zero) [ true ↦ refl | false ↦ refl ]
at-flip_from j mask (x ∷ xs) zero = rw add-zero refl
at-flip_from j mask (x ∷ xs) (suc i) =
    let e : j + 1 + i ≡ j + suc i = omega arith in
    at-flip_from (j + 1) mask xs i ∙ ap (λ k. cond (nat_eq (bit_at mask k) 1) (opposite (at xs i)) (at xs i)) e

-- a vector with some signs negated has the same length
pub length-flip_from : (j mask : ℕ) (xs : List Sign) → length (flip_from j mask xs) ≡ length xs
length-flip_from j mask [] = refl
length-flip_from j mask (x ∷ xs) = ap suc (length-flip_from (j + 1) mask xs)
