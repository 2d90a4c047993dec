-- The sizes of products of coordinates, so that no product overflows.
--
-- Main definitions: wide
-- Main results: pair_size, pair_fits, read_wide, read_pair, minor_size, minor_fits, term_size, term_fits, two_terms,
-- three_terms, read_sum, read_back, coordinate_back
use Rattle.std.proofs.Common.{◌≡◌, ◌≤◌, ◌^◌, lit<, ◌∙◌, refl, arith}
use Rattle.std.specs.Prelude.{ℤ, ◌+ℤ◌, ◌-ℤ◌, ◌*ℤ◌, unsigned_abs, FitsSigned}
use mir.Syntax.{w64, w128}
use mir.Val.{to_z, of_z}
use Rattle.std.proofs.lemmas.Int.{ints, to_z-of_z, unsigned_abs-mul, fits_signed_mul, fits_signed_from_abs}
use Rattle.std.proofs.lemmas.Nat.{mul-le}
use Rattle.om_signs.specs.declared.limits.TheConstants.{MAX_COORDINATE}
use Rattle.om_signs.specs.Coordinates.{IsCoordinate}

-- a number as it is read back from 128 bits
abbrev pub wide : ℤ → ℤ
wide z = to_z w128 (of_z w128 z)

-- a coordinate that is read back from 64 bits and then from 128
pub read_wide : (x : ℤ) → IsCoordinate x → wide (to_z w64 (of_z w64 x)) ≡ x
read_wide x h = omega (arith, ints)

pub pair_size : (x y : ℤ) → IsCoordinate x → IsCoordinate y → unsigned_abs (x *ℤ y) ≤ 2 ^ 80
pair_size x y hx hy =
    rw (unsigned_abs-mul x y)
    (mul-le (unsigned_abs x) (unsigned_abs y) (unsigned_abs MAX_COORDINATE) (unsigned_abs MAX_COORDINATE) hx hy)

pub pair_fits : (x y : ℤ) → IsCoordinate x → IsCoordinate y → FitsSigned w128 (x *ℤ y)
pair_fits x y hx hy = fits_signed_mul w128 x y (unsigned_abs MAX_COORDINATE) (unsigned_abs MAX_COORDINATE) hx hy
    (lit< tt)

-- a product of two coordinates, each read back from 64 bits and then from 128
pub read_pair : (x y : ℤ) → IsCoordinate x → IsCoordinate y
    → wide (wide (to_z w64 (of_z w64 x)) *ℤ wide (to_z w64 (of_z w64 y))) ≡ x *ℤ y
read_pair x y hx hy = rw (read_wide x hx, read_wide y hy) (to_z-of_z w128 (x *ℤ y) (pair_fits x y hx hy))

-- the difference of two products of coordinates
pub minor_size : (a d b c : ℤ) → IsCoordinate a → IsCoordinate d → IsCoordinate b → IsCoordinate c
    → unsigned_abs (a *ℤ d -ℤ b *ℤ c) ≤ 2 ^ 81
minor_size a d b c ha hd hb hc = apart (a *ℤ d) (b *ℤ c) (pair_size a d ha hd) (pair_size b c hb hc)
  where
    apart : (p q : ℤ) → unsigned_abs p ≤ 2 ^ 80 → unsigned_abs q ≤ 2 ^ 80 → unsigned_abs (p -ℤ q) ≤ 2 ^ 81
    apart p q hp hq = omega (arith, ints)

pub minor_fits : (a d b c : ℤ) → IsCoordinate a → IsCoordinate d → IsCoordinate b → IsCoordinate c
    → FitsSigned w128 (a *ℤ d -ℤ b *ℤ c)
minor_fits a d b c ha hd hb hc =
    fits_signed_from_abs w128 (a *ℤ d -ℤ b *ℤ c) (let s = minor_size a d b c ha hd hb hc in omega arith)

-- a coordinate times such a difference
pub term_size : (x m : ℤ) → IsCoordinate x → unsigned_abs m ≤ 2 ^ 81 → unsigned_abs (x *ℤ m) ≤ 2 ^ 121
term_size x m hx hm =
    rw (unsigned_abs-mul x m) (mul-le (unsigned_abs x) (unsigned_abs m) (unsigned_abs MAX_COORDINATE) (2 ^ 81) hx hm)

pub term_fits : (x m : ℤ) → IsCoordinate x → unsigned_abs m ≤ 2 ^ 81 → FitsSigned w128 (x *ℤ m)
term_fits x m hx hm = fits_signed_mul w128 x m (unsigned_abs MAX_COORDINATE) (2 ^ 81) hx hm (lit< tt)

-- sums of two and of three such terms
pub two_terms : (x y : ℤ) → unsigned_abs x ≤ 2 ^ 121 → unsigned_abs y ≤ 2 ^ 121 → FitsSigned w128 (wide x +ℤ wide y)
two_terms x y hx hy = omega (arith, ints)

pub three_terms : (x y z : ℤ) → unsigned_abs x ≤ 2 ^ 121 → unsigned_abs y ≤ 2 ^ 121 → unsigned_abs z ≤ 2 ^ 121
    → FitsSigned w128 (wide (wide x +ℤ wide y) +ℤ wide z)
three_terms x y z hx hy hz = omega (arith, ints)

pub read_sum : (x y z : ℤ) → unsigned_abs x ≤ 2 ^ 121 → unsigned_abs y ≤ 2 ^ 121 → unsigned_abs z ≤ 2 ^ 121
    → wide (wide (wide x +ℤ wide y) +ℤ wide z) ≡ x +ℤ y +ℤ z
read_sum x y z hx hy hz = omega (arith, ints)

-- a coordinate that is read back from 64 bits
pub read_back : (x y : ℤ) → IsCoordinate x → x ≡ y → to_z w64 (of_z w64 x) ≡ y
read_back x y h e = to_z-of_z w64 x (fits_signed_from_abs w64 x (omega arith)) ∙ e

pub coordinate_back : (x : ℤ) → IsCoordinate x → IsCoordinate (to_z w64 (of_z w64 x))
coordinate_back x h = rw (read_back x x h refl) h
