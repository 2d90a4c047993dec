-- Short numbers: their products fit, and so do the differences of these.
--
-- Main results: short_product, short_combination
use Rattle.std.specs.Prelude.{◌≡◌, ◌+◌, ◌-◌, ◌*◌, ◌≤◌, ◌^◌, ℤ, pos, negsuc, neg_ℤ, ◌-ℤ◌, ◌*ℤ◌, ◌≤ℤ◌, List}
use Rattle.std.specs.Prelude.{length, All}
use Rattle.std.proofs.Common.{arith}
use Rattle.std.proofs.lemmas.Int.{ints}
use Rattle.std.proofs.lemmas.Nat.{mul-le}
use Rattle.om_rows.specs.Rows.{entry, IsNarrow, IsNarrowCombination}
use Rattle.om_rows.specs.Short.{IsShort}

-- the ends between which a product of two short numbers lies
record IsBetween (z : ℤ) : Type 0 where
  least : neg_ℤ (pos (2 ^ 126 - 2 ^ 63)) ≤ℤ z
  greatest : z ≤ℤ pos (2 ^ 126)

product_ends : (a b : ℤ) → IsShort a → IsShort b → IsBetween (a *ℤ b)
product_ends (pos m) (pos n) h l =
    let u : m * n ≤ 2 ^ 63 * 2 ^ 63 = mul-le m n (2 ^ 63) (2 ^ 63) (omega (arith, ints)) (omega (arith, ints)) in
    record { least = omega (arith, ints); greatest = omega (arith, ints) }
product_ends (pos m) (negsuc n) h l =
    let u : m * (n + 1) ≤ (2 ^ 63 - 1) * 2 ^ 63 =
    mul-le m (n + 1) (2 ^ 63 - 1) (2 ^ 63) (omega (arith, ints)) (omega (arith, ints)) in
    record { least = omega (arith, ints); greatest = omega (arith, ints) }
product_ends (negsuc m) (pos n) h l =
    let u : (m + 1) * n ≤ 2 ^ 63 * (2 ^ 63 - 1) =
    mul-le (m + 1) n (2 ^ 63) (2 ^ 63 - 1) (omega (arith, ints)) (omega (arith, ints)) in
    record { least = omega (arith, ints); greatest = omega (arith, ints) }
product_ends (negsuc m) (negsuc n) h l =
    let u : (m + 1) * (n + 1) ≤ 2 ^ 63 * 2 ^ 63 =
    mul-le (m + 1) (n + 1) (2 ^ 63) (2 ^ 63) (omega (arith, ints)) (omega (arith, ints)) in
    record { least = omega (arith, ints); greatest = omega (arith, ints) }

narrow_between : (z : ℤ) → IsBetween z → IsNarrow z
narrow_between z h = omega (arith, ints)

narrow_difference : (a b : ℤ) → IsBetween a → IsBetween b → IsNarrow (a -ℤ b)
narrow_difference a b h l = omega (arith, ints)

-- the product of two numbers of 64 bits fits 128 bits
pub short_product : (a b : ℤ) → IsShort a → IsShort b → IsNarrow (a *ℤ b)
short_product a b h l = narrow_between (a *ℤ b) (product_ends a b h l)

pub short_combination : (t : ℤ) (row : List ℤ) (s : ℤ) (pivot : List ℤ) → IsShort t → IsShort s → All IsShort row
    → All IsShort pivot → length pivot ≡ length row → IsNarrowCombination t row s pivot
short_combination t row s pivot ht hs hr hp e q p =
    let low = p.low in
    let high = p.high in
    let x = product_ends t (entry row q) ht (hr (q - 1) (pos 0) (omega arith)) in
    let y = product_ends s (entry pivot q) hs (hp (q - 1) (pos 0) (omega arith)) in
    record {
      first = narrow_between _ x;
      second = narrow_between _ y;
      difference = narrow_difference _ _ x y;
    }
