-- Natural numbers under multiplication and whole numbers under addition, as values that combine.
--
-- Main definitions: products, sums
-- Main results: less_sum, less_product
use Rattle.std.specs.Prelude.{ℕ, ◌+◌, ◌*◌, ◌<◌, ◌≤◌, ℤ, pos, ◌+ℤ◌, ◌<ℤ◌, ◌≤ℤ◌}
use Rattle.std.proofs.Common.{arith}
use Rattle.std.proofs.Math.Nat.{mul_assoc, mul_comm}
use Rattle.std.proofs.Math.IntN.{+ℤ_assoc, +ℤ_comm, +ℤ_idl}
use Rattle.std.proofs.lemmas.Int.{ints}
use Rattle.std.proofs.lemmas.Nat.{mul-le}
use Rattle.om_certificate.proofs.Combinations.{Combination}

pub less_sum : (u v w z : ℤ) → u <ℤ v → w ≤ℤ z → (u +ℤ w) <ℤ (v +ℤ z)
less_sum u v w z h l = omega (arith, ints)

pub less_product : (u v w z : ℕ) → 0 < w → u < v → w ≤ z → u * w < v * z
less_product u v w z p h l = let m : (u + 1) * w ≤ v * z = mul-le (u + 1) w v z (omega arith) l in omega arith

abbrev pub products : Combination
products = record {
  Value = ℕ;
  join = λ u v. u * v;
  unit = 1;
  assoc = mul_assoc;
  comm = mul_comm;
  unit_left = λ u. omega arith;
  IsPositive = λ u. 0 < u;
  positive_unit = omega arith;
  positive_join = λ u v p q. let m : 1 * 1 ≤ u * v = mul-le 1 1 u v p q in omega arith;
  IsLess = λ u v. u < v;
  irreflexive = λ u h. omega arith;
  IsAtMost = λ u v. u ≤ v;
  unit_at_most = omega arith;
  less_at_most = λ u v h. omega arith;
  join_at_most = λ u v w z h l. mul-le u w v z h l;
  join_less = less_product;
}

abbrev pub sums : Combination
sums = record {
  Value = ℤ;
  join = λ u v. u +ℤ v;
  unit = pos 0;
  assoc = +ℤ_assoc;
  comm = +ℤ_comm;
  unit_left = +ℤ_idl;
  IsPositive = λ u. Unit {0};
  positive_unit = tt;
  positive_join = λ u v p q. tt;
  IsLess = λ u v. u <ℤ v;
  irreflexive = λ u h. omega (arith, ints);
  IsAtMost = λ u v. u ≤ℤ v;
  unit_at_most = omega (arith, ints);
  less_at_most = λ u v h. omega (arith, ints);
  join_at_most = λ u v w z h l. omega (arith, ints);
  join_less = λ u v w z p h l. less_sum u v w z h l;
}
