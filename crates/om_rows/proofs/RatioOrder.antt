-- The order of fractions, from that of two products.
--
-- Main result: ratios_in_order
use Rattle.std.specs.Prelude.{ℕ, ◌≡◌, ◌*◌, ◌<◌, ℤ, pos, negsuc, ◌≤ℤ◌, ◌<ℤ◌, unsigned_abs}
use Rattle.std.specs.Ordering.{MatchOrdering, nat_cmp}
use Rattle.std.specs.declared.cmp.Ordering.{Ordering}
use Rattle.std.specs.declared.cmp.Ordering.TheVariants.{Less, Equal, Greater}
use Rattle.std.proofs.Common.{arith, ap}
use Rattle.std.proofs.lemmas.Int.{ints}
use Rattle.std.proofs.lemmas.Cmp.{ranked}
use Rattle.om_rows.specs.Rows.{IsNarrow}
use Rattle.om_rows.specs.Ratios.{AreRatiosInOrder}
use Rattle.om_rows.proofs.Casts.{stored, stored-narrow}

naturals_in_order : (o : Ordering) (x y : ℕ) → MatchOrdering o (x < y) (x ≡ y) (y < x)
    → MatchOrdering o (pos x <ℤ pos y) (pos x ≡ pos y) (pos y <ℤ pos x)
naturals_in_order Less x y h = omega (arith, ints)
naturals_in_order Equal x y h = ap pos h
naturals_in_order Greater x y h = omega (arith, ints)

of_naturals : (o : Ordering) (a b c d : ℤ) → pos 0 ≤ℤ a → pos 0 <ℤ b → pos 0 ≤ℤ c → pos 0 <ℤ d
    → o ≡ nat_cmp (unsigned_abs a * unsigned_abs d) (unsigned_abs c * unsigned_abs b) → AreRatiosInOrder o a b c d
of_naturals o (pos a) (pos b) (pos c) (pos d) ha hb hc hd e =
    naturals_in_order o (a * d) (c * b) (ranked (a * d) (c * b) o e)
of_naturals o (negsuc a) b c d ha hb hc hd e = absurd (omega (arith, ints))
of_naturals o (pos a) (negsuc b) c d ha hb hc hd e = absurd (omega (arith, ints))
of_naturals o (pos a) (pos b) (negsuc c) d ha hb hc hd e = absurd (omega (arith, ints))
of_naturals o (pos a) (pos b) (pos c) (negsuc d) ha hb hc hd e = absurd (omega (arith, ints))

pub ratios_in_order : (o : Ordering) (a b c d : ℤ) → IsNarrow a → IsNarrow b → IsNarrow c → IsNarrow d → pos 0 ≤ℤ a
    → pos 0 <ℤ b → pos 0 ≤ℤ c → pos 0 <ℤ d
    → o ≡ nat_cmp (unsigned_abs (stored a) * unsigned_abs (stored d))
    (unsigned_abs (stored c) * unsigned_abs (stored b))
    → AreRatiosInOrder o a b c d
ratios_in_order o a b c d na nb nc nd ha hb hc hd e = of_naturals o a b c d ha hb hc hd
    (rw (stored-narrow a na, stored-narrow d nd, stored-narrow c nc, stored-narrow b nb) at e)
