-- The product of a row with a column, from the sum of stored numbers.
--
-- Main results: product_sum, summed
use Rattle.std.specs.Prelude.{◌≡◌, ℤ, pos, ◌+ℤ◌, ◌-ℤ◌, List, length, cond, Option, Some, None, Result, IfOk, IfErr}
use Rattle.std.specs.Option.{SomeIff, ok_or}
use Rattle.std.proofs.Common.{sym, ◌∙◌, subst, refl}
use Rattle.om_rows.specs.declared.column.Column.{Column}
use Rattle.om_rows.specs.declared.wide.Wide.{Wide}
use Rattle.om_rows.specs.Rows.{entry, product, IsNarrow, IsWide}
use Rattle.om_rows.proofs.Casts.{stored, stored-narrow}

pub product_sum : (row : List ℤ) (column : Column) (a b c d e : ℤ) → IsNarrow a → IsNarrow b → IsNarrow c → IsNarrow d
    → a ≡ entry row column.small0 → b ≡ entry row column.small1 → c ≡ entry row column.big0 → d ≡ entry row column.big1
    → e ≡ cond column.strict (entry row (length row)) (pos 0)
    → stored a +ℤ stored b -ℤ stored c -ℤ stored d +ℤ e ≡ product row column
product_sum row column a b c d e ha hb hc hd pa pb pc pd pe =
    rw (stored-narrow a ha, stored-narrow b hb, stored-narrow c hc, stored-narrow d hd, pa, pb, pc, pd, pe) refl

-- what a sum that is a product says of the product
pub summed : (o : Result ℤ Wide) (r : Option ℤ) (w : Wide) (s p : ℤ) → o ≡ ok_or r w → w.place ≡ 0
    → SomeIff r (IsNarrow s) s → s ≡ p
    → record {
      narrow : IfOk o (λ z. IsNarrow p);
      value : IfOk o (λ z. z ≡ p);
      wide : IfErr o (λ w. IsWide p);
      place : IfErr o (λ w. w.place ≡ 0);
    }
summed o None w s p e z h q =
    rw e (record { narrow = tt; value = tt; wide = λ n. h (subst IsNarrow (sym q) n); place = z })
summed o (Some x) w s p e z h q =
    rw e (record { narrow = subst IsNarrow q h.0; value = h.1 ∙ q; wide = tt; place = tt })
