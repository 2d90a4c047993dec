use Rattle.std.proofs.Common.{◌≡◌, ◌∙◌, sym, ap, subst, true, false, arith}
use Rattle.std.specs.Prelude.{ℤ, pos, negsuc, ◌+ℤ◌, ◌*ℤ◌, ◌≤ℤ◌, ◌<ℤ◌}
use lib.Signed.{lt_z}
use Rattle.std.proofs.lemmas.Int.{ints}
use Rattle.std.proofs.lemmas.Bool.{both_ways}
use Rattle.om_rows.specs.Rows.{IsNarrow}
use Rattle.om_rows.proofs.Casts.{stored, stored-narrow}
use Rattle.om_rows.proofs.products.from_eighths.Goals as goal
use Rattle.om_rows.proofs.products.from_eighths.Goals.{then-whole, else-whole}

-- an eighth of the least number, and of the greatest
abbrev least : ℤ
least = negsuc 21267647932558653966460912964485513215

abbrev greatest : ℤ
greatest = pos 21267647932558653966460912964485513215

module _ (w r : ℤ) (nw : IsNarrow w) (nr : IsNarrow r) (low : pos 0 ≤ℤ r) (high : r <ℤ pos 8) where
  below : lt_z (stored w) least ≡ true → IsNarrow (w *ℤ pos 8 +ℤ r) → ⊥
  below h n = let t : lt_z w least ≡ true = subst (λ z. lt_z z least ≡ true) (stored-narrow w nw) h in
      absurd (omega (arith, ints))

  above : lt_z greatest (stored w) ≡ true → IsNarrow (w *ℤ pos 8 +ℤ r) → ⊥
  above h n = let t : lt_z greatest w ≡ true = subst (λ z. lt_z greatest z ≡ true) (stored-narrow w nw) h in
      absurd (omega (arith, ints))

  module _ (low_test : lt_z (stored w) least ≡ false) (high_test : lt_z greatest (stored w) ≡ false) where
    fits : IsNarrow (w *ℤ pos 8) × IsNarrow (w *ℤ pos 8 +ℤ r)
    fits =
        let s : lt_z w least ≡ false = subst (λ z. lt_z z least ≡ false) (stored-narrow w nw) low_test in
        let t : lt_z greatest w ≡ false = subst (λ z. lt_z greatest z ≡ false) (stored-narrow w nw) high_test in
        (omega (arith, ints), omega (arith, ints))

    times_fits : IsNarrow (stored w *ℤ pos 8)
    times_fits = subst (λ z. IsNarrow (z *ℤ pos 8)) (sym (stored-narrow w nw)) fits.0

    sum-stored : stored (stored w *ℤ pos 8) +ℤ stored r ≡ w *ℤ pos 8 +ℤ r
    sum-stored =
        ap (λ z. stored (z *ℤ pos 8) +ℤ stored r) (stored-narrow w nw)
        ∙ ap (λ z. z +ℤ stored r) (stored-narrow _ fits.0) ∙ ap (λ z. w *ℤ pos 8 +ℤ z) (stored-narrow r nr)

    sum_fits : IsNarrow (stored (stored w *ℤ pos 8) +ℤ stored r)
    sum_fits = subst IsNarrow (sym sum-stored) fits.1

pub overflow_mul-result : goal.overflow_mul-result
overflow_mul-result c = elim c.if-whole.branch [
  | then-whole w ↦ absurd (both_ways _ (sym w.value-is ∙ c.if-whole-2.false) w.if-whole.true)
  | else-whole w ↦ times_fits c.args.whole c.args.rest c.ranges.whole c.ranges.rest c.requires.low c.requires.high
      w.if-whole.false (sym w.value-is ∙ c.if-whole-2.false)
]

pub overflow_add-result : goal.overflow_add-result
overflow_add-result c = elim c.if-whole.branch [
  | then-whole w ↦ absurd (both_ways _ (sym w.value-is ∙ c.if-whole-2.false) w.if-whole.true)
  | else-whole w ↦ sum_fits c.args.whole c.args.rest c.ranges.whole c.ranges.rest c.requires.low c.requires.high
      w.if-whole.false (sym w.value-is ∙ c.if-whole-2.false)
]

pub returns-then-whole-2 : goal.returns-then-whole-2
returns-then-whole-2 c = λ n. elim c.if-whole.branch [
  | then-whole w ↦
      below c.args.whole c.args.rest c.ranges.whole c.ranges.rest c.requires.low c.requires.high w.if-whole.true n
  | else-whole w ↦
      above c.args.whole c.args.rest c.ranges.whole c.ranges.rest c.requires.low c.requires.high
      (sym w.value-is ∙ c.if-whole-2.true) n
]
