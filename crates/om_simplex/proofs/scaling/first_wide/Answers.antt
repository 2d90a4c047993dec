use Rattle.std.proofs.Common.{arith}
use Rattle.om_simplex.specs.declared.values.RowValue.{RowValue}
use Rattle.om_simplex.proofs.Scalings.{wide_here, scaled_more}
use Rattle.om_simplex.proofs.scaling.first_wide.Goals as goal

abbrev no_value : RowValue
no_value = record { row = 0; column = 0; own = 0; last = 0 }

pub loop-value-init : goal.loop-value-init
loop-value-init c = λ k d l. absurd (omega (arith, l))

pub scaled-requires-clause-under : goal.scaled-requires-clause-under
scaled-requires-clause-under c =
    let p = c.requires.sound.own c.loop-value.value-index no_value c.loop-value-test.true in omega (arith, p)

pub scaled-requires-clause-whole : goal.scaled-requires-clause-whole
scaled-requires-clause-whole c = c.requires.whole.whole c.loop-value.value-index no_value c.loop-value-test.true

pub returns-then-is_none-clause-some : goal.returns-then-is_none-clause-some
returns-then-is_none-clause-some c =
    wide_here c.args.values.now c.args.factor c.loop-value.value-index no_value c.scaled.result c.is_none.result
    c.loop-value-test.true c.is_none.ensures c.if-is_none.true c.scaled.ensures.none c.loop-value.invariant

pub loop-value-preserved : goal.loop-value-preserved
loop-value-preserved c =
    scaled_more c.args.values.now c.args.factor c.loop-value.value-index no_value c.scaled.result c.is_none.result
    c.loop-value-test.true c.is_none.ensures c.if-is_none.false c.scaled.ensures.some c.scaled.ensures.small
    c.loop-value.invariant

pub returns-clause-none : goal.returns-clause-none
returns-clause-none c =
    λ k d l. c.loop-value.invariant k d (let m = c.loop-value-test.false in omega (arith, l, m))
