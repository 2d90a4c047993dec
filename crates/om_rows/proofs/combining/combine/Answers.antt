use Rattle.std.proofs.Common.{◌≡◌, refl}
use Rattle.om_rows.specs.Rows.{combination, IsFirstWide, IsNarrowCombination}
use Rattle.om_rows.proofs.Narrow.{restored}
use Rattle.om_rows.proofs.combining.combine.Goals as goal

pub form-requires-clause-narrow : goal.form-requires-clause-narrow
form-requires-clause-narrow c = c.in-None.ensures.none

pub returns-in-Some-clause-wide : goal.returns-in-Some-clause-wide
returns-in-Some-clause-wide c =
    restored (λ t s. IsFirstWide t c.args.row.now s c.args.pivot.now c.in-Some.place) c.args.tp c.args.tk c.ranges.tp
    c.ranges.tk c.in-Some.ensures.first

pub returns-in-None-clause-narrow : goal.returns-in-None-clause-narrow
returns-in-None-clause-narrow c =
    restored (λ t s. IsNarrowCombination t c.args.row.now s c.args.pivot.now) c.args.tp c.args.tk c.ranges.tp
    c.ranges.tk c.in-None.ensures.none

pub returns-in-None-clause-value : goal.returns-in-None-clause-value
returns-in-None-clause-value c =
    restored (λ t s. c.form.new.row ≡ combination t c.args.row.now s c.args.pivot.now) c.args.tp c.args.tk c.ranges.tp
    c.ranges.tk c.form.ensures

pub returns-in-Some-clause-unchanged : goal.returns-in-Some-clause-unchanged
returns-in-Some-clause-unchanged c = refl
