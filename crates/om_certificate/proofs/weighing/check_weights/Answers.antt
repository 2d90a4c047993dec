use Rattle.std.proofs.Common.{◌+◌, ◌∙◌}
use Rattle.om_certificate.specs.Refusals.{bracket, weight_fails}
use Rattle.om_certificate.proofs.Reasons.{weights_refused}
use Rattle.om_certificate.proofs.weighing.check_weights.Goals as goal

pub returns-then-weights-wanted-clause-refused : goal.returns-then-weights-wanted-clause-refused
returns-then-weights-wanted-clause-refused c =
    weights_refused c.args.chi.now c.args.weights.now c.count_nonzero-wanted.result c.count_nonzero-wanted.ensures
    c.if-weights-wanted.true

pub returns-in-Some-clause-refused : goal.returns-in-Some-clause-refused
returns-in-Some-clause-refused c =
    bracket (c.in-Some.place + 1) (c.if-weights-wanted.false ∙ c.count_nonzero-wanted.ensures) c.in-Some.ensures.first

pub returns-in-Some-first_unmet-clause-refused : goal.returns-in-Some-first_unmet-clause-refused
returns-in-Some-first_unmet-clause-refused c =
    weight_fails c.in-Some-first_unmet.statement c.in_default.ensures.none c.in-Some-first_unmet.ensures.first
