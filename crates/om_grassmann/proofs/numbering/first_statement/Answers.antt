use Rattle.std.proofs.Common.{◌*◌, arith, ap}
use Rattle.om_grassmann.specs.declared.frame.Frame.{Frame}
use Rattle.om_grassmann.specs.Walk.{frame_place}
use Rattle.om_grassmann.proofs.Counting.{number_none, number_first}
use Rattle.om_grassmann.proofs.numbering.first_statement.Goals as goal

pub returns-clause-none : goal.returns-clause-none
returns-clause-none c = number_none c.args.chi.now (frame_place c.first.result * 9) c.first_from.result
    (ap (λ (f : Frame). frame_place f * 9) c.first.ensures) c.first_from.ensures.none

pub returns-clause-first : goal.returns-clause-first
returns-clause-first c =
    let limit = c.first_from.ensures.limit in
    number_first c.args.chi.now (frame_place c.first.result * 9) c.first_from.result (omega arith)
    (ap (λ (f : Frame). frame_place f * 9) c.first.ensures) c.first_from.ensures.first
