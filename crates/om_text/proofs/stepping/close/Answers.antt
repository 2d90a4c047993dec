use Rattle.std.proofs.Common.{sym, ◌∙◌}
use Rattle.om_text.proofs.PartSteps.{memory_out, closed, not_closed}
use Rattle.om_text.proofs.stepping.close.Goals as goal

pub finished-requires : goal.finished-requires
finished-requires c = record { small = c.requires; full = sym c.is_full.ensures ∙ c.if-is_full.true }

pub returns-in_err-finished : goal.returns-in_err-finished
returns-in_err-finished c = memory_out c.from_residual.result _ c.from_residual.ensures.1

pub returns-in_ok-finished : goal.returns-in_ok-finished
returns-in_ok-finished c = closed c.args.draft c.is_full.result c.in_ok-finished.field-0 c.is_full.ensures
    c.if-is_full.true c.in_ok-finished.ensures

pub returns-else-is_full : goal.returns-else-is_full
returns-else-is_full c = rw c.refuse.ensures
    (not_closed c.args.draft c.is_full.result c.is_full.ensures c.if-is_full.false)
