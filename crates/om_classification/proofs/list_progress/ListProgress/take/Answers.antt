use Rattle.std.proofs.Common.{◌≡◌, ◌+◌, ◌++◌, sym, ap, subst, ◌∙◌, Err, arith}
use Rattle.std.proofs.lemmas.Result.{IfOk-weaker}
use Rattle.om_classification.specs.Progress.{State, IsStep}
use Rattle.om_classification.proofs.Results.{ok_both}
use Rattle.om_classification.proofs.Steps.{fault_stops}
use Rattle.om_classification.proofs.list_progress.ListProgress.take.Goals as goal

pub returns-in-Ok-clause-step : goal.returns-in-Ok-clause-step
returns-in-Ok-clause-step g c =
    IfOk-weaker c.place.result _ _ (λ step f r all text left b.
    f r all text c.args.piece.now left c.in-Ok.ensures.member b) c.place.ensures.step

pub returns-in-Err-Fault-clause-step : goal.returns-in-Err-Fault-clause-step
returns-in-Err-Fault-clause-step g c =
    let documents = ap (λ (s : State). s.documents) c.self.view_is in
    let count : c.in-Some.document ≡ c.args.self.now.documents + 1 = omega (arith, documents, c.in-Some.ensures) in
    ok_both c.ended.result _ _ _ (λ step is e r all text left b.
    subst (λ t. IsStep r all (text ++ step.text.items) t c.args.self.now left) (sym is)
    (fault_stops r all text c.args.self.now c.args.piece.now left _ c.in-Err-Fault.fault step.text.items b.underway
    (c.read_member.ensures.fault c.in-Err-Fault.fault (c.in-Err-Fault.is ∙ ap Err c.in-Err-Fault.field-0-is)) count e))
    c.ended.ensures.status c.ended.ensures.text
