use Rattle.std.proofs.Common.{◌++◌, length, sym, ap, subst, ◌∙◌, arith}
use Rattle.std.proofs.lemmas.Result.{IfOk-weaker}
use Rattle.om_classification.specs.Progress.{State, IsEnd, IsClosing}
use Rattle.om_classification.proofs.Closings.{closing_replied, closing_ends}
use Rattle.om_classification.proofs.Results.{ok_both}
use Rattle.om_classification.proofs.Steps.{empty_stops}
use Rattle.om_classification.proofs.list_progress.ListProgress.end.Goals as goal

pub returns-then-len-eq0-clause-step : goal.returns-then-len-eq0-clause-step
returns-then-len-eq0-clause-step g c =
    let none = sym (ap (λ (s : State). length s.chain.current.maps) c.self.view_is) ∙ sym c.len.ensures
    ∙ c.if-len-eq0.true in
    ok_both c.ended.result _ _ _ (λ step is e r all text b.
    subst (λ t. IsEnd r all (text ++ step.text.items) t) (sym is)
    (empty_stops r all text c.args.self step.text.items b none e)) c.ended.ensures.status c.ended.ensures.text

pub returns-clause-replied : goal.returns-clause-replied
returns-clause-replied g c =
    IfOk-weaker c.close.result _ _ (λ step h. closing_replied _ _ _ _ _ h) c.close.ensures.closing

pub returns-clause-step : goal.returns-clause-step
returns-clause-step g c =
    let some = ap (λ (s : State). length s.chain.current.maps) c.self.view_is in
    let same = ap (λ (s : State). s.chain.asked) c.self.view_is in
    IfOk-weaker c.close.result _ _ (λ step h r all text b.
    closing_ends c.self.inside.asked c.args.self _ step.status step.text.items
    (subst (λ (s : State). IsClosing c.self.inside.asked s.chain c.close.new.chain step.status step.text.items)
    c.self.view_is h)
    (c.self.invariant.0 ∙ same) (omega (arith, some, c.len.ensures, c.if-len-eq0.false)) r all text b.underway)
    c.close.ensures.closing
