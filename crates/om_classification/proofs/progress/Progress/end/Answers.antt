use Rattle.std.proofs.Common.{[], subst}
use Rattle.std.proofs.lemmas.Result.{IfOk-weaker}
use Rattle.om_classification.specs.Answers.{IsReached}
use Rattle.om_classification.proofs.OfLists.{lists_over}
use Rattle.om_classification.proofs.progress.Progress.end.Goals as goal

pub returns-in-Lists-clause-step : goal.returns-in-Lists-clause-step
returns-in-Lists-clause-step g c =
    IfOk-weaker c.end.result _ _ (λ step f r all text b.
    lists_over r all text step.text.items step.status c.in-Lists.lists f
    (subst (λ p. IsReached r all text p []) c.in-Lists.is b)) c.end.ensures.step
