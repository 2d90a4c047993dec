use Rattle.std.proofs.Common.{◌∷◌, subst}
use Rattle.std.proofs.lemmas.Result.{IfOk-weaker}
use Rattle.om_classification.specs.Answers.{IsReached}
use Rattle.om_classification.proofs.OfLists.{lists_taken}
use Rattle.om_classification.proofs.progress.Progress.take.Goals as goal

pub returns-in-Lists-clause-step : goal.returns-in-Lists-clause-step
returns-in-Lists-clause-step g c =
    IfOk-weaker c.take.result _ _ (λ step f r all text left b.
    lists_taken r all text step.text.items step.status c.in-Lists.lists c.take.new.self c.args.piece.now left f
    (subst (λ p. IsReached r all text p (c.args.piece.now ∷ left)) c.in-Lists.is b)) c.take.ensures.step
