use Rattle.std.proofs.Common.{◌++◌, IfSome, IsNone, refl, sym, ap, subst, ◌∙◌, append_assoc}
use Rattle.om_chain.specs.Chains.{IsUnfit, added}
use Rattle.om_reply.specs.declared.status.Status.TheVariants.{Refused}
use Rattle.om_classification.specs.declared.line.Line.TheVariants.{Unfit}
use Rattle.om_classification.specs.Lists.{IsTextUpToWrong}
use Rattle.om_classification.specs.Progress.{State}
use Rattle.om_classification.specs.Texts.{line_text}
use Rattle.om_classification.proofs.Steps.{goes_on, unfit_stops}
use Rattle.om_classification.proofs.list_progress.ListProgress.join.Goals as goal

pub returns-in-None-clause-step : goal.returns-in-None-clause-step
returns-in-None-clause-step c = λ r all text piece left d u.
    goes_on r all _ c.args.self.now piece left c.args.document c.args.chi.now c.add.new.self u d c.requires.document
    (c.in_ok-add.ensures.added (subst IsNone (sym c.in-None.is) refl)
    ∙ ap (λ (s : State). added s.chain c.args.chi.now) c.self.view_is)

pub returns-in_ok-push_line-in-Some-clause-step : goal.returns-in_ok-push_line-in-Some-clause-step
returns-in_ok-push_line-in-Some-clause-step c = λ r all text piece left d u.
    let why = c.in-Some.unfit in
    let line = line_text (Unfit c.args.document why) in
    let wrong = subst (λ o. IfSome o (IsUnfit c.self.inside.chain c.args.chi.now)) c.in-Some.is
    c.in_ok-add.ensures.unfit in
    subst (λ x. IsTextUpToWrong r all Refused x)
    (append_assoc text c.args.before.items line ∙ ap (λ x. text ++ x) (sym c.in_ok-push_line-in-Some.ensures))
    (unfit_stops r all (text ++ c.args.before.items) c.args.self.now piece left c.args.document c.args.chi.now why line
    u d c.requires.elements (subst (λ (s : State). IsUnfit s.chain c.args.chi.now why) c.self.view_is wrong)
    c.requires.document refl)
