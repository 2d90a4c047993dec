use Rattle.std.proofs.Common.{◌++◌, ◌∷◌, ◌<◌, sym, ap, subst, ◌∙◌, append-nil, arith}
use Rattle.std.proofs.lemmas.Result.{IfOk-weaker}
use Rattle.om_signs.specs.declared.limits.TheConstants.{MAX_ELEMENTS}
use Rattle.om_chain.specs.Chains.{ChainOfLists}
use Rattle.om_classification.specs.Lists.{IsElsewhere, before}
use Rattle.om_classification.specs.Progress.{State, IsStep, IsUnderway}
use Rattle.om_classification.proofs.Closings.{closing_replied, closing_done, closing_other, closing_goes, closing_stops}
use Rattle.om_classification.proofs.Closings.{wrong_step}
use Rattle.om_classification.proofs.Results.{ok_both}
use Rattle.om_classification.proofs.Steps.{elements_stops}
use Rattle.om_classification.proofs.list_progress.ListProgress.place.Goals as goal

pub returns-then-elements-current-clause-step : goal.returns-then-elements-current-clause-step
returns-then-elements-current-clause-step g c =
    IfOk-weaker c.join.result _ _ (λ step f r all text piece left d b.
    f r all text piece left d
    (subst (λ x. IsUnderway r all x c.args.self.now (piece ∷ left))
    (sym (ap (λ x. text ++ x) c.new.ensures.items ∙ append-nil text)) b.underway)) c.join.ensures.step

pub returns-then-not-begins_next-clause-step : goal.returns-then-not-begins_next-clause-step
returns-then-not-begins_next-clause-step g c =
    let there = subst (λ (s : State). IsElsewhere s.chain.current.elements s.chain.current.maps c.args.chi.now.elements)
    c.self.view_is
    (subst (λ k. IsElsewhere c.self.inside.chain.current.elements c.self.inside.chain.current.maps k)
    c.elements-elements.ensures.value (c.begins_next.ensures.elsewhere c.if-not-begins_next.true
    (λ e. c.if-elements-current.false (e ∙ sym c.elements-current.ensures.value)))) in
    ok_both c.ended.result _ _ _ (λ step is e r all text piece left d b.
    subst (λ t. IsStep r all (text ++ step.text.items) t c.args.self.now left) (sym is)
    (elements_stops r all text c.args.self.now piece left c.args.document c.args.chi.now step.text.items b.underway d
    there c.requires.document e)) c.ended.ensures.status c.ended.ensures.text

pub invariant_of-self-in-Done : goal.invariant_of-self-in-Done
invariant_of-self-in-Done g c =
    let h = closing_done _ _ _ _ _ c.in_ok-step.ensures.closing c.in-Done.is in
    let next = c.begins_next.ensures.next c.if-not-begins_next.false in
    let below = c.begins_next.ensures.below c.if-not-begins_next.false in
    let e = c.elements-elements.ensures.high in
    (c.self.invariant.0 ∙ sym h.asked, omega (arith, h.next, next, below, e, c.elements-current.ensures.value))

pub join-requires-in-Done-clause-elements : goal.join-requires-in-Done-clause-elements
join-requires-in-Done-clause-elements g c =
    let h = closing_done _ _ _ _ _ c.in_ok-step.ensures.closing c.in-Done.is in
    let next = c.begins_next.ensures.next c.if-not-begins_next.false in
    omega (arith, h.next, next, c.elements-elements.ensures.value, c.elements-current.ensures.value)

pub invariant_of-self-in_default : goal.invariant_of-self-in_default
invariant_of-self-in_default g c =
    let same = closing_other _ _ _ _ _ c.in_ok-step.ensures.closing c.in_default.not-Done in (
      c.self.invariant.0 ∙ ap (λ (x : ChainOfLists). x.asked) (sym same),
      subst (λ (x : ChainOfLists). x.current.elements < MAX_ELEMENTS) (sym same) c.self.invariant.1,
    )

pub returns-in-Done-clause-step : goal.returns-in-Done-clause-step
returns-in-Done-clause-step g c =
    let s : State = record { chain = c.self.inside.chain; documents = c.self.inside.documents } in
    IfOk-weaker c.join-in-Done.result _ _ (λ step f r all text piece left d b.
    f r all text piece left d
    (closing_goes c.self.inside.asked s c.close.new.chain _ _ c.in_ok-step.ensures.closing c.in-Done.is
    c.self.invariant.0 (c.begins_next.ensures.some c.if-not-begins_next.false) r all text (piece ∷ left)
    (subst (λ (x : State). IsUnderway r all text x (piece ∷ left)) (sym c.self.view_is) b.underway)))
    c.join-in-Done.ensures.step

pub returns-in_default : goal.returns-in_default
returns-in_default g c =
    let s : State = record { chain = c.self.inside.chain; documents = c.self.inside.documents } in
    let next = c.begins_next.ensures.next c.if-not-begins_next.false in
    record {
      replied = closing_replied _ _ _ _ _ c.in_ok-step.ensures.closing;
      step = λ r all text piece left d b.
          wrong_step r all _ _ _ left c.in_default.not-Done
          (closing_stops c.self.inside.asked s c.close.new.chain _ _ c.in_ok-step.ensures.closing c.in_default.not-Done
          r all text (piece ∷ left)
          (subst (λ (x : State). IsUnderway r all text x (piece ∷ left)) (sym c.self.view_is) b.underway)
          (before piece left c.args.chi.now d
          (omega (arith, next, c.elements-elements.ensures.value, c.elements-current.ensures.value))));
    }
