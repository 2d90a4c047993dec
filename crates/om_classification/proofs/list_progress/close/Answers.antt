use Rattle.std.proofs.Common.{IfSome, IsNone, refl, sym, ap, subst, ◌≡◌, ◌∙◌}
use Rattle.om_chain.specs.Chains.{IsGap}
use Rattle.om_reply.specs.declared.status.Status.TheVariants.{Done}
use Rattle.om_classification.specs.declared.line.Line.TheVariants.{Shown, Gap as GapIn}
use Rattle.om_classification.specs.Progress.{IsClosing, shown, not_shown}
use Rattle.om_classification.specs.Texts.{line_text}
use Rattle.om_classification.proofs.list_progress.close.Goals as goal

pub returns-in-None-clause-closing : goal.returns-in-None-clause-closing
returns-in-None-clause-closing g c =
    subst (λ x. IsClosing c.args.asked c.args.chain.now c.close.new.self Done x)
    (sym (c.in_ok-shown.ensures
    ∙ ap (λ k. line_text (Shown c.args.asked k c.len-members.result)) c.elements-elements.ensures.value
    ∙ ap (λ k. line_text (Shown c.args.asked c.args.chain.now.current.elements k)) c.len-members.ensures))
    (shown (c.in_ok-close.ensures.closed (subst IsNone (sym c.in-None.is) refl)))

pub returns-in_ok-text_of-in-Some-clause-closing : goal.returns-in_ok-text_of-in-Some-clause-closing
returns-in_ok-text_of-in-Some-clause-closing g c =
    let why = c.in-Some.gap in
    let wrong = subst (λ o. IfSome o (IsGap c.args.chain.now)) c.in-Some.is c.in_ok-close.ensures.gap in
    let same = subst (λ o. IfSome o (λ _. c.close.new.self ≡ c.args.chain.now)) c.in-Some.is
    c.in_ok-close.ensures.unchanged in
    subst (λ x. IsClosing c.args.asked c.args.chain.now c.close.new.self c.status_of.result x)
    (sym (c.in_ok-text_of-in-Some.ensures ∙ ap (λ k. line_text (GapIn k why)) c.elements-elements.ensures.value))
    (subst (λ t. IsClosing c.args.asked c.args.chain.now c.close.new.self t
    (line_text (GapIn c.args.chain.now.current.elements why))) (sym c.status_of.ensures) (not_shown why wrong same))
