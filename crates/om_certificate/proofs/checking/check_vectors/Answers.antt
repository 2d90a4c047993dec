use Rattle.std.proofs.Common.{sym, ◌∙◌, subst}
use Rattle.om_vectors.specs.Realizations.{IsFirstOther}
use Rattle.om_certificate.specs.Refusals.{wrong_sign}
use Rattle.om_certificate.proofs.Reasons.{vectors_refused}
use Rattle.om_certificate.proofs.checking.check_vectors.Goals as goal

pub returns-then-len-elements-clause-refused : goal.returns-then-len-elements-clause-refused
returns-then-len-elements-clause-refused c =
    vectors_refused c.args.chi.now c.args.word.now _ _ c.elements-then-len-elements.ensures.value
    c.len-then-len-elements.ensures.value
    (λ e. c.if-len-elements.true (c.len.ensures.value ∙ e ∙ sym c.elements.ensures.value))

pub returns-in-Err-clause-refused : goal.returns-in-Err-clause-refused
returns-in-Err-clause-refused c =
    wrong_sign c.in-Err.triple (sym c.len.ensures.value ∙ c.if-len-elements.false ∙ c.elements.ensures.value)
    (subst (λ vs. IsFirstOther vs c.args.chi.now c.in-Err.triple) c.as_slice.ensures.value c.in-Err.ensures.first)
