use Rattle.std.proofs.Common.{sym, ◌∙◌}
use Rattle.om_words.proofs.ElementNumbers.{element_read}
use Rattle.om_words.proofs.spelling.element.Goals as goal

pub returns-in_err-e : goal.returns-in_err-e
returns-in_err-e c = element_read _ _ _ _ c.as_bytes.ensures.value c.from.ensures
    (c.from_residual.ensures ∙ sym c.in_err-e.was ∙ c.number_within.ensures.value)

pub returns : goal.returns
returns c = element_read _ _ _ _ c.as_bytes.ensures.value c.from.ensures
    (sym c.in_ok-e.was ∙ c.number_within.ensures.value)
