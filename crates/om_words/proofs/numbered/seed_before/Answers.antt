use Rattle.std.proofs.Common.{◌∙◌, ap, sym}
use Rattle.om_words.specs.Options.{number_within}
use Rattle.om_words.proofs.OptionCommands.{seed_read, seed_passed, seed_bad}
use Rattle.om_words.proofs.numbered.seed_before.Goals as goal

pub returns-in_default : goal.returns-in_default
returns-in_default c =
    seed_bad _ _ (sym (ap (number_within 0 4294967295) c.as_bytes.ensures.value) ∙ sym c.number_within.ensures.value
    ∙ c.in_default.is)

pub returns : goal.returns
returns c =
    seed_read _ _ _ _ _ (sym (ap (number_within 0 4294967295) c.as_bytes.ensures.value) ∙ sym c.in-Some.ensures.value)
    c.options.ensures c.in_ok-options.was c.number_of.ensures.value

pub returns-in_err-options : goal.returns-in_err-options
returns-in_err-options c =
    seed_passed _ _ _ _ _ _ (sym (ap (number_within 0 4294967295) c.as_bytes.ensures.value)
    ∙ sym c.in-Some.ensures.value) c.options.ensures c.in_err-options.was c.from_residual.ensures.1
