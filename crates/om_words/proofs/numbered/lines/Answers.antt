use Rattle.std.specs.Prelude.{[], ◌∷◌}
use Rattle.std.proofs.Common.{◌∙◌}
use Rattle.om_words.specs.declared.setting.Setting.TheVariants.{First}
use Rattle.om_words.specs.Options.{number_of}
use Rattle.om_words.proofs.OptionCommands.{set_read, set_passed}
use Rattle.om_words.proofs.numbered.lines.Goals as goal

pub returns : goal.returns
returns c = set_read (First ∷ []) (λ ws. number_of ws First) _ _ _ c.options.ensures c.in_ok-options.was
    (c.from.ensures ∙ c.number_of.ensures.value)

pub returns-in_err-options : goal.returns-in_err-options
returns-in_err-options c = set_passed (First ∷ []) (λ ws. number_of ws First) _ _ _ _ c.options.ensures
    c.in_err-options.was c.from_residual.ensures.1
