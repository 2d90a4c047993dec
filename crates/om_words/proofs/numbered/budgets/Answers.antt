use Rattle.std.specs.Prelude.{[], ◌∷◌, map, string_bytes}
use Rattle.std.proofs.Common.{◌∙◌}
use Rattle.om_words.specs.declared.setting.Setting.TheVariants.{BoxSize, Steps, Pivots}
use Rattle.om_words.specs.Options.{budgets_of}
use Rattle.om_words.proofs.OptionCommands.{set_read, set_passed, budgets_same}
use Rattle.om_words.proofs.numbered.budgets.Goals as goal

pub returns : goal.returns
returns c = set_read (BoxSize ∷ Steps ∷ Pivots ∷ []) budgets_of _ _ _ c.options.ensures c.in_ok-options.was
    (budgets_same (map string_bytes c.args.rest.now) _ _ _ c.number_of.ensures.value
    (c.from.ensures ∙ c.number_of-2.ensures.value) c.number_of-3.ensures.value)

pub returns-in_err-options : goal.returns-in_err-options
returns-in_err-options c = set_passed (BoxSize ∷ Steps ∷ Pivots ∷ []) budgets_of _ _ _ _ c.options.ensures
    c.in_err-options.was c.from_residual.ensures.1
