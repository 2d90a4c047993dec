use Rattle.std.proofs.Common.{sym, ◌∙◌}
use Rattle.om_words.proofs.ArgumentLaws.{bare_read, bare_fault}
use Rattle.om_words.proofs.arguments.bare.Goals as goal

pub returns-then-is_empty : goal.returns-then-is_empty
returns-then-is_empty c = bare_read _ _ _ (sym c.if-is_empty.true ∙ c.is_empty.ensures)

pub returns-else-is_empty : goal.returns-else-is_empty
returns-else-is_empty c = bare_fault _ _ _ (sym c.if-is_empty.false ∙ c.is_empty.ensures)
