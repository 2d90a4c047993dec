-- The upgrade of a document to version 2 of the format. It is the document itself, with its names. Points and
-- wirings aren't replaced by their map, and a flat wiring is upgraded too.
use Rattle.std.specs.Prelude.{◌≡◌}
use Rattle.om_document.specs.declared.document.Document.{Document}
use Rattle.om_reply.specs.declared.answer.Answer.{Answer}
use Rattle.om_reply.specs.Answers.{shows_two}
use Rattle.om_commands.specs.Checked.{IsChecked}

-- the upgrade of a document
abbrev pub IsUpgrade : Document → Answer → Type 0
IsUpgrade d answer = IsChecked d (λ kept. kept ≡ shows_two d) answer
