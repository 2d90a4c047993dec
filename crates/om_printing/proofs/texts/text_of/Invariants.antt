use Rattle.std.proofs.Common.{◌≡◌, ◌++◌, drop}
use Rattle.om_printing.specs.Texts.{ended}
use Rattle.om_printing.proofs.texts.text_of.Given as goal

abbrev pub invariant-loop-field : goal.invariant-loop-field
invariant-loop-field l = l.text.items ++ ended (drop l.field-index l.fields) ≡ l.fn.name ++ ended l.fn.fields
