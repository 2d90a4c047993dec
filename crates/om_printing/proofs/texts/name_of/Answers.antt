use Rattle.std.proofs.Common.{rules}
use Rattle.om_printing.proofs.texts.name_of.Goals as goal

pub returns-in-RefusedNozero : goal.returns-in-RefusedNozero
returns-in-RefusedNozero c = search rules
