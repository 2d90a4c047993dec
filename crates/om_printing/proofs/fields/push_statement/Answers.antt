use Rattle.std.proofs.Common.{rules, append_assoc}
use Rattle.std.proofs.lemmas.Result.{IfOk-equal}
use Rattle.om_printing.proofs.fields.push_statement.Goals as goal

pub returns : goal.returns
returns c = search (rules, IfOk-equal, append_assoc)
