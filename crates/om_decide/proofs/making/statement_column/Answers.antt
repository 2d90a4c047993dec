use Rattle.std.proofs.Common.{rules}
use Rattle.om_decide.proofs.making.statement_column.Goals as goal

pub returns : goal.returns
returns c = search rules
