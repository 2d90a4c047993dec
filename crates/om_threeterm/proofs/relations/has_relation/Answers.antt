use Rattle.std.proofs.Common.{rules}
use Rattle.om_threeterm.proofs.relations.has_relation.Goals as goal

pub returns : goal.returns
returns c = search rules
