use Rattle.std.proofs.Common.{rules}
use Rattle.om_threeterm.proofs.relations.first_unbalanced.Goals as goal

pub first_unbalanced_by_scan-requires-clause-violated : goal.first_unbalanced_by_scan-requires-clause-violated
first_unbalanced_by_scan-requires-clause-violated g c = search rules
