use Rattle.std.proofs.Common.{rules}
use Rattle.om_threeterm.proofs.exchanges.first_unexchanged.Goals as goal

pub first_unexchanged_by_scan-requires-clause-violated : goal.first_unexchanged_by_scan-requires-clause-violated
first_unexchanged_by_scan-requires-clause-violated g c = search rules
