use Rattle.std.proofs.Common.{rules, tests}
use Rattle.om_wiring.proofs.checking.is_in_order.Goals as goal

pub returns-else-not-at_x-at_y : goal.returns-else-not-at_x-at_y
returns-else-not-at_x-at_y c = search (tests, rules)
