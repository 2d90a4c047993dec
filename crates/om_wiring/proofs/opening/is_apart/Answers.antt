use Rattle.std.proofs.Common.{rules, tests}
use Rattle.om_wiring.proofs.opening.is_apart.Goals as goal

pub returns-else-not-are_uncrossed : goal.returns-else-not-are_uncrossed
returns-else-not-are_uncrossed c = search (tests, rules)
