use Rattle.std.proofs.Common.{rules, tests}
use Rattle.om_grassmann.proofs.walk.kind_of.Goals as goal

pub returns-else-have_signs : goal.returns-else-have_signs
returns-else-have_signs c = search (tests, rules)
