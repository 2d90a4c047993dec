use Rattle.std.proofs.Common.{rules}
use Rattle.om_signs.proofs.laws.numbers_of_the_limits.Goals as goal

pub returns-clause-elements : goal.returns-clause-elements
returns-clause-elements c = search rules
