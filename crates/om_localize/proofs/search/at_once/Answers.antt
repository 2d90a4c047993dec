use Rattle.std.proofs.Common.{rules}
use Rattle.om_localize.proofs.search.at_once.Goals as goal

pub returns-clause-few : goal.returns-clause-few
returns-clause-few c = search rules
