use Rattle.std.proofs.Common.{rules}
use Rattle.om_chirotope.proofs.scan.is_given_test.Goals as goal

pub returns : goal.returns
returns c = search rules
