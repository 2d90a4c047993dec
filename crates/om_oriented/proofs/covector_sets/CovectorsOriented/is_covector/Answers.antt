use Rattle.std.proofs.Common.{rules}
use Rattle.om_oriented.proofs.covector_sets.CovectorsOriented.is_covector.Goals as goal

pub returns : goal.returns
returns c = search rules
