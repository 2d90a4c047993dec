use Rattle.std.proofs.Common.{rules}
use Rattle.om_make.proofs.listing.count_cocircuits.Goals as goal

pub returns : goal.returns
returns c = search rules
