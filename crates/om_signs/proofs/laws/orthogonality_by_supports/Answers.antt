use Rattle.om_signs.proofs.Orthogonality.{by_supports}
use Rattle.om_signs.proofs.laws.orthogonality_by_supports.Goals as goal

pub returns : goal.returns
returns c = by_supports
