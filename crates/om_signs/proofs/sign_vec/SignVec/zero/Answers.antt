use Rattle.om_signs.proofs.MadeVectors.{zero_made}
use Rattle.om_signs.proofs.sign_vec.SignVec.zero.Goals as goal

pub invariant_of-result : goal.invariant_of-result
invariant_of-result c = (zero_made _ c.requires.low c.requires.high).sound

pub returns : goal.returns
returns c = (zero_made _ c.requires.low c.requires.high).view
