use Rattle.om_signs.proofs.MadeVectors.{flip_made}
use Rattle.om_signs.proofs.sign_vec.SignVec.flip.Goals as goal

pub invariant_of-result : goal.invariant_of-result
invariant_of-result c = (flip_made _ _ _ _ _ c.self.invariant c.self.view_is c.requires).sound

pub returns : goal.returns
returns c = (flip_made _ _ _ _ _ c.self.invariant c.self.view_is c.requires).view
