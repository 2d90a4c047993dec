use Rattle.om_signs.proofs.MadeVectors.{neg_made}
use Rattle.om_signs.proofs.sign_vec.SignVec.neg.Goals as goal

pub invariant_of-result : goal.invariant_of-result
invariant_of-result c = (neg_made _ _ _ _ c.self.invariant c.self.view_is).sound

pub returns : goal.returns
returns c = (neg_made _ _ _ _ c.self.invariant c.self.view_is).view
