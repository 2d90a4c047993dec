use Rattle.om_signs.proofs.PairTests.{support_made}
use Rattle.om_signs.proofs.sign_vec.SignVec.support.Goals as goal

pub returns : goal.returns
returns c = support_made _ _ _ _ c.self.invariant c.self.view_is
