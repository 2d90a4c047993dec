use Rattle.om_signs.proofs.PairTests.{separation_made}
use Rattle.om_signs.proofs.sign_vec.SignVec.separation.Goals as goal

pub returns : goal.returns
returns c = separation_made _ _ _ _ _ _ _ _ c.self.invariant c.self.view_is c.y.invariant c.y.view_is c.requires
