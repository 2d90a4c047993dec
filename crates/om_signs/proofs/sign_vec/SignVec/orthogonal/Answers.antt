use Rattle.om_signs.proofs.PairTests.{orthogonal_test}
use Rattle.om_signs.proofs.sign_vec.SignVec.orthogonal.Goals as goal

pub returns : goal.returns
returns c = orthogonal_test _ _ _ _ _ _ _ _ c.self.invariant c.self.view_is c.y.invariant c.y.view_is
