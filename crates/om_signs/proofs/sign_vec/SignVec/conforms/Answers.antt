use Rattle.om_signs.proofs.PairTests.{conforms_test}
use Rattle.om_signs.proofs.sign_vec.SignVec.conforms.Goals as goal

pub returns : goal.returns
returns c = conforms_test _ _ _ _ _ _ _ _ c.self.invariant c.self.view_is c.y.invariant c.y.view_is
