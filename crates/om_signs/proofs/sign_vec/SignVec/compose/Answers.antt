use Rattle.om_signs.proofs.MadeVectors.{compose_made}
use Rattle.om_signs.proofs.sign_vec.SignVec.compose.Goals as goal

pub invariant_of-result : goal.invariant_of-result
invariant_of-result c =
    (compose_made _ _ _ _ _ _ _ _ c.self.invariant c.self.view_is c.y.invariant c.y.view_is c.requires).sound

pub returns : goal.returns
returns c = (compose_made _ _ _ _ _ _ _ _ c.self.invariant c.self.view_is c.y.invariant c.y.view_is c.requires).view
