use Rattle.om_signs.proofs.OnePlace.{get_plus, get_minus, get_zero}
use Rattle.om_signs.proofs.sign_vec.SignVec.get.Goals as goal

pub returns-then-self-bit-ne0 : goal.returns-then-self-bit-ne0
returns-then-self-bit-ne0 c = get_plus _ _ _ _ _ c.self.invariant c.self.view_is c.requires.high c.if-self-bit-ne0.true

pub returns-then-self-bit-ne0-2 : goal.returns-then-self-bit-ne0-2
returns-then-self-bit-ne0-2 c =
    get_minus _ _ _ _ _ c.self.invariant c.self.view_is c.requires.high c.if-self-bit-ne0-2.true

pub returns-else-self-bit-ne0-2 : goal.returns-else-self-bit-ne0-2
returns-else-self-bit-ne0-2 c =
    get_zero _ _ _ _ _ c.self.invariant c.self.view_is c.requires.high c.if-self-bit-ne0.false c.if-self-bit-ne0-2.false
