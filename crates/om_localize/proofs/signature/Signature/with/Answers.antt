use Rattle.om_localize.proofs.SignatureLaws.{added}
use Rattle.om_localize.proofs.signature.Signature.with.Goals as goal

pub invariant_of-result : goal.invariant_of-result
invariant_of-result c =
    (added c.self.inside.plus c.self.inside.minus _ _ _ _ c.args.sign c.self.invariant c.self.view_is c.requires
    c.plus_bit.ensures c.minus_bit.ensures).sound

pub returns : goal.returns
returns c =
    (added c.self.inside.plus c.self.inside.minus _ _ _ _ c.args.sign c.self.invariant c.self.view_is c.requires
    c.plus_bit.ensures c.minus_bit.ensures).view
