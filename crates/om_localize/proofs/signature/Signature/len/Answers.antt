use Rattle.om_localize.proofs.SignatureLaws.{length_in}
use Rattle.om_localize.proofs.signature.Signature.len.Goals as goal

pub returns-clause-value : goal.returns-clause-value
returns-clause-value c = length_in c.self.inside.plus c.self.inside.minus _ _ c.self.view_is
