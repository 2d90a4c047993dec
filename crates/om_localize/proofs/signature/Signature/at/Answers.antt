use Rattle.std.proofs.Common.{◌∙◌}
use Rattle.om_localize.proofs.SignatureLaws.{sign_at_place}
use Rattle.om_localize.proofs.signature.Signature.at.Goals as goal

pub returns : goal.returns
returns c = c.sign_with.ensures
    ∙ sign_at_place c.self.inside.plus c.self.inside.minus c.self.inside.len c.args.i _ c.self.view_is c.requires
