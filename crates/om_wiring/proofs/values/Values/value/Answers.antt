use Rattle.std.proofs.Common.{◌∙◌, ap, [], ◌∷◌}
use Rattle.om_signs.specs.SignVec.{at_element}
use Rattle.om_chirotope.proofs.Places.{cocircuit_place}
use Rattle.om_wiring.proofs.values.Values.value.Goals as goal

pub returns : goal.returns
returns c =
    c.get.ensures
    ∙ ap (λ row. at_element row c.args.y) c.row.ensures.row
    ∙ cocircuit_place c.args.self.now (c.args.p ∷ c.args.x ∷ []) c.args.y c.requires.y.0 c.requires.y.1
