use Rattle.std.proofs.Common.{◌≡◌, ◌∙◌, rules}
use Rattle.om_signs.specs.declared.sign.Sign.TheVariants.{Zero}
use Rattle.om_points.proofs.Forms.{more_zero}
use Rattle.om_points.proofs.form.opposite_of.Goals as goal

pub returns-then-eq-clause-sound : goal.returns-then-eq-clause-sound
returns-then-eq-clause-sound c = λ v h e.
    let z : c.args.wanted ≡ Zero = search rules in
    more_zero c.args.a c.args.b v ((c.of.ensures.refuses v).0 h) (e ∙ z)
