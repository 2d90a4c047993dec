use Rattle.std.proofs.Common.{◌∙◌}
use Rattle.om_vectors.specs.WholeVectors.{triple_product}
use Rattle.om_points.proofs.Forms.{less_minus, less_plus, less_zero}
use Rattle.om_points.proofs.form.form_of.Goals as goal

pub returns-in-Minus-clause-sound : goal.returns-in-Minus-clause-sound
returns-in-Minus-clause-sound c =
    λ v h e. less_minus c.args.a c.args.b v ((c.of.ensures.refuses v).0 h) (e ∙ c.in-Minus.is)

pub returns-in-Zero-clause-sound : goal.returns-in-Zero-clause-sound
returns-in-Zero-clause-sound c =
    λ v h e. less_zero (triple_product c.args.a c.args.b v) ((c.of-in-Zero.ensures.refuses v).0 h) (e ∙ c.in-Zero.is)

pub returns-in-Plus-clause-sound : goal.returns-in-Plus-clause-sound
returns-in-Plus-clause-sound c =
    λ v h e. less_plus (triple_product c.args.a c.args.b v) ((c.of-in-Plus.ensures.refuses v).0 h) (e ∙ c.in-Plus.is)
