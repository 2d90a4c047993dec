use Rattle.std.proofs.Common.{subst}
use Rattle.om_points.specs.Forms.{Refuses}
use Rattle.om_points.proofs.Corners.{choice, corner_refuses}
use Rattle.om_points.proofs.Sizes.{read_form}
use Rattle.om_points.proofs.form.Form.refuses_rows.Goals as goal

pub returns : goal.returns
returns c = λ h t a.
    let f = read_form _ _ c.self.invariant c.self.view_is in
    corner_refuses c.args.self c.args.v t c.args.rows _ _ (choice c.args.self.y _ f.y) (choice c.args.self.z _ f.z)
    (subst (Refuses c.args.self) c.corner.ensures (c.refuses.ensures.0 h)) a
