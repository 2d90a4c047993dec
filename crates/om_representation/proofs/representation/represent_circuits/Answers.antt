use Rattle.std.specs.Prelude.{refl}
use Rattle.std.proofs.Common.{subst}
use Rattle.om_convert.specs.Reading.{IsSetReadError}
use Rattle.om_representation.proofs.representation.represent_circuits.Goals as goal

pub returns-in-Err-Bad-clause-refused : goal.returns-in-Err-Bad-clause-refused
returns-in-Err-Bad-clause-refused g c =
    let h = subst (IsSetReadError c.args.list) c.in-Err-Bad.field-0-is c.in-Err-Bad.ensures.refused in
    (c.in-Err-Bad.bad.why, (refl, h.first))

pub returns-clause-refused : goal.returns-clause-refused
returns-clause-refused g c =
    absurd (subst (IsSetReadError c.args.list) c.in-Err-Memory.field-0-is c.in-Err-Memory.ensures.refused)
