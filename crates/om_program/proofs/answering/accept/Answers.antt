use Rattle.std.specs.Prelude.{refl}
use Rattle.std.proofs.Common.{subst}
use Rattle.om_representation.specs.Axioms.{IsRefusal}
use Rattle.om_commands.specs.Checked.{refused, met}
use Rattle.om_program.proofs.answering.accept.Goals as goal

pub returns-in-Ok : goal.returns-in-Ok
returns-in-Ok g c = met _ c.in-Ok.ensures.accepted refl

pub returns-in-Err-Refused : goal.returns-in-Err-Refused
returns-in-Err-Refused g c =
    let d = c.args.document in
    let why = subst (IsRefusal d.elements d.body) c.in-Err-Refused.field-0-is c.in-Err-Refused.ensures.refused in
    rw (c.refused_line.ensures, c.in-Err-Refused.why-is) (refused _ why)

pub returns-in-Err-Flat : goal.returns-in-Err-Flat
returns-in-Err-Flat g c =
    let d = c.args.document in
    let why = subst (IsRefusal d.elements d.body) c.in-Err-Flat.field-0-is c.in-Err-Flat.ensures.refused in
    met _ why.0 refl
