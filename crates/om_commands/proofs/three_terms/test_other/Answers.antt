use Rattle.std.proofs.Common.{subst}
use Rattle.om_representation.specs.Axioms.{IsRefusal}
use Rattle.om_commands.specs.ThreeTermTests.{refused, no_map}
use Rattle.om_commands.proofs.three_terms.test_other.Goals as goal

pub returns-in-Ok : goal.returns-in-Ok
returns-in-Ok g c = no_map c.requires.no_map c.in-Ok.ensures.accepted

pub returns-in-Err-Refused : goal.returns-in-Err-Refused
returns-in-Err-Refused g c =
    rw (c.refused_line.ensures, c.in-Err-Refused.why-is)
    (refused _ c.requires.no_map
    (subst (IsRefusal c.args.document.elements c.args.document.body) c.in-Err-Refused.field-0-is
    c.in-Err-Refused.ensures.refused))

pub returns-in-Err-Flat : goal.returns-in-Err-Flat
returns-in-Err-Flat g c =
    let why = subst (IsRefusal c.args.document.elements c.args.document.body) c.in-Err-Flat.field-0-is
    c.in-Err-Flat.ensures.refused in
    no_map c.requires.no_map why.0
