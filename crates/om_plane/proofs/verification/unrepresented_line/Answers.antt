use Rattle.std.proofs.Common.{subst}
use Rattle.om_representation.specs.Axioms.{IsRefusal}
use Rattle.om_plane.specs.Claims.{fails_axioms, flat}
use Rattle.om_plane.proofs.verification.unrepresented_line.Goals as goal

pub returns-in-Refused : goal.returns-in-Refused
returns-in-Refused c = λ claim refused.
    let d = claim.document in
    rw c.refused_line.ensures (fails_axioms _ (subst (IsRefusal d.elements d.body) c.in-Refused.is refused))

pub returns-in-Flat : goal.returns-in-Flat
returns-in-Flat c = λ claim refused.
    let d = claim.document in
    let why = subst (IsRefusal d.elements d.body) c.in-Flat.is refused in
    flat why.0 why.1
