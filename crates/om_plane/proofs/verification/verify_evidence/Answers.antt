use Rattle.std.specs.Prelude.{refl}
use Rattle.om_plane.specs.Claims.{refused, valid}
use Rattle.om_plane.proofs.verification.verify_evidence.Goals as goal

pub returns-in-Ok : goal.returns-in-Ok
returns-in-Ok c = rw c.valid_line.ensures (valid (c.in-Ok.ensures.accepted.0 refl) c.in-Ok.ensures.shown)

pub returns-in-Err : goal.returns-in-Err
returns-in-Err c = rw c.refusal_line.ensures (refused c.in-Err.why ((c.in-Err.ensures.refused c.in-Err.why).0 refl))
