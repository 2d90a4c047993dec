use Rattle.std.specs.Prelude.{refl}
use Rattle.om_plane.proofs.verification.valid_line.Goals as goal

pub returns-in-Weights : goal.returns-in-Weights
returns-in-Weights c = rw c.in-Weights.is refl
