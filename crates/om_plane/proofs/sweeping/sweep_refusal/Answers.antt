use Rattle.std.specs.Prelude.{refl}
use Rattle.om_plane.proofs.sweeping.sweep_refusal.Goals as goal

pub returns-in-NotSweepable : goal.returns-in-NotSweepable
returns-in-NotSweepable c = rw c.in-NotSweepable.is refl
