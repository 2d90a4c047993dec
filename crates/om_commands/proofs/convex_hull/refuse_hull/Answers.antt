use Rattle.std.specs.Prelude.{refl}
use Rattle.om_commands.proofs.convex_hull.refuse_hull.Goals as goal

pub returns-in-Cyclic : goal.returns-in-Cyclic
returns-in-Cyclic c = rw c.in-Cyclic.is refl
