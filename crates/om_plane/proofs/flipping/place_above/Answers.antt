use Rattle.std.proofs.Common.{rules}
use Rattle.om_plane.proofs.flipping.place_above.Goals as goal

pub returns-then-n-c : goal.returns-then-n-c
returns-then-n-c c = search rules
