use Rattle.std.proofs.Common.{ℕ, ◌<◌, ◌≤◌, []}
use Rattle.std.proofs.Math.ListN.{get_or}
use Rattle.om_signs.specs.SignVec.{IsOrthogonal}
use Rattle.om_chirotope.proofs.scan.first_not_orthogonal.Given as goal

abbrev pub invariant-loop-k : goal.invariant-loop-k
invariant-loop-k l = (j : ℕ) → l.from ≤ j → j < l.k → IsOrthogonal l.vector (get_or l.table j [])
