use Rattle.std.proofs.Common.{ℕ, ◌≢◌, ◌<◌}
use Rattle.om_laws.specs.Sorting.{IsElement}
use Rattle.om_wiring.specs.Scans.{position_in}
use Rattle.om_wiring.proofs.order.Order.wire_at.Given as goal

abbrev pub invariant-loop-x : goal.invariant-loop-x
invariant-loop-x l = (x : ℕ) → IsElement l.n x → x < l.x → position_in l.self x ≢ l.position
