use Rattle.std.proofs.Common.{ℕ, ◌<◌}
use Rattle.om_laws.specs.Sorting.{IsElement}
use Rattle.om_wiring.specs.Scans.{position_in, IsNotBefore}
use Rattle.om_wiring.proofs.opening.is_next.Given as goal

abbrev pub invariant-loop-c : goal.invariant-loop-c
invariant-loop-c l = (c : ℕ) → IsElement l.chi.elements c → c < l.c → IsNotBefore l.chi (position_in l.order) l.p l.b c
