use Rattle.std.proofs.Common.{ℕ, ◌≤◌, ◌<◌}
use Rattle.om_localize.specs.Circles.{IsZeroOn, signs_on_circle}
use Rattle.om_covers.proofs.halves.is_simple_half.Given as goal

abbrev pub invariant-loop-f : goal.invariant-loop-f
invariant-loop-f l = (h : ℕ) → 1 ≤ h → h < l.f → IsZeroOn (signs_on_circle l.n l.signature h) → ⊥
