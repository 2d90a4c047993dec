use Rattle.std.proofs.Common.{◌≡◌, length}
use Rattle.om_class_tests.proofs.labels.product.Given as goal

abbrev pub invariant-loop-step : goal.invariant-loop-step
invariant-loop-step l = length l.w ≡ length l.turn
