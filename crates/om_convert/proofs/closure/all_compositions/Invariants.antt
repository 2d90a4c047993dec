use Rattle.std.proofs.Common.{◌-◌}
use Rattle.om_signs.specs.declared.limits.TheConstants.{MAX_MEMBERS}
use Rattle.om_convert.proofs.CompositionLaws.{IsClosedBelow}
use Rattle.om_convert.proofs.closure.all_compositions.Given as goal

abbrev pub invariant-loop-done : goal.invariant-loop-done
invariant-loop-done l = IsClosedBelow l.elements l.vectors l.done l.members

abbrev pub decreases-loop-done : goal.decreases-loop-done
decreases-loop-done l = MAX_MEMBERS - l.done
