use Rattle.om_members.specs.Scans.{AllBelow}
use Rattle.om_covectors.specs.Scans.{HasCompositionWith}
use Rattle.om_covectors.proofs.closure.first_uncomposed_with.Given as goal

abbrev pub invariant-loop-j : goal.invariant-loop-j
invariant-loop-j l = AllBelow l.j (HasCompositionWith l.members l.x)
