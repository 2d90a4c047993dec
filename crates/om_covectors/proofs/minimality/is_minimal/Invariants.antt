use Rattle.om_covectors.specs.Minimality.{HasNoSmallerSupport}
use Rattle.om_members.specs.Scans.{AllBelow, nth}
use Rattle.om_covectors.proofs.minimality.is_minimal.Given as goal

abbrev pub invariant-loop-y : goal.invariant-loop-y
invariant-loop-y l = AllBelow l.y-index (λ k. HasNoSmallerSupport (nth l.members k) l.x)
