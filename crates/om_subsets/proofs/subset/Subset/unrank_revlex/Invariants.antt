use Rattle.std.proofs.Common.{◌-◌}
use Rattle.om_subsets.proofs.ReverseSets.{IsReverseBegun}
use Rattle.om_subsets.proofs.subset.Subset.unrank_revlex.Given as goal

abbrev pub invariant-loop-j : goal.invariant-loop-j
invariant-loop-j l = IsReverseBegun l.mask (l.n - l.j) l.left l.rest l.fn.r l.fn.k l.n
