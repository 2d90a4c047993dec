use Rattle.om_subsets.proofs.Unrank.{IsBegun}
use Rattle.om_subsets.proofs.subset.Subset.unrank.Given as goal

abbrev pub invariant-loop-i : goal.invariant-loop-i
invariant-loop-i l = IsBegun l.mask l.i l.left l.rest l.fn.r l.fn.k l.n
