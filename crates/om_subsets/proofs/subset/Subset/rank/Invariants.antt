use Rattle.std.proofs.Common.{◌≡◌, ◌+◌, ◌<◌, ◌^◌, length}
use Rattle.om_subsets.specs.Subsets.{rank_of}
use Rattle.om_subsets.specs.Members.{members}
use Rattle.om_subsets.proofs.Lowest.{later}
use Rattle.om_subsets.proofs.subset.Subset.rank.Given as goal

abbrev pub invariant-loop-rest : goal.invariant-loop-rest
invariant-loop-rest l = record {
  within : l.rest < 2 ^ l.self-inside.n;
  left_is : l.left ≡ length (members l.rest 1 l.self-inside.n);
  rank_is : l.rank ≡ rank_of l.fn.self.n l.fn.self.elements + later l.self-inside.n (members l.rest 1 l.self-inside.n);
}

abbrev pub decreases-loop-rest : goal.decreases-loop-rest
decreases-loop-rest l = l.rest
