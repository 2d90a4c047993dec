use Rattle.std.proofs.Common.{◌≡◌, ◌+◌, ◌<◌, ◌^◌, length}
use Rattle.om_subsets.specs.Members.{members}
use Rattle.om_subsets.specs.Reverse.{revlex_rank_from, revlex_rank_of}
use Rattle.om_subsets.proofs.subset.Subset.rank_revlex.Given as goal

abbrev pub invariant-loop-rest : goal.invariant-loop-rest
invariant-loop-rest l = record {
  within : l.rest < 2 ^ l.fn.self.n;
  place_is : l.place + length (members l.rest 1 l.fn.self.n) ≡ length l.fn.self.elements;
  rank_is : l.rank + revlex_rank_from (l.place + 1) (members l.rest 1 l.fn.self.n) ≡ revlex_rank_of l.fn.self.elements;
}

abbrev pub decreases-loop-rest : goal.decreases-loop-rest
decreases-loop-rest l = l.rest
