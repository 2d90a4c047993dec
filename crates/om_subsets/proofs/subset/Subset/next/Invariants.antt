use Rattle.std.proofs.Common.{◌≡◌, ◌-◌, length}
use Rattle.om_subsets.proofs.Places.{from_place}
use Rattle.om_subsets.proofs.LastSets.{IsLast}
use Rattle.om_subsets.proofs.subset.Subset.next.Given as goal

abbrev pub invariant-loop-k : goal.invariant-loop-k
invariant-loop-k l = record {
  tail_is : l.tail ≡ length (from_place l.self-inside.mask (l.self-inside.n - l.k) l.self-inside.n);
  last : IsLast l.self-inside.mask (l.self-inside.n - l.k) l.self-inside.n;
}
