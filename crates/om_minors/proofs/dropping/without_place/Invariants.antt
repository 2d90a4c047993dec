use Rattle.std.proofs.Common.{◌≡◌, ◌-◌}
use Rattle.std.specs.List.{remove}
use Rattle.om_minors.proofs.GatheringLaws.{AreGathered}
use Rattle.om_minors.proofs.dropping.without_place.Given as goal

abbrev pub invariant-loop-x : goal.invariant-loop-x
invariant-loop-x l = record {
  gathered : AreGathered (λ W X. remove W (l.e - 1) ≡ X) l.vectors l.list l.x-index;
  keys : l.seen.keys ≡ l.list;
}
