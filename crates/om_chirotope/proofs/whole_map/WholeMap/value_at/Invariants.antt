use Rattle.std.proofs.Common.{◌≡◌, ◌-◌, length, drop}
use Rattle.om_laws.specs.Tuples.{sorted, sort_sign}
use Rattle.om_chirotope.proofs.whole_map.WholeMap.value_at.Given as goal

abbrev pub invariant-loop-e : goal.invariant-loop-e
invariant-loop-e l = record {
  n : l.set.n ≡ l.self.elements;
  size : length l.set.elements ≡ length l.yielded;
  elements : l.set.elements ≡ sorted (drop (length l.tuple - length l.yielded) l.tuple);
  sign : l.sign ≡ sort_sign (drop (length l.tuple - length l.yielded) l.tuple);
}
