use Rattle.std.proofs.Common.{◌+◌, ◌≡◌, length}
use Rattle.om_subsets.specs.Sets.{all_sets}
use Rattle.om_chirotope.proofs.Tables.{AllBelow}
use Rattle.om_chirotope.proofs.scan.scan.Given as goal

abbrev pub invariant-loop-s : goal.invariant-loop-s
invariant-loop-s l = record {
  can : (goal.iterator-loop-s).can_next l.s-iterator;
  finite : (goal.iterator-loop-s).is_finite l.s-iterator;
  sets : l.initial.s-iterator ≡ all_sets l.map.elements (l.map.rank + 1);
  all : AllBelow l.map (length l.yielded);
}
