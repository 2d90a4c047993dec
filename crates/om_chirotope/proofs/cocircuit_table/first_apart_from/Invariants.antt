use Rattle.std.proofs.Common.{◌-◌, ◌≡◌, length}
use Rattle.om_subsets.specs.Sets.{all_sets}
use Rattle.om_chirotope.proofs.Apart.{IsOrthogonalBelow}
use Rattle.om_chirotope.proofs.cocircuit_table.first_apart_from.Given as goal

abbrev pub invariant-loop-a : goal.invariant-loop-a
invariant-loop-a l = record {
  can : (goal.iterator-loop-a).can_next l.a-iterator;
  finite : (goal.iterator-loop-a).is_finite l.a-iterator;
  sets : l.initial.a-iterator ≡ all_sets l.map.elements (l.map.rank - 1);
  held : IsOrthogonalBelow l.map l.vector (length l.yielded);
}
