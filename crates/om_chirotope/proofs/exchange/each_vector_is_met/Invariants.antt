use Rattle.std.proofs.Common.{◌-◌, ◌≡◌, ℕ, ◌<◌, get_or, length, []}
use Rattle.om_subsets.specs.Sets.{all_sets}
use Rattle.om_chirotope.specs.Map.{cocircuit_vectors}
use Rattle.om_chirotope.specs.Pictures.{IsMet}
use Rattle.om_chirotope.proofs.exchange.each_vector_is_met.Given as goal

abbrev pub invariant-loop-a : goal.invariant-loop-a
invariant-loop-a l = record {
  can : (goal.iterator-loop-a).can_next l.a-iterator;
  finite : (goal.iterator-loop-a).is_finite l.a-iterator;
  sets : l.initial.a-iterator ≡ all_sets l.map.elements (l.map.rank - 1);
  met : (j : ℕ) → j < length l.yielded → IsMet l.map (get_or (cocircuit_vectors l.map) j []);
}
