use Rattle.std.proofs.Common.{◌≡◌, ◌+◌, ◌<◌, ℕ, length}
use Rattle.om_signs.specs.SignVec.{at}
use Rattle.om_laws.specs.Relations.{along}
use Rattle.om_chirotope.specs.Map.{value_of}
use Rattle.om_chirotope.proofs.whole_map.WholeMap.cocircuit_of.Given as goal

abbrev pub invariant-loop-e : goal.invariant-loop-e
invariant-loop-e l = record {
  len : length l.vector ≡ l.self.elements;
  done : (k : ℕ) → k + 1 < l.e → at l.vector k ≡ along (value_of l.self) l.a.elements (k + 1);
}
