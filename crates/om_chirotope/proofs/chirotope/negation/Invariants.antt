use Rattle.std.proofs.Common.{◌≡◌, ◌<◌, ◌≤◌, ℕ, length}
use Rattle.om_signs.specs.Sign.{opposite}
use Rattle.om_signs.specs.SignVec.{at}
use Rattle.om_chirotope.proofs.chirotope.negation.Given as goal

abbrev pub invariant-loop-i : goal.invariant-loop-i
invariant-loop-i l = record {
  rank : l.turned.rank ≡ l.fn.raw.rank;
  elements : l.turned.elements ≡ l.fn.raw.elements;
  size : length l.turned.signs ≡ length l.fn.raw.signs;
  turned : (k : ℕ) → k < l.i → at l.turned.signs k ≡ opposite (at l.fn.raw.signs k);
  rest : (k : ℕ) → l.i ≤ k → at l.turned.signs k ≡ at l.fn.raw.signs k;
}
