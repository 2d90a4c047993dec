use Rattle.std.proofs.Common.{◌≡◌, ◌≤◌, ◌-◌, ◌*◌}
use Rattle.om_make.specs.Generator.{nth_state, made_vectors}
use Rattle.om_make.proofs.drawing.vectors.Given as goal

abbrev pub invariant-loop-place : goal.invariant-loop-place
invariant-loop-place l = record {
  low : 3 ≤ l._place;
  word : l.word ≡ made_vectors l.fn.seed l._place;
  state : l.generator.state ≡ nth_state l.fn.seed (3 * (l._place - 3));
}
