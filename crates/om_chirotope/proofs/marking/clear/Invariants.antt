use Rattle.std.proofs.Common.{ℕ, ◌≡◌, ◌<◌, get_or, length}
use Rattle.om_chirotope.proofs.marking.clear.Given as goal

abbrev pub invariant-loop-word : goal.invariant-loop-word
invariant-loop-word l = record {
  size : length l.words ≡ length l.fn.words;
  clear : (j : ℕ) → j < l.word-index → get_or l.words j 0 ≡ 0;
}
