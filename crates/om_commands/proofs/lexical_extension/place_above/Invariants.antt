use Rattle.std.proofs.Common.{ℕ, ◌<◌, ◌≤◌, get_or}
use Rattle.om_words.specs.Tasks.{elements_of}
use Rattle.om_commands.proofs.lexical_extension.place_above.Given as goal

abbrev pub invariant-loop-x : goal.invariant-loop-x
invariant-loop-x l = (j : ℕ) → j < l.x-index → get_or (elements_of l.list) j 0 ≤ l.n
