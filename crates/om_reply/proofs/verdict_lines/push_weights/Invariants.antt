use Rattle.std.proofs.Common.{◌≡◌, ◌++◌, take, map}
use Rattle.om_reply.specs.VerdictText.{lines_text, weight_words}
use Rattle.om_reply.proofs.verdict_lines.push_weights.Given as goal

abbrev pub invariant-loop-weight : goal.invariant-loop-weight
invariant-loop-weight l = l.text.items ≡ l.initial.text.items
    ++ lines_text (map weight_words (take l.weight-index l.weights))
