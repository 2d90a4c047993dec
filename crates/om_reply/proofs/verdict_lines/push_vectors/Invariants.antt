use Rattle.std.proofs.Common.{◌≡◌, ◌++◌, take, map}
use Rattle.om_reply.specs.VerdictText.{lines_text, vector_words}
use Rattle.om_reply.proofs.verdict_lines.push_vectors.Given as goal

abbrev pub invariant-loop-vector : goal.invariant-loop-vector
invariant-loop-vector l = l.text.items ≡ l.initial.text.items
    ++ lines_text (map vector_words (take l.vector-index l.vectors))
