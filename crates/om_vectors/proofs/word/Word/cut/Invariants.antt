use Rattle.om_vectors.proofs.WordTables.{IsCutTo}
use Rattle.om_vectors.proofs.word.Word.cut.Given as goal

abbrev pub invariant-loop-i : goal.invariant-loop-i
invariant-loop-i l = IsCutTo l.initial.self-inside.vectors l.self-inside.vectors l.len l.i
