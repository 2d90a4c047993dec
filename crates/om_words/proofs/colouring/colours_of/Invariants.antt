use Rattle.om_words.proofs.FilledLists.{AreLetters}
use Rattle.om_words.proofs.colouring.colours_of.Given as goal

abbrev pub invariant-loop-i : goal.invariant-loop-i
invariant-loop-i l = AreLetters l.word l.i l.colours
