use Rattle.om_words.proofs.SignWords.{IsFilled}
use Rattle.om_words.proofs.spelling.sign_vector.Given as goal

abbrev pub invariant-loop-place : goal.invariant-loop-place
invariant-loop-place l = IsFilled l.x l.word l.place
