use Rattle.om_words.proofs.SignWords.{filled_all, filled_more}
use Rattle.om_words.proofs.spelling.sign_vector.Goals as goal

pub loop-place-preserved : goal.loop-place-preserved
loop-place-preserved c =
    filled_more c.loop-place.x c.set-x.result c.args.word.now c.loop-place.place c.sign_of_byte.result
    c.loop-place-test.true c.sign_of_byte.ensures c.set-x.ensures c.loop-place.invariant

pub returns : goal.returns
returns c = filled_all _ _ _ c.loop-place-test.false c.loop-place.invariant
