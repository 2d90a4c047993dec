use Rattle.std.proofs.Common.{arith}
use Rattle.om_chirotope.proofs.Words.{spread_word, spread_within}
use Rattle.om_chirotope.proofs.marking.spread_within.Goals as goal

pub loop-word-preserved : goal.loop-word-preserved
loop-word-preserved c =
    let size = c.loop-word.invariant.size in
    let inside = c.loop-word-test.true in
    spread_word c.loop-word.invariant (omega (arith, inside, size)) c.spread_in.ensures

pub returns : goal.returns
returns c =
    let size = c.loop-word.invariant.size in
    let over = c.loop-word-test.false in
    let end = c.loop-word.auto.word-index-end in
    spread_within c.args.words.now c.loop-word.words c.args.e c.requires size
    (λ i l. c.loop-word.invariant.done i (omega (arith, l, over, end)))
