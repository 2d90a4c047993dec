use Rattle.om_lines.specs.Lines.{runs}
use Rattle.om_text.proofs.PartSteps.{memory_out, word_refused, block_added}
use Rattle.om_text.proofs.body_lines.with_words.Goals as goal

pub returns-in_default-block_of : goal.returns-in_default-block_of
returns-in_default-block_of c = word_refused _ (runs c.loop-word.rest.now) (runs c.in-Some.after.now)
    c.in-Some.word.now c.block_of.result _ c.in_default-block_of.is c.block_of.ensures c.in-Some.ensures.words
    c.loop-word.invariant

pub returns-in_err-push : goal.returns-in_err-push
returns-in_err-push c = memory_out c.from_residual.result _ c.from_residual.ensures.1

pub loop-word-smaller : goal.loop-word-smaller
loop-word-smaller c = c.in-Some.ensures.shorter

pub loop-word-preserved : goal.loop-word-preserved
loop-word-preserved c =
    block_added _ c.push.new.self (runs c.loop-word.rest.now) (runs c.in-Some.after.now)
    c.in-Some.word.now c.block_of.result c.in-Some-block_of.block _ c.in-Some-block_of.is c.block_of.ensures
    c.in-Some.ensures.words c.in_ok-push.ensures.ok c.loop-word.invariant
