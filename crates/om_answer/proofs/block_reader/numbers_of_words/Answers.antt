use Rattle.std.proofs.Common.{sym, ◌∙◌}
use Rattle.om_lines.specs.Lines.{runs}
use Rattle.om_answer.proofs.NumberLaws.{no_plain, next_plain, all_plain}
use Rattle.om_answer.proofs.block_reader.numbers_of_words.Goals as goal

pub returns-in-None : goal.returns-in-None
returns-in-None c =
    sym (no_plain (runs c.loop-word.rest.now) (runs c.in-Some.after.now) c.in-Some.word.now c.loop-word.numbers
    c.in-Some.ensures.words (sym c.plain_number.ensures ∙ c.in-None.is)) ∙ c.loop-word.invariant

pub loop-word-preserved : goal.loop-word-preserved
loop-word-preserved c =
    next_plain (runs c.loop-word.rest.now) (runs c.in-Some.after.now) c.in-Some.word.now c.loop-word.numbers
    c.push.new.self c.in-Some-plain_number.number c.in-Some.ensures.words
    (sym c.plain_number.ensures ∙ c.in-Some-plain_number.is) c.in_ok-push-in-Some-plain_number.ensures.ok
    ∙ c.loop-word.invariant

pub returns : goal.returns
returns c =
    sym (all_plain (runs c.loop-word.rest.now) c.loop-word.numbers c.in_default.ensures.words) ∙ c.loop-word.invariant
