use Rattle.std.proofs.Common.{sym, ◌∙◌, []}
use Rattle.om_words.proofs.FitLaws.{item_word}
use Rattle.om_words.proofs.Numerals.{length-words}
use Rattle.om_words.proofs.OptionLaws.{number_found, number_more}
use Rattle.om_words.proofs.options.number_of.Goals as goal

pub loop-word-preserved : goal.loop-word-preserved
loop-word-preserved c =
    sym (number_more _ c.loop-word.word-index c.args.setting _ (length-words _ _ _ c.loop-word-test.true)
    (item_word _ _ _ c.word-item.result [] c.loop-word-test.true c.word-item.is ∙ sym c.as_bytes.ensures.value)
    (sym c.given_number.ensures.value ∙ c.in_default.is)) ∙ c.loop-word.invariant

pub returns-in-Some-clause-value : goal.returns-in-Some-clause-value
returns-in-Some-clause-value c =
    sym (number_found _ c.loop-word.word-index c.in-Some.number c.args.setting _
    (length-words _ _ _ c.loop-word-test.true)
    (item_word _ _ _ c.word-item.result [] c.loop-word-test.true c.word-item.is ∙ sym c.as_bytes.ensures.value)
    (sym c.in-Some.ensures.value)) ∙ c.loop-word.invariant
