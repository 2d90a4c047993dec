use Rattle.std.specs.Prelude.{is_some}
use Rattle.std.proofs.Common.{sym, ap, ◌∙◌, below_more, []}
use Rattle.om_words.specs.Options.{given_number}
use Rattle.om_words.proofs.FitLaws.{item_word, any_found, any_none}
use Rattle.om_words.proofs.Numerals.{length-words, length-words_end}
use Rattle.om_words.proofs.options.is_given.Goals as goal

pub loop-word-preserved : goal.loop-word-preserved
loop-word-preserved c =
    below_more _ _ c.loop-word.invariant
    (ap (λ w. is_some (given_number c.args.setting w))
    (item_word _ _ _ c.word-item.result [] c.loop-word-test.true c.word-item.is) ∙ sym c.gives.ensures
    ∙ c.if-gives.false)

pub returns-then-gives : goal.returns-then-gives
returns-then-gives c =
    sym (any_found _ _ _ _ (length-words _ _ _ c.loop-word-test.true)
    (item_word _ _ _ c.word-item.result [] c.loop-word-test.true c.word-item.is)
    (sym c.gives.ensures ∙ c.if-gives.true))

pub returns : goal.returns
returns c = sym (any_none _ _ _ (length-words_end _ _ _ c.loop-word-test.false) c.loop-word.invariant)
