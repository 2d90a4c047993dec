use Rattle.std.proofs.Common.{sym, ap, ◌∙◌, below_more, []}
use Rattle.om_words.specs.ListingSteps.{has_element, signed_of}
use Rattle.om_words.proofs.FitLaws.{item_word, any_found, any_none}
use Rattle.om_words.proofs.Numerals.{length-words, length-words_end}
use Rattle.om_words.proofs.leading.is_among.Goals as goal

pub loop-word-preserved : goal.loop-word-preserved
loop-word-preserved c =
    below_more _ _ c.loop-word.invariant
    (ap (λ w. has_element c.args.e (signed_of w))
    (item_word _ _ _ c.word-item.result [] c.loop-word-test.true c.word-item.is) ∙ sym c.has_element.ensures
    ∙ c.if-has_element.false)

pub returns-then-has_element : goal.returns-then-has_element
returns-then-has_element c =
    sym (any_found _ _ _ _ (length-words _ _ _ c.loop-word-test.true)
    (item_word _ _ _ c.word-item.result [] c.loop-word-test.true c.word-item.is)
    (sym c.has_element.ensures ∙ c.if-has_element.true))

pub returns : goal.returns
returns c = sym (any_none _ _ _ (length-words_end _ _ _ c.loop-word-test.false) c.loop-word.invariant)
