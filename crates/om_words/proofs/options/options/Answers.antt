use Rattle.std.specs.Prelude.{string_bytes}
use Rattle.std.proofs.Common.{sym, ◌∙◌, Global, []}
use Rattle.std.proofs.lemmas.List.{take-map}
use Rattle.om_words.proofs.FitLaws.{item_word}
use Rattle.om_words.proofs.Numerals.{length-words, length-words_end}
use Rattle.om_words.proofs.OptionLaws.{passed_none, passed_more, options_fault, options_read}
use Rattle.om_words.proofs.options.options.Goals as goal

pub loop-i-init : goal.loop-i-init
loop-i-init c = passed_none _ _

pub loop-i-preserved : goal.loop-i-preserved
loop-i-preserved c = passed_more _ _ _ _ c.loop-i.invariant (length-words _ _ _ c.loop-i-test.true)
    (item_word _ _ _ c.index-words-i.result [] c.loop-i-test.true c.index-words-i.is)
    (rw (take-map (string_bytes {Z = Global}) c.loop-i.i c.args.words.now)
    (sym c.is_option.ensures ∙ c.if-not-is_option.false))

pub returns-then-not-is_option : goal.returns-then-not-is_option
returns-then-not-is_option c =
    options_fault _ _ _ _ _ c.loop-i.invariant (length-words _ _ _ c.loop-i-test.true)
    (item_word _ _ _ c.index-words-i.result [] c.loop-i-test.true c.index-words-i.is)
    (rw (take-map (string_bytes {Z = Global}) c.loop-i.i c.args.words.now)
    (sym c.is_option.ensures ∙ c.if-not-is_option.true))

pub returns : goal.returns
returns c = options_read _ _ _ _ c.loop-i.invariant (length-words_end _ _ _ c.loop-i-test.false)
