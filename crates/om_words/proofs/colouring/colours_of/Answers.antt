use Rattle.std.proofs.Common.{refl, sym, ◌∙◌}
use Rattle.om_words.proofs.FilledLists.{some_of, letters_none, letters_more, colours_read}
use Rattle.om_words.proofs.colouring.colours_of.Goals as goal

pub loop-i-init : goal.loop-i-init
loop-i-init c = letters_none _

pub loop-i-preserved : goal.loop-i-preserved
loop-i-preserved c = letters_more _ _ _ _ _ c.loop-i.invariant c.loop-i-test.true c.if-word-gt-MAX_LISTED.false refl
    (sym c.colour_of.ensures ∙ c.in_ok-colours.was)

pub returns : goal.returns
returns c = colours_read _ _ _ c.loop-i.invariant c.loop-i-test.false
    (some_of _ _ c.is_empty.ensures c.if-is_empty.false) c.if-word-gt-MAX_LISTED.false
