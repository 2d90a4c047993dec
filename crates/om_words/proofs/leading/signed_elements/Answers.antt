use Rattle.std.specs.Prelude.{◌≤◌, length, string_bytes}
use Rattle.std.proofs.Common.{arith, sym, Global, []}
use Rattle.std.proofs.lemmas.List.{length-map, take-map, length-take-le}
use Rattle.om_words.proofs.FitLaws.{item_word}
use Rattle.om_words.proofs.Numerals.{length-words, length-words_end}
use Rattle.om_words.proofs.FilledLists.{few_of, some_of}
use Rattle.om_words.proofs.ListingLaws.{signed_none, signed_more, leading_fault, leading_missing, leading_read}
use Rattle.om_words.proofs.ListingMeaning.{leading_meant}
use Rattle.om_words.proofs.leading.signed_elements.Goals as goal

pub loop-i-init : goal.loop-i-init
loop-i-init c = signed_none _

pub loop-i-preserved : goal.loop-i-preserved
loop-i-preserved c =
    let within : c.loop-i.i ≤ length c.args.rest.now = omega arith in
    signed_more _ _ _ _ _ c.loop-i.invariant (length-words _ _ _ c.loop-i-test.true)
    (rw (length-take-le c.loop-i.i c.args.rest.now within) at c.in-Some.ensures.room)
    (item_word _ _ _ c.index-rest-i.result [] c.loop-i-test.true c.index-rest-i.is) c.in-Some.ensures.value
    (rw (take-map (string_bytes {Z = Global}) c.loop-i.i c.args.rest.now) c.in-Some.ensures.leading)

pub returns-in_default : goal.returns-in_default
returns-in_default c =
    leading_meant _ _
    (leading_fault _ _ _ _ c.loop-i.invariant (length-words _ _ _ c.loop-i-test.true)
    (item_word _ _ _ c.index-rest-i.result [] c.loop-i-test.true c.index-rest-i.is)
    (rw (take-map (string_bytes {Z = Global}) c.loop-i.i c.args.rest.now) c.in_default.ensures.none))

pub returns-then-is_empty : goal.returns-then-is_empty
returns-then-is_empty c = leading_meant _ _ (leading_missing _ _ (few_of _ _ c.is_empty.ensures c.if-is_empty.true))

pub returns : goal.returns
returns c =
    let some = length-words (string_bytes {Z = Global}) c.args.rest.now 0
    (some_of _ _ c.is_empty.ensures c.if-is_empty.false) in
    leading_meant _ _
    (leading_read _ _ _ _ c.loop-i.invariant (length-words_end _ _ _ c.loop-i-test.false) (omega (arith, some))
    (sym (length-map c.args.rest.now string_bytes)))
