use Rattle.std.proofs.Common.{refl, ◌∙◌}
use Rattle.om_signs.specs.declared.limits.TheConstants.{MAX_ELEMENTS}
use Rattle.om_words.proofs.ArgumentLaws.{none_some}
use Rattle.om_words.proofs.Numerals.{taken_none, taken_more, taken_fault, taken_empty, taken_end, length-words}
use Rattle.om_words.proofs.Numerals.{length-words_end, no_members}
use Rattle.om_words.proofs.arguments.elements.Goals as goal
use Rattle.om_words.proofs.FitLaws.{item_word}

pub loop-word-init : goal.loop-word-init
loop-word-init c =
    record {
      n = c.from_mask-chosen.ensures.n;
      taken =
          taken_none _ _ (c.from_mask-chosen.ensures.elements ∙ no_members MAX_ELEMENTS);
    }

pub returns-in_default : goal.returns-in_default
returns-in_default c = taken_fault _ _ _ _ _ _ c.loop-word.invariant.taken (length-words _ _ _ c.loop-word-test.true)
    (item_word _ _ _ c.word-item.result _ c.loop-word-test.true c.word-item.is)
    (λ e element above. none_some e c.in_default.is ((c.element_above.ensures e).1 (element, above)))

pub with-chosen-requires-clause-low : goal.with-chosen-requires-clause-low
with-chosen-requires-clause-low c = ((c.in-Some.ensures c.in-Some.e).0 refl).0.low

pub with-chosen-requires-clause-high : goal.with-chosen-requires-clause-high
with-chosen-requires-clause-high c = rw c.loop-word.invariant.n (((c.in-Some.ensures c.in-Some.e).0 refl).0.high)

pub loop-word-preserved : goal.loop-word-preserved
loop-word-preserved c =
    let read = (c.in-Some.ensures c.in-Some.e).0 refl in
    record {
      n = c.with-chosen.ensures.n ∙ c.loop-word.invariant.n;
      taken = rw c.with-chosen.ensures.elements
          (taken_more _ _ _ _ _ _ _ c.loop-word.invariant.taken (length-words _ _ _ c.loop-word-test.true)
          (item_word _ _ _ c.word-item.result _ c.loop-word-test.true c.word-item.is) read.0 read.1);
    }

pub returns-then-last-eq0 : goal.returns-then-last-eq0
returns-then-last-eq0 c = taken_empty _ _ _ _ _ c.loop-word.invariant.taken
    (length-words_end _ _ _ c.loop-word-test.false) c.if-last-eq0.true

pub returns : goal.returns
returns c = taken_end _ _ _ _ _ _ c.loop-word.invariant.taken (length-words_end _ _ _ c.loop-word-test.false)
    c.if-last-eq0.false (rw c.loop-word.invariant.n at c.mask.ensures.value)
