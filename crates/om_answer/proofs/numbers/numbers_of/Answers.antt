use Rattle.std.proofs.Common.{◌∷◌, [], ◌++◌, ◌+◌, length, drop, take, sym, ap, subst, ◌∙◌, length-append}
use Rattle.std.proofs.lemmas.Int.{to_z-of_z}
use Rattle.std.specs.Int.{w128}
use Rattle.om_lines.specs.Lines.{runs}
use Rattle.om_answer.specs.Numbers.{numbers_within, AreIn}
use Rattle.om_answer.proofs.NumberLaws.{continued, no_word, other_number, next_number, all_numbers, more_words, in_more}
use Rattle.om_answer.proofs.NumberLaws.{in_all}
use Rattle.om_answer.proofs.numbers.numbers_of.Goals as goal

pub returns-in_err-word-clause-value : goal.returns-in_err-word-clause-value
returns-in_err-word-clause-value c =
    rw c.from_residual.ensures (sym c.loop-range.invariant.same
    ∙ no_word c.args.ranges.now c.loop-range.range-index (runs c.loop-range.rest.now) c.loop-range.numbers.items
    c.loop-range-test.true c.in_err-word.ensures.words)

pub returns-in_err-number_of-clause-value : goal.returns-in_err-number_of-clause-value
returns-in_err-number_of-clause-value c =
    rw c.from_residual-in_err-number_of.ensures
    (sym c.loop-range.invariant.same
    ∙ other_number c.args.ranges.now c.loop-range.range-index (runs c.loop-range.rest.now)
    (runs c.in_ok-word.after.now) c.in_ok-word.word.now c.loop-range.numbers.items c.loop-range-test.true
    c.in_ok-word.ensures.words (sym c.in_err-number_of.ensures.value))

pub loop-range-preserved : goal.loop-range-preserved
loop-range-preserved c =
    let items = c.push_reserved.ensures.items
    ∙ ap (λ z. c.loop-range.numbers.items ++ z ∷ [])
    (to_z-of_z w128 c.in_ok-number_of.field-0 c.in_ok-number_of.ensures.fits) in
    record {
      same = ap
          (λ xs. continued xs
          (numbers_within (drop (c.loop-range.range-index + 1) c.args.ranges.now) (runs c.in_ok-word.after.now))) items
          ∙ next_number c.args.ranges.now c.loop-range.range-index (runs c.loop-range.rest.now)
          (runs c.in_ok-word.after.now) c.in_ok-word.word.now c.loop-range.numbers.items c.in_ok-number_of.field-0
          c.loop-range-test.true c.in_ok-word.ensures.words (sym c.in_ok-number_of.ensures.value)
          ∙ c.loop-range.invariant.same;
      room = c.push_reserved.ensures.capacity ∙ c.loop-range.invariant.room;
      within = subst (AreIn (take (c.loop-range.range-index + 1) c.args.ranges.now)) (sym items)
          (in_more c.args.ranges.now c.loop-range.range-index c.loop-range.numbers.items c.in_ok-number_of.field-0
          c.loop-range-test.true c.loop-range.invariant.within c.in_ok-number_of.ensures.within);
      count = ap length items ∙ length-append c.loop-range.numbers.items (c.in_ok-number_of.field-0 ∷ [])
          ∙ ap (λ n. n + 1) c.loop-range.invariant.count;
    }

pub returns-then-has_no_words-clause-value : goal.returns-then-has_no_words-clause-value
returns-then-has_no_words-clause-value c = sym c.loop-range.invariant.same
    ∙ all_numbers c.args.ranges.now c.loop-range.range-index (runs c.loop-range.rest.now) c.loop-range.numbers.items
    c.loop-range-test.false c.if-has_no_words.ensures

pub returns-else-has_no_words-clause-value : goal.returns-else-has_no_words-clause-value
returns-else-has_no_words-clause-value c = sym c.loop-range.invariant.same
    ∙ more_words c.args.ranges.now c.loop-range.range-index (runs c.loop-range.rest.now) c.loop-range.numbers.items
    c.loop-range-test.false c.if-has_no_words.ensures

pub returns-then-has_no_words-clause-within : goal.returns-then-has_no_words-clause-within
returns-then-has_no_words-clause-within c =
    in_all c.args.ranges.now c.loop-range.range-index c.loop-range.numbers.items c.loop-range-test.false
    c.loop-range.invariant.within
