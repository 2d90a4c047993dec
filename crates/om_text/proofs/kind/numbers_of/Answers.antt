use Rattle.std.proofs.Common.{◌∙◌, lit<, arith}
use Rattle.om_lines.specs.Lines.{runs}
use Rattle.om_text.proofs.Numbers.{many_numbers, no_number, next_number, all_numbers}
use Rattle.om_text.proofs.kind.numbers_of.Goals as goal

pub returns-then-len-eq-MOST_NUMBERS-clause-none : goal.returns-then-len-eq-MOST_NUMBERS-clause-none
returns-then-len-eq-MOST_NUMBERS-clause-none c =
    λ kind. many_numbers kind c.loop-word.numbers.items _ _ (omega arith) c.loop-word.invariant.same

pub returns-in_err-plain_number-clause-none : goal.returns-in_err-plain_number-clause-none
returns-in_err-plain_number-clause-none c =
    rw c.from_residual.ensures
    (λ kind. no_number kind c.loop-word.numbers.items (runs c.loop-word.rest.now) (runs c.args.line.now)
    (runs c.in-Some.after.now) c.in-Some.word.now c.in-Some.ensures.words c.in_err-plain_number.ensures
    c.loop-word.invariant.same)

pub push_reserved-requires : goal.push_reserved-requires
push_reserved-requires c =
    let l = c.len.ensures.value in
    let f = c.if-len-eq-MOST_NUMBERS.false in
    let r = c.loop-word.invariant.room in
    (lit< tt, omega arith)

pub loop-word-smaller : goal.loop-word-smaller
loop-word-smaller c = c.in-Some.ensures.shorter

pub loop-word-preserved : goal.loop-word-preserved
loop-word-preserved c =
    record {
      same = next_number _ _ (runs c.loop-word.rest.now) (runs c.args.line.now) (runs c.in-Some.after.now) _ _
          c.in-Some.ensures.words c.in_ok-plain_number.ensures c.push_reserved.ensures.items
          c.loop-word.invariant.same;
      room = c.push_reserved.ensures.capacity ∙ c.loop-word.invariant.room;
    }

pub returns-clause-some : goal.returns-clause-some
returns-clause-some c = all_numbers c.loop-word.numbers.items (runs c.loop-word.rest.now) (runs c.args.line.now)
    c.in_default.ensures.words c.loop-word.invariant.same
