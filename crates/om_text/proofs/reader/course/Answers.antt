use Rattle.std.proofs.Common.{refl, sym, subst, ◌+◌, arith}
use Rattle.om_text.specs.ReaderParts.{IsStateInRange}
use Rattle.om_document.proofs.Printing.{not_empty, no_bytes}
use Rattle.om_text.proofs.Small.{advance_small}
use Rattle.om_text.proofs.ReadLines.{IsRead, read_start, read_more, read_part}
use Rattle.om_text.proofs.Part.{whole_refused, front_refused, whole_document, other_state, whole_unfinished}
use Rattle.om_text.proofs.Part.{front_unfinished}
use Rattle.om_text.proofs.reader.course.Goals as goal

pub loop-rest-init : goal.loop-rest-init
loop-rest-init c =
    record { read = read_start c.args.bytes.now c.args.stops; unclosed = λ y. refl; count = omega arith; small = tt }

pub returns-in-Err-clause-whole : goal.returns-in-Err-clause-whole
returns-in-Err-clause-whole c =
    λ y. whole_refused c.args.bytes.now c.loop-rest.rest.now c.first_line.result.0.now c.first_line.result.1.now
    c.loop-rest.state c.loop-rest.line c.args.stops c.in-Err.refusal c.at_line.result c.loop-rest.invariant.read
    c.first_line.ensures.lines c.at_line.ensures c.in-Err.ensures

pub returns-in-Err-clause-front : goal.returns-in-Err-clause-front
returns-in-Err-clause-front c =
    λ y. front_refused c.args.bytes.now c.loop-rest.rest.now c.first_line.result.0.now c.first_line.result.1.now
    c.loop-rest.state c.loop-rest.line c.args.stops c.in-Err.refusal c.at_line.result c.loop-rest.invariant.read
    (c.loop-rest.invariant.unclosed y) c.first_line.ensures.lines c.at_line.ensures c.in-Err.ensures

pub returns-in-Err-unless_over-clause-front : goal.returns-in-Err-unless_over-clause-front
returns-in-Err-unless_over-clause-front c = λ y.
    let r = read_more c.args.bytes.now c.loop-rest.rest.now c.first_line.result.0.now c.first_line.result.1.now
    c.loop-rest.state c.in-Ok.next c.loop-rest.line c.args.stops c.loop-rest.invariant.read
    (not_empty _ _ c.is_empty.ensures c.loop-rest-test.true) c.loop-rest.invariant.unclosed
    c.first_line.ensures.lines c.first_line.ensures.split c.in-Ok.ensures in
    read_part c.args.bytes.now c.first_line.result.1.now c.in-Err-unless_over.document (c.loop-rest.line + 1)
    c.args.stops y
    (subst (λ s. IsRead c.args.bytes.now c.first_line.result.1.now s (c.loop-rest.line + 1) c.args.stops)
    c.in-Err-unless_over.ensures.over.1 r)

pub loop-rest-preserved : goal.loop-rest-preserved
loop-rest-preserved c =
    let r = read_more c.args.bytes.now c.loop-rest.rest.now c.first_line.result.0.now c.first_line.result.1.now
    c.loop-rest.state c.in-Ok.next c.loop-rest.line c.args.stops c.loop-rest.invariant.read
    (not_empty _ _ c.is_empty.ensures c.loop-rest-test.true) c.loop-rest.invariant.unclosed
    c.first_line.ensures.lines c.first_line.ensures.split c.in-Ok.ensures in
    let same = sym c.in-Ok-unless_over.ensures.same in
    record {
      read = subst (λ s. IsRead c.args.bytes.now c.first_line.result.1.now s (c.loop-rest.line + 1) c.args.stops) same
          r;
      unclosed = c.in-Ok-unless_over.ensures.unclosed;
      count = omega arith;
      small = subst IsStateInRange same
          (advance_small c.loop-rest.state c.first_line.result.0.now c.in-Ok.next c.loop-rest.invariant.small
          c.in-Ok.ensures);
    }

pub returns-in-Closed-clause-whole : goal.returns-in-Closed-clause-whole
returns-in-Closed-clause-whole c =
    λ y. whole_document c.args.bytes.now c.loop-rest.rest.now c.in-Closed.document c.loop-rest.line 0 c.args.stops
    (subst (λ s. IsRead c.args.bytes.now c.loop-rest.rest.now s c.loop-rest.line c.args.stops) c.in-Closed.is
    c.loop-rest.invariant.read) (no_bytes _ _ c.is_empty.ensures c.loop-rest-test.false)

pub returns : goal.returns
returns c = record {
  whole = λ y. whole_unfinished c.args.bytes.now c.loop-rest.rest.now c.loop-rest.state c.loop-rest.line c.args.stops
      c.loop-rest.invariant.read (other_state c.loop-rest.state c.in_default.not-Closed)
      (no_bytes _ _ c.is_empty.ensures c.loop-rest-test.false);
  front = λ y. front_unfinished c.args.bytes.now c.loop-rest.rest.now c.loop-rest.state c.loop-rest.line c.args.stops
      c.loop-rest.invariant.read (c.loop-rest.invariant.unclosed y)
      (no_bytes _ _ c.is_empty.ensures c.loop-rest-test.false);
}
