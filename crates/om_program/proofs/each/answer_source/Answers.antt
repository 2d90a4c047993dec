use Rattle.std.proofs.Common.{sym, ap, ◌∙◌, arith}
use Rattle.std.proofs.lemmas.Bool.{true≢false}
use Rattle.std.proofs.lemmas.List.{length-take-le}
use Rattle.om_pieces.specs.Making.{nothing}
use Rattle.om_port.proofs.Known.{taken_at_least}
use Rattle.om_port.proofs.Taking.{takes_none, none_taken}
use Rattle.om_program.proofs.Courses.{begins, goes_on_with, at_end, cut_short, out_of_readings, reading_failed}
use Rattle.om_program.proofs.Steps.{answered_replied}
use Rattle.om_program.proofs.each.answer_source.Goals as goal

pub loop-turn-init : goal.loop-turn-init
loop-turn-init g c = record {
  under_way = begins _ c.new-cutter.result _ _ _ _ _ (c.new-cutter.ensures ∙ ap nothing c.wanted_ends.ensures);
  replied = tt;
  source_ready = c.requires.source_ready;
  sink_ready = c.requires.sink_ready;
  each = let taken = takes_none (g.S.Source.left c.args.source.now) in (taken.0, taken.1, omega arith);
}

pub returns-in-Ok-eq0 : goal.returns-in-Ok-eq0
returns-in-Ok-eq0 g c =
    let does = c.answer_end.ensures in
    let given = c.in-Ok-eq0 in
    at_end c.loop-turn.invariant.under_way (none_taken _ _ _ _ given.field-0-test given.ensures.bytes.0)
    (given.ensures.bytes.1 given.field-0-test (omega arith)) given.ensures.cause.later does.answer does.memory does.cut
    does.no_usage does.no_read does.write does.later

pub returns-then-not-is_answered : goal.returns-then-not-is_answered
returns-then-not-is_answered g c =
    let does = c.answer_bytes-status.ensures in
    let given = c.in-Ok.ensures in
    cut_short _ c.loop-turn.invariant.under_way given.bytes.0 given.cause.later (given.again (omega arith))
    (λ answered. true≢false (sym (c.is_answered.ensures.1 answered) ∙ c.if-not-is_answered.true)) does.memory does.cut
    does.no_usage does.no_read does.write does.later

pub loop-turn-preserved : goal.loop-turn-preserved
loop-turn-preserved g c =
    let so_far = c.loop-turn.invariant in
    let does = c.answer_bytes-status.ensures in
    let given = c.in-Ok.ensures in
    let answered = c.is_answered.ensures.0 c.if-not-is_answered.false in
    record {
      under_way = goes_on_with _ so_far.under_way given.bytes.0 given.cause.later does.later (does.answer answered)
          (does.prompt answered);
      replied = answered_replied _ answered does.no_usage;
      source_ready = given.again (omega arith);
      sink_ready = does.again answered;
      each = taken_at_least _ _ _ _ _ c.in-Ok.count _ so_far.each.1 given.bytes.0 given.bound.0
          (let turns = so_far.each.2 in omega arith);
    }

pub returns : goal.returns
returns g c =
    let so_far = c.loop-turn.invariant in
    out_of_readings so_far.under_way so_far.source_ready
    (so_far.each.0, so_far.each.1, omega (arith, so_far.each.2, c.loop-turn-test.false))

pub returns-in-Err : goal.returns-in-Err
returns-in-Err g c =
    reading_failed c.loop-turn.invariant.under_way c.in-Err.ensures.bytes c.in-Err.ensures.cause.failed
    c.in-Err.ensures.cause.later

pub read-requires-clause-ready : goal.read-requires-clause-ready
read-requires-clause-ready g c = c.loop-turn.invariant.source_ready

pub answer_end-requires : goal.answer_end-requires
answer_end-requires g c =
    let so_far = c.loop-turn.invariant in
    (c.type_bounds.sync-R, (c.requires.lawful, (c.requires.reading, (so_far.sink_ready, so_far.replied))))

pub answer_bytes-status-requires : goal.answer_bytes-status-requires
answer_bytes-status-requires g c =
    let so_far = c.loop-turn.invariant in
    (c.type_bounds.sync-R, (c.requires.lawful, (c.requires.reading, (so_far.sink_ready, so_far.replied))))

pub slice_bounds-chunk-end : goal.slice_bounds-chunk-end
slice_bounds-chunk-end g c = c.in-Ok.ensures.bound.0

pub slice_bounds-answer_bytes-end : goal.slice_bounds-answer_bytes-end
slice_bounds-answer_bytes-end g c = sym (length-take-le c.in-Ok.count c.read.new.buf c.in-Ok.ensures.bound.0)
