use Rattle.std.proofs.Common.{[], subst, sym, ◌∙◌}
use Rattle.std.proofs.Math.Nat.{le_refl, le_trans}
use Rattle.std.proofs.lemmas.Bool.{true≢false}
use Rattle.om_program.specs.Meaning.{TaskMeans}
use Rattle.om_pieces.specs.Making.{made}
use Rattle.om_program.specs.Answered.{Stops}
use Rattle.om_program.proofs.Chaining.{stops_at_once}
use Rattle.om_port.proofs.Taking.{rose_before}
use Rattle.om_program.proofs.Steps.{answered_replied, end_answers, end_breaks, end_breaks_later, end_stops}
use Rattle.om_program.proofs.FaultLaws.{no_memory_ne_usage, no_memory_ne_read_fault, no_memory_ne_write_fault}
use Rattle.om_program.proofs.piece_answers.answer_end.Goals as goal

pub answer_next-requires : goal.answer_next-requires
answer_next-requires g c =
    let answered = c.is_answered.ensures.0 c.if-is_answered.true in
    let first = c.answer_next-status.ensures in
    let replied = answered_replied _ answered first.no_usage in
    (c.type_bounds.sync-R, (c.requires.lawful, (c.requires.reading, (first.again answered, replied))))

pub returns-then-is_answered : goal.returns-then-is_answered
returns-then-is_answered g c = record {
  answer = λ answered. end_answers (TaskMeans c.args.task.now) c.args.cutter.now c.end.new.self _ _ _ _ _ _ _ _
      c.in-Ok.ensures.taken c.rest.ensures.piece (c.answer_next-status.ensures.answer
      (c.is_answered.ensures.0 c.if-is_answered.true)) (c.answer_next.ensures.answer answered);
  memory = λ memory. subst (λ k. Stops (TaskMeans c.args.task.now) (made c.args.cutter.now [])
      (g.K.Sink.taken c.args.sink.now) (g.K.Sink.taken k)) (sym (c.answer_next.ensures.untouched memory)) (end_stops
      (TaskMeans c.args.task.now) c.args.cutter.now c.end.new.self _ _ _ _ _ c.in-Ok.ensures.taken
      (c.answer_next-status.ensures.answer (c.is_answered.ensures.0 c.if-is_answered.true)));
  cut = λ cut. end_breaks_later (TaskMeans c.args.task.now) c.args.cutter.now c.end.new.self _ _ _ _ _ _ _
      c.in-Ok.ensures.taken c.rest.ensures.piece (c.answer_next-status.ensures.answer
      (c.is_answered.ensures.0 c.if-is_answered.true)) (c.answer_next.ensures.cut cut);
  no_usage = c.answer_next.ensures.no_usage;
  no_read = c.answer_next.ensures.no_read;
  write = λ cut. rose_before _ _ _ c.answer_next-status.ensures.later (c.answer_next.ensures.write cut);
  later = le_trans c.answer_next-status.ensures.later c.answer_next.ensures.later;
}

pub returns-else-is_answered : goal.returns-else-is_answered
returns-else-is_answered g c = record {
  answer = λ answered. absurd (true≢false (sym (c.is_answered.ensures.1 answered) ∙ c.if-is_answered.false));
  memory = λ memory. subst (λ k. Stops (TaskMeans c.args.task.now) (made c.args.cutter.now [])
      (g.K.Sink.taken c.args.sink.now) (g.K.Sink.taken k)) (sym (c.answer_next-status.ensures.untouched memory))
      (stops_at_once (TaskMeans c.args.task.now) (made c.args.cutter.now []) (g.K.Sink.taken c.args.sink.now));
  cut = λ cut. end_breaks (TaskMeans c.args.task.now) c.args.cutter.now c.end.new.self _ _ _ c.in-Ok.ensures.taken
      (c.answer_next-status.ensures.cut cut);
  no_usage = c.answer_next-status.ensures.no_usage;
  no_read = c.answer_next-status.ensures.no_read;
  write = c.answer_next-status.ensures.write;
  later = c.answer_next-status.ensures.later;
}

pub returns-in-Err : goal.returns-in-Err
returns-in-Err g c = record {
  answer = λ answered. absurd answered;
  memory = λ memory. stops_at_once (TaskMeans c.args.task.now) (made c.args.cutter.now [])
      (g.K.Sink.taken c.args.sink.now);
  cut = λ cut. absurd (no_memory_ne_write_fault cut);
  no_usage = no_memory_ne_usage;
  no_read = no_memory_ne_read_fault;
  write = λ cut. absurd (no_memory_ne_write_fault cut);
  later = le_refl _;
}

pub answer_next-status-requires : goal.answer_next-status-requires
answer_next-status-requires g c = (
  c.type_bounds.sync-R,
  (c.requires.lawful, (c.requires.reading, (c.requires.ready, c.requires.before))),
)
