use Rattle.std.proofs.Common.{◌∷◌, subst, sym}
use Rattle.om_program.specs.Meaning.{TaskMeans}
use Rattle.om_pieces.specs.Making.{made}
use Rattle.om_program.specs.Answered.{Stops}
use Rattle.om_program.proofs.Steps.{byte_goes, byte_breaks, byte_completes}
use Rattle.om_program.proofs.Chaining.{stops_at_once}
use Rattle.std.proofs.Math.Nat.{le_refl}
use Rattle.om_program.proofs.FaultLaws.{no_memory_ne_usage, no_memory_ne_read_fault, no_memory_ne_write_fault}
use Rattle.om_program.proofs.piece_answers.answer_byte.Goals as goal

pub returns-in-Ok : goal.returns-in-Ok
returns-in-Ok g c = record {
  answer = λ answered rest. byte_goes _ c.args.cutter.now _ _ c.args.byte rest _ _ _ _ c.in-Ok.ensures.taken
      (c.answer_next.ensures.answer answered);
  memory = λ memory rest. subst (λ k. Stops (TaskMeans c.args.task.now) (made c.args.cutter.now (c.args.byte ∷ rest))
      (g.K.Sink.taken c.args.sink.now) (g.K.Sink.taken k)) (sym (c.answer_next.ensures.untouched memory))
      (stops_at_once (TaskMeans c.args.task.now) (made c.args.cutter.now (c.args.byte ∷ rest))
      (g.K.Sink.taken c.args.sink.now));
  cut = λ cut rest. byte_breaks _ c.args.cutter.now _ _ c.args.byte rest _ _ c.in-Ok.ensures.taken
      (c.answer_next.ensures.cut cut);
  no_usage = c.answer_next.ensures.no_usage;
  no_read = c.answer_next.ensures.no_read;
  write = c.answer_next.ensures.write;
  again = c.answer_next.ensures.again;
  later = c.answer_next.ensures.later;
  prompt = λ answered rest. byte_completes _ c.args.cutter.now _ _ c.args.byte rest _ _ _ _ c.in-Ok.ensures.taken
      (c.answer_next.ensures.answer answered);
}

pub returns-in-Err : goal.returns-in-Err
returns-in-Err g c = record {
  answer = λ answered rest. absurd answered;
  memory = λ memory rest. stops_at_once (TaskMeans c.args.task.now) (made c.args.cutter.now (c.args.byte ∷ rest))
      (g.K.Sink.taken c.args.sink.now);
  cut = λ cut rest. absurd (no_memory_ne_write_fault cut);
  no_usage = no_memory_ne_usage;
  no_read = no_memory_ne_read_fault;
  write = λ cut. absurd (no_memory_ne_write_fault cut);
  again = λ answered. absurd answered;
  later = le_refl _;
  prompt = λ answered rest. absurd answered;
}

pub answer_next-requires : goal.answer_next-requires
answer_next-requires g c = (
  c.type_bounds.sync-R,
  (c.requires.lawful, (c.requires.reading, (c.requires.ready, c.requires.before))),
)
