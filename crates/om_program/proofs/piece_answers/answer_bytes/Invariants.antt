use Rattle.std.proofs.Common.{ℕ, ◌≤◌, ◌++◌, List, drop}
use Rattle.om_program.specs.Meaning.{TaskMeans}
use Rattle.om_reply.specs.Statuses.{IsReplied}
use Rattle.om_pieces.specs.Making.{completed, made}
use Rattle.om_program.specs.Answered.{GoesOn}
use Rattle.om_program.proofs.piece_answers.answer_bytes.Given as goal

abbrev pub invariant-loop-byte : goal.invariant-loop-byte
invariant-loop-byte g l = record {
  answered : (rest : List ℕ) → GoesOn (TaskMeans l.task) (made l.initial.cutter (l.bytes ++ rest))
      (made l.cutter (drop l.byte-index l.bytes ++ rest)) l.fn.before l.status (g.K.Sink.taken l.initial.sink)
      (g.K.Sink.taken l.sink);
  prompt : (rest : List ℕ) → GoesOn (TaskMeans l.task) (completed l.initial.cutter (l.bytes ++ rest))
      (completed l.cutter (drop l.byte-index l.bytes ++ rest)) l.fn.before l.status (g.K.Sink.taken l.initial.sink)
      (g.K.Sink.taken l.sink);
  replied : IsReplied l.status;
  ready : g.K.Sink.ready l.sink;
  later : g.K.Sink.faults l.initial.sink ≤ g.K.Sink.faults l.sink;
}
