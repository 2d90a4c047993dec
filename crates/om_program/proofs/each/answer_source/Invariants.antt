use Rattle.om_port.specs.Causes.{TakesAtLeast}
use Rattle.om_words.specs.Tasks.{reads}
use Rattle.om_words.specs.ReadingCommands.{wanted_ends}
use Rattle.om_reply.specs.Statuses.{IsReplied}
use Rattle.om_program.specs.Meaning.{TaskMeans}
use Rattle.om_program.proofs.Courses.{IsUnderWay}
use Rattle.om_program.proofs.each.answer_source.Given as goal

abbrev pub invariant-loop-turn : goal.invariant-loop-turn
invariant-loop-turn g l = record {
  under_way : IsUnderWay (TaskMeans l.task) (wanted_ends (reads l.task)) l.cutter l.status
      (g.S.Source.left l.initial.source) (g.S.Source.left l.source)
      (g.S.Source.faults l.initial.source) (g.S.Source.faults l.source)
      (g.K.Sink.taken l.initial.sink) (g.K.Sink.taken l.sink)
      (g.K.Sink.faults l.initial.sink) (g.K.Sink.faults l.sink);
  replied : IsReplied l.status;
  source_ready : g.S.Source.ready l.source;
  sink_ready : g.K.Sink.ready l.sink;
  each : TakesAtLeast l._turn (g.S.Source.left l.initial.source) (g.S.Source.left l.source);
}
