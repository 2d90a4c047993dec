use Rattle.std.proofs.Common.{◌≤◌}
use Rattle.om_port.specs.Causes.{TakesSome}
use Rattle.om_classification.proofs.Reached.{Reaches}
use Rattle.om_classification.proofs.run.read_documents.Given as goal

abbrev pub invariant-loop-turn : goal.invariant-loop-turn
invariant-loop-turn g l = record {
  reached : Reaches l.fn.request (g.S.Source.left l.initial.source) l.cutter l.progress (g.S.Source.left l.source)
      (g.K.Sink.taken l.initial.sink) (g.K.Sink.taken l.sink);
  source_ready : g.S.Source.ready l.source;
  sink_ready : g.K.Sink.ready l.sink;
  some : TakesSome (g.S.Source.left l.initial.source) (g.S.Source.left l.source);
  source_later : g.S.Source.faults l.initial.source ≤ g.S.Source.faults l.source;
  sink_later : g.K.Sink.faults l.initial.sink ≤ g.K.Sink.faults l.sink;
}
