use Rattle.std.proofs.Common.{ℕ, ◌≤◌, ◌++◌, List, Option, drop}
use Rattle.om_pieces.specs.Making.{made}
use Rattle.om_classification.specs.declared.request.Request.{Request}
use Rattle.om_classification.specs.Answers.{IsGoing}
use Rattle.om_classification.proofs.run.take_bytes.Given as goal

abbrev pub invariant-loop-byte : goal.invariant-loop-byte
invariant-loop-byte g l = record {
  going : (r : Request) (all : List (List ℕ)) (rest : List ℕ) (first : Option (List ℕ))
      → IsGoing r all l.initial.progress (made l.initial.cutter (l.bytes ++ rest)) first
      (g.K.Sink.taken l.initial.sink)
      → IsGoing r all l.progress (made l.cutter (drop l.byte-index l.bytes ++ rest)) first (g.K.Sink.taken l.sink);
  ready : g.K.Sink.ready l.sink;
  later : g.K.Sink.faults l.initial.sink ≤ g.K.Sink.faults l.sink;
}
