use Rattle.std.proofs.Common.{arith}
use Rattle.std.proofs.Math.Nat.{le_refl, le_trans}
use Rattle.om_classification.proofs.Bytes.{loop_going, loop_outcome, loop_ends}
use Rattle.om_port.proofs.Taking.{rose_before}
use Rattle.om_classification.proofs.run.take_bytes.Goals as goal

pub loop-byte-init : goal.loop-byte-init
loop-byte-init g c = record {
  going = λ r all rest first h. h;
  ready = c.requires.ready;
  later = le_refl _;
}

pub loop-byte-preserved : goal.loop-byte-preserved
loop-byte-preserved g c = record {
  going = λ r all rest first h.
      loop_going r all c.loop-byte.cutter c.take_byte.new.cutter c.loop-byte.progress c.take_byte.new.progress
      c.args.bytes.now rest c.loop-byte.byte-index c.take_byte.result first
      (g.K.Sink.taken c.loop-byte.sink) (g.K.Sink.taken c.take_byte.new.sink) (omega arith) c.in-Done.is
      (c.loop-byte.invariant.going r all rest first h) (λ a more o. c.take_byte.ensures.outcome r a more o);
  ready = c.take_byte.ensures.again c.in-Done.is;
  later = le_trans c.loop-byte.invariant.later c.take_byte.ensures.later;
}

pub returns-in_default-clause-outcome : goal.returns-in_default-clause-outcome
returns-in_default-clause-outcome g c = λ r all rest first h.
    loop_outcome r all c.loop-byte.cutter c.take_byte.new.cutter c.loop-byte.progress c.take_byte.new.progress
    c.args.bytes.now rest c.loop-byte.byte-index c.take_byte.result first
    (g.K.Sink.taken c.loop-byte.sink) (g.K.Sink.taken c.take_byte.new.sink) (omega arith) c.in_default.not-Done
    (c.loop-byte.invariant.going r all rest first h) (λ a more o. c.take_byte.ensures.outcome r a more o)

pub returns-in_default-clause-write : goal.returns-in_default-clause-write
returns-in_default-clause-write g c = λ cut.
    rose_before _ _ _ c.loop-byte.invariant.later (c.take_byte.ensures.write cut)

pub returns-in_default-clause-later : goal.returns-in_default-clause-later
returns-in_default-clause-later g c = le_trans c.loop-byte.invariant.later c.take_byte.ensures.later

pub returns-clause-outcome : goal.returns-clause-outcome
returns-clause-outcome g c = λ r all rest first h.
    loop_ends r all c.loop-byte.cutter c.loop-byte.progress c.args.bytes.now rest c.loop-byte.byte-index first
    (g.K.Sink.taken c.loop-byte.sink)
    (omega arith) (c.loop-byte.invariant.going r all rest first h)
