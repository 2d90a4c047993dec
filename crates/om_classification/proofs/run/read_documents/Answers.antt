use Rattle.std.proofs.Common.{rules, arith}
use Rattle.std.proofs.Math.Nat.{le_refl, le_trans}
use Rattle.om_port.proofs.Taking.{all_taken, none_taken, rose_before, taken_more, taken_still, takes_none}
use Rattle.om_classification.proofs.Reached.{reach_end, reach_further, reach_no_memory, reach_nothing, reach_read_fault}
use Rattle.om_classification.proofs.Reached.{reach_start, reach_stops_later}
use Rattle.om_classification.proofs.run.read_documents.Goals as goal

pub loop-turn-init : goal.loop-turn-init
loop-turn-init g c = record {
  reached = reach_start c.args.request _ _ _ _ c.new-cutter.ensures c.in-Ok.ensures;
  source_ready = c.requires.source_ready;
  sink_ready = c.requires.sink_ready;
  some = takes_none _;
  source_later = le_refl _;
  sink_later = le_refl _;
}

pub loop-turn-preserved : goal.loop-turn-preserved
loop-turn-preserved g c = record {
  reached = reach_further c.args.request _ _ _ _ (g.S.Source.left c.args.source.now) _ _ _ _ _ _ _
      c.loop-turn.invariant.reached c.in-Ok-read.ensures.bytes.0 c.in-Done.is
      (λ a more first. c.take_bytes.ensures.outcome c.args.request a more first);
  source_ready = c.in-Ok-read.ensures.again (omega arith);
  sink_ready = c.take_bytes.ensures.again c.in-Done.is;
  some = taken_more _ _ _ _ c.loop-turn.invariant.some c.in-Ok-read.ensures.bytes.0;
  source_later = le_trans c.loop-turn.invariant.source_later c.in-Ok-read.ensures.cause.later;
  sink_later = le_trans c.loop-turn.invariant.sink_later c.take_bytes.ensures.later;
}

pub returns-in-Ok-eq0 : goal.returns-in-Ok-eq0
returns-in-Ok-eq0 g c =
    let left = g.S.Source.left c.args.source.now in
    let empty = none_taken _ _ _ _ c.in-Ok-eq0.field-0-test c.in-Ok-eq0.ensures.bytes.0 in
    let end = c.in-Ok-eq0.ensures.bytes.1 c.in-Ok-eq0.field-0-test (omega arith) in
    record {
      answer = reach_end c.args.request _ _ left _ _ _ _ _ _ c.loop-turn.invariant.reached empty end
          (λ a first. c.take_end.ensures.outcome c.args.request a first);
      no_usage = search rules;
      read = search rules;
      write = λ cut. rose_before _ _ _ c.loop-turn.invariant.sink_later (c.take_end.ensures.write cut);
      taken = λ done. all_taken _ _ _ c.loop-turn.invariant.some empty end;
      prefix = taken_more _ _ _ _ c.loop-turn.invariant.some empty;
      source_later = le_trans c.loop-turn.invariant.source_later c.in-Ok-eq0.ensures.cause.later;
      sink_later = le_trans c.loop-turn.invariant.sink_later c.take_end.ensures.later;
    }

pub returns-in_default-clause-answer : goal.returns-in_default-clause-answer
returns-in_default-clause-answer g c = reach_nothing c.args.request (g.S.Source.left c.args.source.now) _

pub returns-in_default-take_bytes : goal.returns-in_default-take_bytes
returns-in_default-take_bytes g c =
    let left = g.S.Source.left c.args.source.now in
    record {
      answer = reach_stops_later c.args.request _ _ _ _ left _ _ _ _ _ _ _ c.loop-turn.invariant.reached
          c.in-Ok-read.ensures.bytes.0 c.in_default-take_bytes.not-Done
          (λ a more first. c.take_bytes.ensures.outcome c.args.request a more first);
      no_usage = c.take_bytes.ensures.no_usage;
      read = λ fault. absurd (c.take_bytes.ensures.no_read fault);
      write = λ cut. rose_before _ _ _ c.loop-turn.invariant.sink_later (c.take_bytes.ensures.write cut);
      taken = λ done. absurd (c.in_default-take_bytes.not-Done done);
      prefix = taken_more _ _ _ _ c.loop-turn.invariant.some c.in-Ok-read.ensures.bytes.0;
      source_later = le_trans c.loop-turn.invariant.source_later c.in-Ok-read.ensures.cause.later;
      sink_later = le_trans c.loop-turn.invariant.sink_later c.take_bytes.ensures.later;
    }

pub returns-in-Err : goal.returns-in-Err
returns-in-Err g c = record {
  answer = reach_read_fault c.args.request _ _ (g.S.Source.left c.args.source.now) _ _ _ c.loop-turn.invariant.reached;
  no_usage = search rules;
  read = λ fault. rose_before _ _ _ c.loop-turn.invariant.source_later c.in-Err.ensures.cause.failed;
  write = search rules;
  taken = search rules;
  prefix = taken_still _ _ _ c.loop-turn.invariant.some c.in-Err.ensures.bytes;
  source_later = le_trans c.loop-turn.invariant.source_later c.in-Err.ensures.cause.later;
  sink_later = c.loop-turn.invariant.sink_later;
}

pub returns-clause-answer : goal.returns-clause-answer
returns-clause-answer g c =
    reach_no_memory c.args.request _ _ (g.S.Source.left c.args.source.now) _ _ _ c.loop-turn.invariant.reached
