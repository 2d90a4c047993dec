use Rattle.std.proofs.Common.{◌+◌, arith}
use Rattle.std.proofs.lemmas.List.{length-take}
use Rattle.om_port.proofs.Known.{Consumes-then, another_read, taken_kept, taken_none, taken_exactly, taken_at_most}
use Rattle.om_port.proofs.PlannedReads.{within}
use Rattle.om_port.proofs.whole.read_all.Goals as goal

pub returns-in-Err-clause-few : goal.returns-in-Err-clause-few
returns-in-Err-clause-few g c = λ _.
    (_, taken_kept _ _ _ _ c.loop-bytes.invariant.taken c.in-Err.ensures.bytes, c.loop-bytes.invariant.few)

pub returns-in-Err-clause-prefix : goal.returns-in-Err-clause-prefix
returns-in-Err-clause-prefix g c = (_, taken_kept _ _ _ _ c.loop-bytes.invariant.taken c.in-Err.ensures.bytes)

pub returns-in-Ok-eq0-clause-ok : goal.returns-in-Ok-eq0-clause-ok
returns-in-Ok-eq0-clause-ok g c = taken_none _ _ _ _ c.read.new.buf _ c.loop-bytes.invariant.taken
    c.in-Ok-eq0.ensures.bytes.0 c.in-Ok-eq0.field-0-test

pub returns-in-Ok-eq0-clause-few : goal.returns-in-Ok-eq0-clause-few
returns-in-Ok-eq0-clause-few g c = λ _. (_, returns-in-Ok-eq0-clause-ok g c, c.loop-bytes.invariant.few)

pub returns-in-Ok-eq0-clause-prefix : goal.returns-in-Ok-eq0-clause-prefix
returns-in-Ok-eq0-clause-prefix g c = (_, returns-in-Ok-eq0-clause-ok g c)

pub returns-then-is_err-clause-prefix : goal.returns-then-is_err-clause-prefix
returns-then-is_err-clause-prefix g c =
    (_, Consumes-then _ _ _ _ _ c.loop-bytes.invariant.taken c.in-Ok.ensures.bytes.0)

pub returns-then-count-room-clause-prefix : goal.returns-then-count-room-clause-prefix
returns-then-count-room-clause-prefix g c =
    (_, Consumes-then _ _ _ _ _ c.loop-bytes.invariant.taken c.in-Ok.ensures.bytes.0)

pub returns-then-count-room-clause-long : goal.returns-then-count-room-clause-long
returns-then-count-room-clause-long g c = λ _.
    taken_exactly _ _ _ _ _ c.in-Ok.count (c.args.limit + 1) c.loop-bytes.invariant.taken c.in-Ok.ensures.bytes.0
    c.in-Ok.ensures.bound.0
    (omega (arith, c.loop-bytes.bytes.ok, c.len.ensures, c.if-count-room.true, c.loop-bytes.invariant.few))

pub returns-then-is_err-clause-few : goal.returns-then-is_err-clause-few
returns-then-is_err-clause-few g c = λ _.
    taken_at_most _ _ _ _ _ c.in-Ok.count c.args.limit c.loop-bytes.invariant.taken c.in-Ok.ensures.bytes.0
    c.in-Ok.ensures.bound.0
    (within _ c.args.limit c.len.result c.min-piece.result c.in-Ok.count c.loop-bytes.invariant.few
    (omega (arith, c.loop-bytes.bytes.ok, c.len.ensures)) c.min-piece.ensures
    (omega (arith, c.in-Ok.ensures.bound, length-take c.min-piece.result c.loop-bytes.buf)) c.if-count-room.false)

pub loop-bytes-preserved : goal.loop-bytes-preserved
loop-bytes-preserved g c =
    let read = another_read _ _ _ c.loop-bytes.bytes.items c.extend_from_slice.new.self.items c.read.new.buf _
    c.in-Ok.count c.loop-bytes.invariant.taken c.in-Ok.ensures.bytes.0 c.in-Ok.ensures.bound.0
    (rw c.if-is_err.ensures.negation at c.extend_from_slice.ensures.items) in
    let fits = within _ c.args.limit c.len.result c.min-piece.result c.in-Ok.count c.loop-bytes.invariant.few
    (omega (arith, c.loop-bytes.bytes.ok, c.len.ensures)) c.min-piece.ensures
    (omega (arith, c.in-Ok.ensures.bound, length-take c.min-piece.result c.loop-bytes.buf)) c.if-count-room.false in
    record {
      few = omega (arith, read.size, fits);
      taken = read.taken;
      ready = c.in-Ok.ensures.again (omega (arith, c.in-Ok.count-test.1));
      later = omega (arith, c.loop-bytes.invariant.later, c.in-Ok.ensures.cause.later);
    }

pub loop-bytes-smaller : goal.loop-bytes-smaller
loop-bytes-smaller g c =
    let read = another_read _ _ _ c.loop-bytes.bytes.items c.extend_from_slice.new.self.items c.read.new.buf _
    c.in-Ok.count c.loop-bytes.invariant.taken c.in-Ok.ensures.bytes.0 c.in-Ok.ensures.bound.0
    (rw c.if-is_err.ensures.negation at c.extend_from_slice.ensures.items) in
    omega (arith, read.size, c.in-Ok.count-test.1, c.loop-bytes.invariant.few)

pub returns-then-count-room-clause-again : goal.returns-then-count-room-clause-again
returns-then-count-room-clause-again g c = λ _. c.in-Ok.ensures.again (omega (arith, c.in-Ok.count-test.1))

pub returns-then-is_err-clause-again : goal.returns-then-is_err-clause-again
returns-then-is_err-clause-again g c = λ _. c.in-Ok.ensures.again (omega (arith, c.in-Ok.count-test.1))

pub read-requires-clause-room : goal.read-requires-clause-room
read-requires-clause-room g c = omega (arith, length-take c.min-piece.result c.loop-bytes.buf)

pub returns-in-Ok-eq0-clause-end : goal.returns-in-Ok-eq0-clause-end
returns-in-Ok-eq0-clause-end g c = c.in-Ok-eq0.ensures.bytes.1 c.in-Ok-eq0.field-0-test
    (omega (arith, length-take c.min-piece.result c.loop-bytes.buf, c.read.auto.buf))
