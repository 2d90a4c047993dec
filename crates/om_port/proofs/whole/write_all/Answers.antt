use Rattle.std.proofs.Common.{arith, ◌<◌, ◌-◌, length, take, drop}
use Rattle.om_port.proofs.Known.{write_step, length_rest}
use Rattle.om_port.proofs.whole.write_all.Goals as goal

pub loop-written-preserved : goal.loop-written-preserved
loop-written-preserved g c =
    let room = length_rest c.args.bytes.now c.loop-written.written in
    let some : 0 < length (take (length c.args.bytes.now - c.loop-written.written)
    (drop c.loop-written.written c.args.bytes.now)) = omega arith in
    record {
      within = omega (arith, c.in-Ok.ensures.bound);
      taken =
          write_step _ _ _ c.args.bytes.now c.loop-written.written c.in-Ok.count c.loop-written.invariant.taken
          c.in-Ok.ensures.bytes;
      ready = c.in-Ok.ensures.again (c.in-Ok.ensures.some some);
      later = omega (arith, c.in-Ok.ensures.cause.later);
    }
