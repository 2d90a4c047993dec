use Rattle.std.proofs.Common.{arith}
use Rattle.om_oriented.proofs.Walks.{all_minus}
use Rattle.om_oriented.proofs.walk.least.Goals as goal

pub returns : goal.returns
returns c =
    let over = c.loop-e-test.false in
    all_minus c.args.length c.loop-e.x c.loop-e.invariant.0 (λ k lt. c.loop-e.invariant.1 k (omega arith))
