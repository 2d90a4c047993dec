use Rattle.std.proofs.Common.{below_more, arith}
use Rattle.om_subsets.proofs.Firsts.{least_first, last_first, none_at_zero}
use Rattle.om_subsets.proofs.subset.Subset.least.Goals as goal

pub loop-e-init : goal.loop-e-init
loop-e-init c = λ k l. none_at_zero c.args.self.n k c.args.self.elements c.n-last.ensures.lawful l

pub returns-then-has-clause-first : goal.returns-then-has-clause-first
returns-then-has-clause-first c =
    least_first c.args.self.n c.loop-e.e c.args.self.elements c.n-last.ensures.lawful (c.has.ensures.0 c.if-has.true)
    c.loop-e.invariant

pub loop-e-preserved : goal.loop-e-preserved
loop-e-preserved c = below_more _ _ c.loop-e.invariant (λ m. let t = c.has.ensures.1 m in cc)

pub returns-clause-first : goal.returns-clause-first
returns-clause-first c =
    let end = c.loop-e-test.false in
    rw c.n-last.ensures.value
    (last_first c.args.self.n c.args.self.elements c.n-last.ensures.lawful c.requires
    (λ k l. c.loop-e.invariant k (omega arith)))
