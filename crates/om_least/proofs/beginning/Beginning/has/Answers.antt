use Rattle.std.proofs.Common.{◌≤◌, refl, length, arith}
use Rattle.std.proofs.lemmas.Bool.{false≢true}
use Rattle.om_least.proofs.Tuples.{listed_at, not_listed}
use Rattle.om_least.proofs.beginning.Beginning.has.Goals as goal

pub returns-then-self-i : goal.returns-then-self-i
returns-then-self-i c =
    let few = c.self.invariant.few in
    let whole = c.self.invariant.whole in
    let l : c.self.inside.len ≤ length c.self.inside.table = omega (arith, few, whole) in (
      λ t. listed_at c.self.inside.table c.args.self.now c.self.inside.len c.args.element c.self.view_is l c.loop-i.i
          c.loop-i-test.true c.if-self-i.true,
      λ m. refl,
    )

pub returns : goal.returns
returns c =
    let few = c.self.invariant.few in
    let whole = c.self.invariant.whole in
    let l : c.self.inside.len ≤ length c.self.inside.table = omega (arith, few, whole) in
    let over = c.loop-i-test.false in (
      λ t. absurd (false≢true t),
      λ m. absurd (not_listed c.self.inside.table c.args.self.now c.self.inside.len c.args.element c.self.view_is l
          (λ i lt. c.loop-i.invariant i (omega (arith, lt, over))) m),
    )
