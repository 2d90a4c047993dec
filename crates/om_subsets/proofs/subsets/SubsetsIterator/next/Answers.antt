use Rattle.std.proofs.Common.{◌∙◌, ap, sym, arith, length}
use Rattle.om_subsets.specs.Sets.{set_and_later}
use Rattle.om_subsets.proofs.Sets.{later_sets}
use Rattle.om_subsets.proofs.subsets.SubsetsIterator.next.Goals as goal

pub returns-clause-steps : goal.returns-clause-steps
returns-clause-steps c =
    sym c.self.view_is ∙ ap set_and_later c.in_ok-set.was
    ∙ later_sets c.in_ok-set.set c.next-self-inside.result c.next-self-inside.ensures.here
    c.next-self-inside.ensures.none.0 c.next-self-inside.ensures.n c.next-self-inside.ensures.size
    c.next-self-inside.ensures.rank

pub returns-clause-goes : goal.returns-clause-goes
returns-clause-goes c =
    let e = ap length (returns-clause-steps c) in
    record { on = λ _. (tt, tt, omega (arith, e)); keeps = tt; rests = λ _. tt }
