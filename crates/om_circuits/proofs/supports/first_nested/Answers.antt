use Rattle.om_circuits.proofs.DecisionLaws.{all_unnested, nested_found, some_nested}
use Rattle.om_circuits.proofs.supports.first_nested.Goals as goal

pub returns-in_err-i-clause-none : goal.returns-in_err-i-clause-none
returns-in_err-i-clause-none g c = rw c.from_residual.ensures (all_unnested c.args.members.now c.in_err-i.ensures)

pub returns-clause-first : goal.returns-clause-first
returns-clause-first g c = nested_found c.args.members.now c.in_ok-i.i c.in_ok-j.j c.index-members-i.result
    c.index-members-i.is c.in_ok-i.ensures c.in_ok-j.ensures.first

pub bounds-members-i : goal.bounds-members-i
bounds-members-i g c = c.in_ok-i.ensures.below

pub returns-in_err-j : goal.returns-in_err-j
returns-in_err-j g c = absurd
    (some_nested c.args.members.now c.in_ok-i.i c.index-members-i.result c.index-members-i.is c.in_ok-i.ensures
    c.in_err-j.ensures.none)
