use Rattle.om_covectors.proofs.DecisionLaws.{all_composed, uncomposed_found, some_uncomposed}
use Rattle.om_covectors.proofs.closure.first_uncomposed.Goals as goal

pub returns-in_err-i-clause-none : goal.returns-in_err-i-clause-none
returns-in_err-i-clause-none g c = rw c.from_residual.ensures (all_composed c.args.members.now c.in_err-i.ensures)

pub returns-in_err-j-clause-none : goal.returns-in_err-j-clause-none
returns-in_err-j-clause-none g c =
    absurd (some_uncomposed c.args.members.now c.in_ok-i.i c.index-members-i.result c.index-members-i.is
    c.in_ok-i.ensures c.in_err-j.ensures.none)

pub returns-clause-first : goal.returns-clause-first
returns-clause-first g c = uncomposed_found c.args.members.now c.in_ok-i.i c.in_ok-j.j c.index-members-i.result
    c.index-members-i.is c.in_ok-i.ensures c.in_ok-j.ensures.first

pub bounds-members-i : goal.bounds-members-i
bounds-members-i g c = c.in_ok-i.ensures.below
