use Rattle.om_document.proofs.Sorting.{sorted_permutes, sorted_rises}
use Rattle.om_document.proofs.laws.sorting_keeps_members.Goals as goal

pub returns-clause-same : goal.returns-clause-same
returns-clause-same c = sorted_permutes

pub returns-clause-order : goal.returns-clause-order
returns-clause-order c = sorted_rises
