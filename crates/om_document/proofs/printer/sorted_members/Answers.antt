use Rattle.std.proofs.Common.{subst}
use Rattle.std.specs.List.Sorted.{IsPermutation}
use Rattle.om_document.proofs.Sorting.{sorted_is}
use Rattle.om_document.proofs.printer.sorted_members.Goals as goal

pub returns : goal.returns
returns c = sorted_is c.args.members.now c.sort.new.self.items
    (subst (λ xs. IsPermutation xs c.sort.new.self.items) c.in_ok-rows.ensures.items c.sort.ensures.permutation)
    c.in_ok-sort.ensures.sorted
