use Rattle.om_subsets.specs.Subsets.{count_above}
use Rattle.om_chirotope.proofs.Circuits.{parities_same, parities_differ}
use Rattle.om_chirotope.proofs.SortedTuples.{before_even, before_odd}
use Rattle.om_chirotope.proofs.vectors.sorting_sign.Goals as goal

pub returns-then-size-odd_after : goal.returns-then-size-odd_after
returns-then-size-odd_after c =
    before_even 1 c.args.set.n c.args.e c.size-size.result c.args.set.elements c.size-size.ensures.lawful c.requires.new
    c.size-size.ensures.value
    (parities_same c.size-size.result (count_above c.args.e c.args.set.elements) c.odd_after.result c.odd_after.ensures
    c.if-size-odd_after.true)

pub returns-else-size-odd_after : goal.returns-else-size-odd_after
returns-else-size-odd_after c =
    before_odd 1 c.args.set.n c.args.e c.size-size.result c.args.set.elements c.size-size.ensures.lawful c.requires.new
    c.size-size.ensures.value
    (parities_differ c.size-size.result (count_above c.args.e c.args.set.elements) c.odd_after.result
    c.odd_after.ensures c.if-size-odd_after.false)
