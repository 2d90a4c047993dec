use Rattle.std.proofs.Common.{◌∙◌, ap}
use Rattle.om_subsets.specs.Sets.{set_and_later}
use Rattle.om_subsets.proofs.Table.{choose_above, choose_most}
use Rattle.om_subsets.proofs.Sets.{length-all_sets, no_sets, all_sets_from_first}
use Rattle.om_subsets.proofs.subset.Subset.all.Goals as goal
use Rattle.om_subsets.proofs.subset.Subset.all.Goals.{then-r-n, else-r-n}

pub returns-clause-sets : goal.returns-clause-sets
returns-clause-sets c = elim c.if-r-n.branch [
  | then-r-n w ↦ ap set_and_later w.result-is
      ∙ all_sets_from_first c.args.n c.args.r _ w.first.ensures.n w.first.ensures.size w.first.ensures.place
  | else-r-n w ↦ ap set_and_later w.result-is
      ∙ no_sets c.args.n c.args.r (choose_above c.args.n c.args.r w.if-r-n.false)
]

pub returns-clause-few : goal.returns-clause-few
returns-clause-few c = rw (returns-clause-sets c, length-all_sets c.args.n c.args.r)
    (choose_most c.args.n c.args.r c.requires)
