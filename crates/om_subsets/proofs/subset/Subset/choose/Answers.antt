use Rattle.std.proofs.Common.{sym}
use Rattle.om_subsets.proofs.Table.{table_entry, choose_above, choose_most}
use Rattle.om_subsets.proofs.subset.Subset.choose.Goals as goal

pub returns-then-r-n-clause-value : goal.returns-then-r-n-clause-value
returns-then-r-n-clause-value c = sym (choose_above _ _ c.if-r-n.true)

pub returns-clause-value : goal.returns-clause-value
returns-clause-value c = table_entry _ _ _ _ c.requires c.if-r-n.false

pub returns-clause-most : goal.returns-clause-most
returns-clause-most c = rw (table_entry c.args.n c.args.r _ _ c.requires c.if-r-n.false)
    (choose_most c.args.n c.args.r c.requires)
