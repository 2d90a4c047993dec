use Rattle.std.proofs.Common.{refl, rules, tests}
use Rattle.om_rows.proofs.ColumnSums.{product_sum, summed}
use Rattle.om_rows.proofs.products.dot.Goals as goal

pub returns : goal.returns
returns c =
    summed _ _ _ _ _ c.ok_or.ensures.value refl c.exact_sum-sum.ensures
    (product_sum c.args.row.now c.args.column _ _ _ _ _ (record { sfits = c.entry.type_inv })
    (record { sfits = c.entry-2.type_inv }) (record { sfits = c.entry-3.type_inv })
    (record { sfits = c.entry-4.type_inv }) c.entry.ensures c.entry-2.ensures c.entry-3.ensures c.entry-4.ensures
    (search (rules, tests)))
