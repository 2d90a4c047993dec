use Rattle.om_rows.proofs.RatioOrder.{ratios_in_order}
use Rattle.om_rows.proofs.ratios.compare_ratios.Goals as goal

pub returns : goal.returns
returns c =
    let r = c.ranges in
    let h = c.requires in
    ratios_in_order c.compare_products.result c.args.a c.args.b c.args.c c.args.d r.a r.b r.c r.d h.a h.b h.c h.d
    c.compare_products.ensures
