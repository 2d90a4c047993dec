use Rattle.std.proofs.Common.{sym, arith}
use Rattle.om_denotation.proofs.ChirotopeBridge.{increasing_subset}
use Rattle.om_denotation.proofs.ListingSigns.{listing_none, listing_turn, listing_end}
use Rattle.om_denotation.proofs.duality.listing_sign.Goals as goal

pub loop-e-init : goal.loop-e-init
loop-e-init c =
    sym (listing_none c.args.s.elements (increasing_subset c.args.s.n c.args.s.elements c.n-e-end.ensures.lawful))

pub loop-e-preserved : goal.loop-e-preserved
loop-e-preserved c = listing_turn c.args.s.n c.loop-e.e c.args.s.elements c.loop-e.sign c.moving_sign.result
    c.times-sign.result c.loop-e.auto.e c.n-e-end.ensures.lawful c.loop-e.invariant c.moving_sign.ensures
    c.times-sign.ensures

pub returns : goal.returns
returns c =
    let over = c.loop-e-test.false in
    let most = c.loop-e.auto.e-end in
    let end = c.n-e-end.ensures.value in
    let low = c.loop-e.auto.e in
    listing_end c.args.s.n c.loop-e.e c.args.s.elements c.loop-e.sign (omega arith) c.loop-e.invariant
