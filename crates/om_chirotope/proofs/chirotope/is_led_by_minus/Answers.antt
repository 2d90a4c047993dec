use Rattle.om_chirotope.proofs.Negation.{zero_more, led_here, led_otherwise, led_by_none}
use Rattle.om_chirotope.proofs.chirotope.is_led_by_minus.Goals as goal

pub returns-in-Plus : goal.returns-in-Plus
returns-in-Plus c =
    led_otherwise c.args.signs.now c.loop-sign.sign-index _ c.loop-sign.invariant c.loop-sign-test.true c.in-Plus.is

pub returns-in-Minus : goal.returns-in-Minus
returns-in-Minus c =
    led_here c.args.signs.now c.loop-sign.sign-index _ c.loop-sign.invariant c.loop-sign-test.true c.in-Minus.is

pub loop-sign-preserved : goal.loop-sign-preserved
loop-sign-preserved c =
    zero_more c.args.signs.now c.loop-sign.sign-index _ c.loop-sign.invariant c.loop-sign-test.true c.in-Zero.is

pub returns : goal.returns
returns c = led_by_none c.args.signs.now c.loop-sign.sign-index c.loop-sign.invariant c.loop-sign-test.false
