use Rattle.om_minors.proofs.Turning.{turned_odd, turned_even}
use Rattle.om_minors.proofs.reorientation.turning_sign.Goals as goal

pub returns-then-size-eq1 : goal.returns-then-size-eq1
returns-then-size-eq1 c = turned_odd c.args.s.n c.args.mask c.args.s.elements c.mask.ensures.lawful
    (rw (c.size.ensures.value, c.from_mask-named.ensures.elements, c.mask.ensures.value, c.n.ensures.value) at
    c.if-size-eq1.true)

pub returns-else-size-eq1 : goal.returns-else-size-eq1
returns-else-size-eq1 c = turned_even c.args.s.n c.args.mask c.args.s.elements c.mask.ensures.lawful
    (rw (c.size.ensures.value, c.from_mask-named.ensures.elements, c.mask.ensures.value, c.n.ensures.value) at
    c.if-size-eq1.false)
