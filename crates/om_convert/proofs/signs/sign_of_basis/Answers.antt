use Rattle.std.proofs.Common.{◌-◌, arith, length}
use Rattle.om_convert.proofs.CarryLaws.{carried_value, plus_sign, none_more, none_all}
use Rattle.om_convert.proofs.signs.sign_of_basis.Goals as goal

pub loop-e-init : goal.loop-e-init
loop-e-init c = let n = c.n-e.ensures.value in λ f low high. absurd (omega (arith, n, low, high))

pub returns-in-Some : goal.returns-in-Some
returns-in-Some c = λ signs. carried_value c.args.t.n c.args.vectors.now c.args.before.now c.args.t.elements
    (c.loop-e.e - 1) c.in-Some.sign c.n-e.ensures.lawful c.requires.basis c.requires.place signs c.in-Some.ensures.some

pub loop-e-preserved : goal.loop-e-preserved
loop-e-preserved c =
    let above = c.loop-e-test.true in
    none_more c.args.t.n c.args.vectors.now c.args.t.elements c.loop-e.e (c.loop-e.e - 1) (omega (arith, above))
    c.loop-e.invariant c.in_default.ensures.none

pub returns : goal.returns
returns c =
    let end = c.loop-e-test.false in
    λ _. plus_sign c.args.t.n c.args.vectors.now c.args.t.elements (length c.args.before.now) c.n-e.ensures.lawful
    c.requires.basis c.requires.place
    (none_all c.args.t.n c.args.vectors.now c.args.t.elements c.loop-e.e c.n-e.ensures.lawful end
    c.loop-e.invariant)
