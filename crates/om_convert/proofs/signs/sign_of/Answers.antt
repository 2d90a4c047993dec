use Rattle.om_convert.proofs.CarryLaws.{zero_sign}
use Rattle.om_convert.proofs.signs.sign_of.Goals as goal

pub returns-in-Some : goal.returns-in-Some
returns-in-Some c = λ _. zero_sign c.args.t.n c.args.vectors.now c.args.t.elements _ c.requires.lawful
    c.requires.place (c.in-Some.field-0, c.in-Some.ensures.contained, c.in-Some.ensures.missed)
