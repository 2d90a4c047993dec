use Rattle.std.proofs.Common.{arith}
use Rattle.std.proofs.lemmas.Nat.{one_shl}
use Rattle.om_chirotope.proofs.marking.number_of_words.Goals as goal

pub returns-clause-least : goal.returns-clause-least
returns-clause-least c = λ k h.
    let e = one_shl c.args.elements 64 (let r = c.requires in omega (arith, r)) in
    omega (arith, e, h)
