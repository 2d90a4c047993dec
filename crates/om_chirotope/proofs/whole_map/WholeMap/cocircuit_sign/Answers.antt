use Rattle.std.proofs.Common.{refl, arith, sym, ◌∙◌, ap}
use Rattle.std.proofs.lemmas.Bool.{false≢true}
use Rattle.om_signs.specs.Sign.{opposite}
use Rattle.om_chirotope.specs.Map.{chi_of, value_of}
use Rattle.om_chirotope.proofs.Cocircuits.{with_lawful, along_member, along_even, along_odd, length-with}
use Rattle.om_chirotope.proofs.whole_map.WholeMap.cocircuit_sign.Goals as goal

pub returns-then-has : goal.returns-then-has
returns-then-has c =
    sym (along_member 1 c.args.a.n c.args.e (chi_of c.args.self.now) c.args.a.elements
    c.requires.list (c.if-has.ensures.0 refl))

pub sign_of-sign-requires-clause-size : goal.sign_of-sign-requires-clause-size
sign_of-sign-requires-clause-size c =
    let l = length-with c.args.e c.args.a.elements (λ k. false≢true (c.if-has.ensures.1 k)) in
    rw c.with.ensures.elements (omega arith)

pub returns-then-odd_after : goal.returns-then-odd_after
returns-then-odd_after c =
    c.neg.ensures
    ∙ ap opposite (c.sign_of-sign.ensures.value ∙ ap (value_of c.args.self.now) c.with.ensures.elements)
    ∙ along_odd 1 c.args.a.n c.args.e (chi_of c.args.self.now) c.args.a.elements c.requires.list
    (with_lawful _ _ _ c.with.ensures.n c.with.ensures.elements c.with.ensures.lawful)
    (λ k. false≢true (c.if-has.ensures.1 k)) (c.if-odd_after.ensures.0 refl)

pub returns-else-odd_after : goal.returns-else-odd_after
returns-else-odd_after c =
    c.sign_of-sign.ensures.value
    ∙ ap (value_of c.args.self.now) c.with.ensures.elements
    ∙ along_even 1 c.args.a.n c.args.e (chi_of c.args.self.now) c.args.a.elements c.requires.list
    (with_lawful _ _ _ c.with.ensures.n c.with.ensures.elements c.with.ensures.lawful)
    (λ k. false≢true (c.if-has.ensures.1 k)) (λ k. false≢true (c.if-odd_after.ensures.1 k))
