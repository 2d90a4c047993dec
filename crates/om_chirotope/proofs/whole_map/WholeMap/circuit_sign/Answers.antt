use Rattle.std.proofs.Common.{refl, arith, sym, ◌∙◌, ap, ◌≡◌, ◌+◌, ◌%◌}
use Rattle.std.proofs.lemmas.Bool.{false≢true}
use Rattle.om_signs.specs.Sign.{opposite}
use Rattle.om_laws.proofs.RelationLaws.{around_zero}
use Rattle.om_subsets.specs.Subsets.{count_above}
use Rattle.om_chirotope.specs.Map.{value_of}
use Rattle.om_chirotope.proofs.Circuits.{around_same, around_opposite, length-without, parities_same, parities_differ}
use Rattle.om_chirotope.proofs.whole_map.WholeMap.circuit_sign.Goals as goal

pub returns-then-not-has : goal.returns-then-not-has
returns-then-not-has c =
    sym (around_zero (value_of c.args.self.now) c.args.s.elements c.args.e
    (λ k. false≢true (c.if-not-has.ensures.1 k)))

pub sign_at-sign-requires-clause-size : goal.sign_at-sign-requires-clause-size
sign_at-sign-requires-clause-size c =
    let l = length-without _ _ c.args.e c.args.s.elements c.size-size.ensures.lawful (c.if-not-has.ensures.0 refl) in
    let q = c.requires.size in
    rw c.without.ensures.elements (omega arith)

pub returns-then-size-odd_after : goal.returns-then-size-odd_after
returns-then-size-odd_after c =
    let size : c.size-size.result ≡ c.args.self.now.rank + 1 = c.size-size.ensures.value ∙ c.requires.size in
    let parity = parities_same c.size-size.result (count_above c.args.e c.args.s.elements) c.odd_after.result
    c.odd_after.ensures c.if-size-odd_after.true in
    c.sign_at-sign.ensures.value
    ∙ ap (value_of c.args.self.now) c.without.ensures.elements
    ∙ around_same 1 c.args.s.n c.args.e c.args.self.now.rank (value_of c.args.self.now) c.args.s.elements
    c.size-size.ensures.lawful (c.if-not-has.ensures.0 refl) c.requires.size (rw size at parity)

pub returns-else-size-odd_after : goal.returns-else-size-odd_after
returns-else-size-odd_after c =
    let size : c.size-size.result ≡ c.args.self.now.rank + 1 = c.size-size.ensures.value ∙ c.requires.size in
    let parity = parities_differ c.size-size.result (count_above c.args.e c.args.s.elements) c.odd_after.result
    c.odd_after.ensures c.if-size-odd_after.false in
    c.neg.ensures
    ∙ ap opposite (c.sign_at-sign.ensures.value ∙ ap (value_of c.args.self.now) c.without.ensures.elements)
    ∙ around_opposite 1 c.args.s.n c.args.e c.args.self.now.rank (value_of c.args.self.now) c.args.s.elements
    c.size-size.ensures.lawful (c.if-not-has.ensures.0 refl) c.requires.size
    (λ q. parity (ap (λ k. k % 2) size ∙ q))
