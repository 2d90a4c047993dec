use Rattle.std.proofs.Common.{sym, ◌∙◌}
use Rattle.std.proofs.lemmas.Bool.{false≢true}
use Rattle.om_denotation.proofs.ListingSigns.{moving_inside, moving_even, moving_odd}
use Rattle.om_denotation.proofs.duality.moving_sign.Goals as goal

pub returns-then-has : goal.returns-then-has
returns-then-has c = moving_inside c.args.s.n c.args.e c.args.s.elements c.requires.lawful
    (c.has.ensures.0 c.if-has.true)

pub returns-then-odd_after : goal.returns-then-odd_after
returns-then-odd_after c = moving_odd c.args.s.n c.args.e c.args.s.elements c.requires.lawful
    (λ m. false≢true (sym c.if-has.false ∙ c.has.ensures.1 m)) (c.odd_after.ensures.0 c.if-odd_after.true)

pub returns-else-odd_after : goal.returns-else-odd_after
returns-else-odd_after c = moving_even c.args.s.n c.args.e c.args.s.elements c.requires.lawful
    (λ m. false≢true (sym c.if-has.false ∙ c.has.ensures.1 m))
    (λ o. false≢true (sym c.if-odd_after.false ∙ c.odd_after.ensures.1 o))
