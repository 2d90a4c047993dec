use Rattle.std.proofs.Common.{refl, sym, subst, ◌∙◌, ◌<◌, ◌≤◌}
use Rattle.std.proofs.lemmas.Bool.{false≢true}
use Rattle.om_commands.specs.Paintings.{other_length, outside, uncoloured}
use Rattle.om_commands.proofs.painting.painting_refusal.Goals as goal

pub returns-then-given-n : goal.returns-then-given-n
returns-then-given-n c = rw c.from.ensures (λ d size. other_length (λ same. c.if-given-n.true (same ∙ size)))

pub returns-then-n-given : goal.returns-then-n-given
returns-then-n-given c = λ d size. outside (c.if-given-n.false ∙ sym size)
    (subst (λ k. k < c.args.given.now.e) (sym size) c.if-n-given.true)

pub returns-then-not-is_coloured : goal.returns-then-not-is_coloured
returns-then-not-is_coloured c =
    λ d size. uncoloured (c.if-given-n.false ∙ sym size)
    (subst (λ k. c.args.given.now.e ≤ k) (sym size) c.if-n-given.false)
    (λ coloured. false≢true (c.if-not-is_coloured.ensures.1 coloured))

pub returns : goal.returns
returns c =
    record { count = c.if-given-n.false; within = c.if-n-given.false; coloured = c.if-not-is_coloured.ensures.0 refl }
