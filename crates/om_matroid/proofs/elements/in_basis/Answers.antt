use Rattle.std.proofs.Common.{sym, ◌∙◌}
use Rattle.std.proofs.lemmas.Bool.{false≢true}
use Rattle.om_matroid.proofs.elements.in_basis.Goals as goal

pub returns-then-is_basis-clause-first : goal.returns-then-is_basis-clause-first
returns-then-is_basis-clause-first c =
    (λ t. (c.is_basis.ensures.0 c.if-is_basis.true, c.has.ensures.0 t), λ h. c.has.ensures.1 h.1)

pub returns-then-is_basis-clause-second : goal.returns-then-is_basis-clause-second
returns-then-is_basis-clause-second c =
    let second = c.has-then-is_basis.ensures in
    (λ t. (c.is_basis.ensures.0 c.if-is_basis.true, second.0 t), λ h. second.1 h.1)

pub returns-else-is_basis-clause-first : goal.returns-else-is_basis-clause-first
returns-else-is_basis-clause-first c =
    (λ f. absurd (false≢true f), λ h. absurd (false≢true (sym c.if-is_basis.false ∙ c.is_basis.ensures.1 h.0)))

pub returns-else-is_basis-clause-second : goal.returns-else-is_basis-clause-second
returns-else-is_basis-clause-second c =
    (λ f. absurd (false≢true f), λ h. absurd (false≢true (sym c.if-is_basis.false ∙ c.is_basis.ensures.1 h.0)))
