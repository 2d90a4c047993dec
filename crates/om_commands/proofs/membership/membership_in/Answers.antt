use Rattle.std.proofs.Common.{sym, ◌∙◌}
use Rattle.std.proofs.lemmas.Bool.{false≢true}
use Rattle.om_commands.specs.Memberships.{wrong_length, covector, not_covector}
use Rattle.om_commands.proofs.membership.membership_in.Goals as goal

pub returns-then-len-elements : goal.returns-then-len-elements
returns-then-len-elements g c =
    rw (c.from-given.ensures, c.len-then-len-elements.ensures.value)
    (wrong_length (λ same. c.if-len-elements.true (c.len.ensures.value ∙ same ∙ sym c.elements.ensures.value)))

pub returns-then-is_covector : goal.returns-then-is_covector
returns-then-is_covector g c =
    covector (sym c.len.ensures.value ∙ c.if-len-elements.false ∙ c.elements.ensures.value)
    (c.is_covector.ensures.0 c.if-is_covector.true)

pub returns-else-is_covector : goal.returns-else-is_covector
returns-else-is_covector g c =
    not_covector (sym c.len.ensures.value ∙ c.if-len-elements.false ∙ c.elements.ensures.value)
    (λ holds. false≢true (sym c.if-is_covector.false ∙ c.is_covector.ensures.1 holds))
