use Rattle.std.proofs.Common.{sym, ap, ◌∙◌}
use Rattle.om_words.specs.Tasks.{given_list, elements_of}
use Rattle.om_commands.specs.LexicalExtensions.{outside, full}
use Rattle.om_reply.specs.Above.{first_above}
use Rattle.om_commands.proofs.LeadingLaws.{fewer_elements}
use Rattle.om_commands.proofs.lexical_extension.early_refusal.Goals as goal

pub returns-in-Some-clause-some : goal.returns-in-Some-clause-some
returns-in-Some-clause-some c =
    outside c.in-Some.e
    (sym (sym c.in-Some.is ∙ c.place_above.ensures
    ∙ ap (λ k. first_above k (elements_of (given_list c.args.leading.now))) c.elements-n.ensures.value))

pub returns-then-n-eq-MAX_ELEMENTS-clause-some : goal.returns-then-n-eq-MAX_ELEMENTS-clause-some
returns-then-n-eq-MAX_ELEMENTS-clause-some c =
    let none = sym c.in_default.is ∙ c.place_above.ensures
    ∙ ap (λ k. first_above k (elements_of (given_list c.args.leading.now))) c.elements-n.ensures.value in
    rw c.elements-n.ensures.value (full (sym none) (sym c.elements-n.ensures.value ∙ c.if-n-eq-MAX_ELEMENTS.true))

pub returns-clause-none : goal.returns-clause-none
returns-clause-none c = λ same.
    let none = sym c.in_default.is ∙ c.place_above.ensures
    ∙ ap (λ k. first_above k (elements_of (given_list c.args.leading.now))) c.elements-n.ensures.value in
    let few = fewer_elements _ c.elements-n.ensures.high c.if-n-eq-MAX_ELEMENTS.false in
    (sym none, rw c.elements-n.ensures.value at few)
