use Rattle.std.specs.Prelude.{Err}
use Rattle.std.proofs.Common.{sym, ap, subst, ◌∙◌}
use Rattle.om_commands.specs.declared.unmade.Unmade.{Unmade}
use Rattle.om_reply.specs.Above.{first_above}
use Rattle.om_commands.specs.Operations.{IsOutcome, named_elements, outside, last}
use Rattle.om_representation.specs.Documents.{document_of}
use Rattle.om_representation.proofs.WidthLaws.{few_unless_rank3}
use Rattle.om_commands.proofs.OperationLaws.{made_meant, limit_meant, width_meant}
use Rattle.om_commands.proofs.operation.operate.Goals as goal

pub returns-in-Some : goal.returns-in-Some
returns-in-Some c =
    outside c.in-Some.e
    (sym (sym c.in-Some.is ∙ c.place_above.ensures
    ∙ ap (λ k. first_above k (named_elements c.args.operation)) c.elements.ensures.value))

pub document_of-requires : goal.document_of-requires
document_of-requires c = few_unless_rank3 (document_of c.in-Ok.made) c.in-Ok.ensures.1.1.1.0

pub returns-in-Ok : goal.returns-in-Ok
returns-in-Ok c =
    let none = sym c.in_default.is ∙ c.place_above.ensures
    ∙ ap (λ k. first_above k (named_elements c.args.operation)) c.elements.ensures.value in
    let d = c.document_of.ensures in
    made_meant c.args.operation c.args.representation c.in-Ok.made c.document_of.result none c.in-Ok.ensures d.value
    d.form d.axioms

pub returns-in-Err-LastElement : goal.returns-in-Err-LastElement
returns-in-Err-LastElement c =
    let none = sym c.in_default.is ∙ c.place_above.ensures
    ∙ ap (λ k. first_above k (named_elements c.args.operation)) c.elements.ensures.value in
    let P : Unmade → Type 0 = λ e. IsOutcome c.args.operation (document_of c.args.representation) (Err e) in
    last (sym none) (subst P c.in-Err-LastElement.field-0-is c.in-Err-LastElement.ensures)

pub returns-in-Err-TooMany : goal.returns-in-Err-TooMany
returns-in-Err-TooMany c =
    let none = sym c.in_default.is ∙ c.place_above.ensures
    ∙ ap (λ k. first_above k (named_elements c.args.operation)) c.elements.ensures.value in
    let P : Unmade → Type 0 = λ e. IsOutcome c.args.operation (document_of c.args.representation) (Err e) in
    rw c.in-Err-TooMany.limit-is
    (limit_meant c.args.operation (document_of c.args.representation) c.in-Err-TooMany.limit none
    (subst P c.in-Err-TooMany.field-0-is c.in-Err-TooMany.ensures))

pub returns-in-Err-TooWide : goal.returns-in-Err-TooWide
returns-in-Err-TooWide c =
    let none = sym c.in_default.is ∙ c.place_above.ensures
    ∙ ap (λ k. first_above k (named_elements c.args.operation)) c.elements.ensures.value in
    let P : Unmade → Type 0 = λ e. IsOutcome c.args.operation (document_of c.args.representation) (Err e) in
    rw c.in-Err-TooWide.values-is
    (width_meant c.args.operation (document_of c.args.representation) c.in-Err-TooWide.values none
    (subst P c.in-Err-TooWide.field-0-is c.in-Err-TooWide.ensures))
