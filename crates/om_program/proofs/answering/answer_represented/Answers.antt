use Rattle.std.proofs.Common.{sym, subst}
use Rattle.std.proofs.lemmas.Result.{IfOk-weaker}
use Rattle.om_commands.specs.Checked.{refused, met}
use Rattle.om_document.specs.declared.document.Document.{Document}
use Rattle.om_representation.specs.Axioms.{IsRefusal}
use Rattle.om_representation.specs.Widths.{HasFewValues}
use Rattle.om_representation.proofs.WidthLaws.{few_worked_on}
use Rattle.om_program.specs.Meaning.{IsAnswerOf, flat, answered}
use Rattle.om_program.proofs.answering.answer_represented.Goals as goal

pub answer_matroid-requires-clause-few : goal.answer_matroid-requires-clause-few
answer_matroid-requires-clause-few g c = λ κs out.
    let P : Document → Type 0 = HasFewValues in
    subst P (sym c.in-Ok.ensures.value) (few_worked_on c.args.document c.requires.form)

pub returns-in-Ok : goal.returns-in-Ok
returns-in-Ok g c = IfOk-weaker _ _ _ (λ answer meant.
    let P : Document → Type 0 = λ d. IsAnswerOf c.args.what d answer in
    met _ c.in-Ok.ensures.accepted (answered _ c.in-Ok.ensures.bent (subst P c.in-Ok.ensures.value meant)))
    c.answer_matroid.ensures

pub returns-in-Err-Refused : goal.returns-in-Err-Refused
returns-in-Err-Refused g c =
    let d = c.args.document in
    let why = subst (IsRefusal d.elements d.body) c.in-Err-Refused.field-0-is c.in-Err-Refused.ensures.refused in
    rw (c.refused_line.ensures, c.in-Err-Refused.why-is) (refused _ why)

pub returns-in-Err-Flat : goal.returns-in-Err-Flat
returns-in-Err-Flat g c =
    let d = c.args.document in
    let why = subst (IsRefusal d.elements d.body) c.in-Err-Flat.field-0-is c.in-Err-Flat.ensures.refused in
    met _ why.0 (flat why.1)
