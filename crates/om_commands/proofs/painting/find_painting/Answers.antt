use Rattle.std.proofs.Common.{◌∙◌, ◌≤◌, sym, subst}
use Rattle.om_signs.specs.declared.limits.TheConstants.{MAX_ELEMENTS}
use Rattle.om_representation.specs.Documents.{document_of}
use Rattle.om_commands.specs.Paintings.{IsPaintingOfMap, coloured}
use Rattle.om_commands.specs.Paintable.{IsPaintable}
use Rattle.om_reply.specs.Answers.{says}
use Rattle.om_representation.specs.AnyRank.{kept}
use Rattle.om_representation.proofs.ChoiceLaws.{elements_of, width_answered}
use Rattle.om_commands.proofs.painting.find_painting.Goals as goal

pub returns-in-Some : goal.returns-in-Some
returns-in-Some c = c.in-Some.ensures (document_of c.args.representation) (sym c.elements.ensures.value)

pub find_painting_of-requires-clause-lawful : goal.find_painting_of-requires-clause-lawful
find_painting_of-requires-clause-lawful c =
    let same = elements_of c.args.representation c.in-Ok.chirotope c.in-Ok.ensures.chosen in
    subst (IsPaintable c.args.given) (c.elements.ensures.value ∙ sym same) c.in_default.ensures

pub find_painting_of-requires-clause-few : goal.find_painting_of-requires-clause-few
find_painting_of-requires-clause-few c =
    let same = elements_of c.args.representation c.in-Ok.chirotope c.in-Ok.ensures.chosen in
    subst (λ n. n ≤ MAX_ELEMENTS) (c.elements.ensures.value ∙ sym same) c.elements.ensures.high

pub returns-in-Ok : goal.returns-in-Ok
returns-in-Ok c =
    let fit = subst (IsPaintable c.args.given) c.elements.ensures.value c.in_default.ensures in
    coloured _ fit.count fit.within fit.coloured
    (kept c.in-Ok.chirotope _ c.in-Ok.ensures.kept c.in-Ok.ensures.chosen c.find_painting_of.ensures)

pub returns-in_ok-width_line-in-Err : goal.returns-in_ok-width_line-in-Err
returns-in_ok-width_line-in-Err c =
    let fit = subst (IsPaintable c.args.given) c.elements.ensures.value c.in_default.ensures in
    coloured _ fit.count fit.within fit.coloured
    (width_answered says (IsPaintingOfMap c.args.given) (document_of c.args.representation) c.in-Err.why
    c.in-Err.ensures.refused _ c.in_ok-width_line-in-Err.ensures.line)
