use Rattle.std.proofs.Common.{◌<◌, sym, ap, ◌∙◌, subst}
use Rattle.std.proofs.lemmas.Result.{IfOk-weaker}
use Rattle.om_signs.specs.declared.limits.TheConstants.{MAX_ELEMENTS}
use Rattle.om_representation.specs.Documents.{document_of}
use Rattle.om_words.specs.Tasks.{given_list, elements_of}
use Rattle.om_commands.specs.LexicalExtensions.{IsExtensionOfMap, fewer}
use Rattle.om_reply.specs.Above.{first_above}
use Rattle.om_reply.specs.Answers.{says}
use Rattle.om_representation.specs.AnyRank.{kept}
use Rattle.om_commands.proofs.LeadingLaws.{listed_within}
use Rattle.om_representation.proofs.ChoiceLaws.{width_answered}
use Rattle.om_representation.proofs.ChoiceLaws as choices
use Rattle.om_commands.proofs.lexical_extension.extend_lexically.Goals as goal

pub returns-in-Some : goal.returns-in-Some
returns-in-Some c = c.in-Some.ensures.some

pub extend_by-requires-clause-list : goal.extend_by-requires-clause-list
extend_by-requires-clause-list c =
    let no = c.early_refusal.ensures.none c.in_default.is in
    let same = choices.elements_of c.args.representation c.in-Ok.chirotope c.in-Ok.ensures.chosen in
    listed_within MAX_ELEMENTS c.in-Ok.chirotope.elements (given_list c.args.leading) c.requires.listed
    (ap (λ k. first_above k (elements_of (given_list c.args.leading))) same ∙ no.0)

pub extend_by-requires-clause-few : goal.extend_by-requires-clause-few
extend_by-requires-clause-few c =
    let no = c.early_refusal.ensures.none c.in_default.is in
    let same = choices.elements_of c.args.representation c.in-Ok.chirotope c.in-Ok.ensures.chosen in
    subst (λ k. k < MAX_ELEMENTS) (sym same) no.1

pub returns-in-Ok : goal.returns-in-Ok
returns-in-Ok c =
    let no = c.early_refusal.ensures.none c.in_default.is in
    IfOk-weaker _ _ _
    (λ answer means. fewer answer no.0 no.1
    (kept c.in-Ok.chirotope answer c.in-Ok.ensures.kept c.in-Ok.ensures.chosen means)) c.extend_by.ensures

pub returns-in_ok-width_line-in-Err : goal.returns-in_ok-width_line-in-Err
returns-in_ok-width_line-in-Err c =
    let no = c.early_refusal.ensures.none c.in_default.is in
    fewer _ no.0 no.1
    (width_answered says (IsExtensionOfMap (given_list c.args.leading)) (document_of c.args.representation)
    c.in-Err.why c.in-Err.ensures.refused _ c.in_ok-width_line-in-Err.ensures.line)
