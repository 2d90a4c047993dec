use Rattle.std.proofs.Common.{subst}
use Rattle.om_chirotope.specs.Chirotope.{IsChirotope}
use Rattle.om_document.specs.Form.{IsInForm}
use Rattle.om_representation.specs.Axioms.{MeetsAxioms}
use Rattle.om_representation.specs.Documents.{map_document}
use Rattle.om_decide.specs.Answers.{IsRefusal}
use Rattle.om_printing.specs.declared.line.Line.TheVariants as line
use Rattle.om_reply.specs.Answers.{says}
use Rattle.om_plane.specs.Decisions.{DecisionMeans, other_rank, decided}
use Rattle.om_plane.proofs.DecisionLaws.{verdict_rank, verdict_decided}
use Rattle.om_plane.proofs.decision.judge_chirotope.Goals as goal

pub map_document-document-requires : goal.map_document-document-requires
map_document-document-requires c other =
    absurd (other (verdict_rank c.args.chirotope c.args.budgets c.in-Ok.verdict c.in-Ok.ensures.verdict))

pub returns-in-Ok : goal.returns-in-Ok
returns-in-Ok c =
    let d = c.map_document-document.ensures in
    let form : IsInForm (map_document c.args.chirotope) = subst IsInForm d.value d.form in
    let axioms : IsChirotope c.args.chirotope = subst MeetsAxioms d.value d.axioms in
    rw d.value
    (decided c.in-Ok.verdict
    (verdict_decided c.args.chirotope c.args.budgets c.in-Ok.verdict form.low form.high axioms c.in-Ok.ensures.verdict
    c.in-Ok.ensures.form))

pub returns-in-Err-NotRank3 : goal.returns-in-Err-NotRank3
returns-in-Err-NotRank3 c =
    let refused = subst (IsRefusal c.args.chirotope) c.in-Err-NotRank3.field-0-is c.in-Err-NotRank3.ensures.refused in
    rw c.in-Err-NotRank3.r-is
    (subst (λ r. DecisionMeans c.args.budgets c.args.chirotope (says (line.RefusedNotrank3 r))) refused.0
    (other_rank refused.1))
