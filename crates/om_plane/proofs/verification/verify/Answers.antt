use Rattle.std.proofs.Common.{subst}
use Rattle.std.proofs.lemmas.Result.{IfOk-weaker}
use Rattle.om_document.specs.declared.document.Document.{Document}
use Rattle.om_representation.specs.Chirotopes.{IsChirotopeOf}
use Rattle.om_plane.specs.Claims.{verified}
use Rattle.om_plane.proofs.ClaimLaws.{claim_refused}
use Rattle.om_plane.proofs.verification.verify.Goals as goal

pub returns-in-Ok-choose_chirotope : goal.returns-in-Ok-choose_chirotope
returns-in-Ok-choose_chirotope g c =
    let P : Document → Type 0 = λ d. IsChirotopeOf d c.in-Ok-choose_chirotope.chirotope in
    verified _ _ c.in-Ok.ensures.accepted c.in-Ok.ensures.bent
    (subst P c.in-Ok.ensures.value c.in-Ok-choose_chirotope.ensures.chosen) c.verify_verdict.ensures

pub returns-in-Err-choose_chirotope : goal.returns-in-Err-choose_chirotope
returns-in-Err-choose_chirotope g c =
    let no = c.in-Err-choose_chirotope in
    IfOk-weaker _ _ _
    (λ l named. claim_refused c.args.claim _ no.why l c.in-Ok.ensures.accepted c.in-Ok.ensures.bent
    c.in-Ok.ensures.value no.ensures.refused named) c.rank_line.ensures.line

pub returns-in-Err : goal.returns-in-Err
returns-in-Err g c = c.unrepresented_line.ensures c.args.claim c.in-Err.ensures.refused
