use Rattle.std.proofs.Common.{sym, ◌∙◌}
use Rattle.om_plane.specs.Claims.{other_rank, judged}
use Rattle.om_plane.proofs.ClaimLaws.{limit_meant}
use Rattle.om_plane.proofs.verification.verify_verdict.Goals as goal

pub returns-then-r-ne3 : goal.returns-then-r-ne3
returns-then-r-ne3 c =
    rw c.rank-r.ensures.value (other_rank (λ three. c.if-r-ne3.true (c.rank-r.ensures.value ∙ three)))

pub returns-in-Ok : goal.returns-in-Ok
returns-in-Ok c = judged c.in-Ok.evidence _ (sym c.rank-r.ensures.value ∙ c.if-r-ne3.false)
    (sym c.certificate.ensures ∙ c.in-Ok.is) c.verify_evidence.ensures

pub returns : goal.returns
returns c = limit_meant _ _ c.in-Err.field-0 (sym c.rank-r.ensures.value ∙ c.if-r-ne3.false)
    (sym c.certificate.ensures ∙ c.in-Err.is)
