-- What a claim says about the end of a search plays no part in its check.
use Rattle.std.specs.Prelude.{◌≡◌, Option}
use Rattle.std.specs.Result.{result_ok}
use Rattle.om_certificate.specs.declared.evidence.Evidence.{Evidence}
use Rattle.om_certificate.specs.declared.verdict.Verdict.{Verdict}
use Rattle.om_certificate.specs.Verdicts.{certificate_of}
use Rattle.om_reply.specs.declared.claim.Claim.{Claim}
use Rattle.om_printing.specs.declared.line.Line.{Line}
use Rattle.om_plane.specs.Claims.{ClaimMeans}

-- the vectors, the entries or the weights of a verdict; a limit has none
abbrev pub evidence_of : Verdict → Option Evidence
evidence_of v = result_ok (certificate_of v)

-- the claims are on one document, and have the same evidence, or neither has any
pub record HaveSameEvidence (c d : Claim) : Type 0 where
  pub document : c.document ≡ d.document
  pub evidence : evidence_of c.verdict ≡ evidence_of d.verdict

-- claims with the same evidence mean the same
abbrev pub EvidenceDecides : Type 0
EvidenceDecides = (c d : Claim) (l : Line) → HaveSameEvidence c d → ClaimMeans c l → ClaimMeans d l
