-- Claims on one document with the same evidence.
--
-- Main results: evidence_decides, that they mean the same.
use Rattle.std.specs.Prelude.{◌≡◌, Ok, Some, None, refl}
use Rattle.std.proofs.Common.{sym, ◌∙◌, ap, subst}
use Rattle.std.specs.Result.{result_ok}
use Rattle.om_chirotope.specs.Map.{SignMap}
use Rattle.om_vectors.specs.declared.unfound.Unfound.{Unfound}
use Rattle.om_certificate.specs.declared.evidence.Evidence.{Evidence}
use Rattle.om_certificate.specs.declared.lp_end.LpEnd.{LpEnd}
use Rattle.om_certificate.specs.declared.verdict.Verdict.{Verdict}
use Rattle.om_certificate.specs.declared.verdict.Verdict.TheVariants.{Realizable, Nonrealizable, Undecided, Limit}
use Rattle.om_certificate.specs.Verdicts.{certificate_of}
use Rattle.om_printing.specs.declared.line.Line.{Line}
use Rattle.om_representation.specs.Axioms.{IsRefused, MeetsAxioms, IsFlatDocument}
use Rattle.om_representation.specs.Chirotopes.{IsChirotopeOf}
use Rattle.om_representation.specs.Documents.{worked_on}
use Rattle.om_plane.specs.Claims.{VerdictMeans, other_rank, limited, judged, fails_axioms, flat, verified}
use Rattle.om_plane.specs.SameEvidence.{evidence_of, EvidenceDecides}

-- a verdict without evidence is a limit
limit_of : (w : Verdict) → evidence_of w ≡ None → (end : LpEnd) × (unfound : Unfound) × (w ≡ Limit end unfound)
limit_of (Realizable vs) e = absurd (cc)
limit_of (Nonrealizable es) e = absurd (cc)
limit_of (Undecided ws unfound) e = absurd (cc)
limit_of (Limit end unfound) e = (end, unfound, refl)

-- evidence is handed on
handed_on : (w : Verdict) (k : Evidence) → evidence_of w ≡ Some k → certificate_of w ≡ Ok k
handed_on (Realizable vs) k e = cc
handed_on (Nonrealizable es) k e = cc
handed_on (Undecided ws unfound) k e = cc
handed_on (Limit end unfound) k e = absurd (cc)

same_verdict : (m : SignMap) (v w : Verdict) (l : Line) → evidence_of v ≡ evidence_of w → VerdictMeans m v l
    → VerdictMeans m w l
same_verdict m v w l e (other_rank n) = other_rank n
same_verdict m v w l e (limited end unfound r q) = let f = limit_of w (sym e ∙ ap evidence_of q) in
    limited f.0 f.1 r f.2
same_verdict m v w l e (judged k x r q h) = judged k x r (handed_on w k (sym e ∙ ap result_ok q)) h

-- claims on one document with the same evidence mean the same
pub evidence_decides : EvidenceDecides
evidence_decides c d l same (fails_axioms why f) = fails_axioms why (subst (λ x. IsRefused x why) same.document f)
evidence_decides c d l same (flat h bent) =
    flat (subst MeetsAxioms same.document h) (subst IsFlatDocument same.document bent)
evidence_decides c d l same (verified m k h bent of means) =
    verified m k (subst MeetsAxioms same.document h) (λ b. bent (subst IsFlatDocument (sym same.document) b))
    (subst (λ x. IsChirotopeOf (worked_on x) m) same.document of)
    (same_verdict m c.verdict d.verdict k same.evidence means)
