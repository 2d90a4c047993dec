-- A claim is valid, or refused for a first reason.
--
-- Main results: claim_possible.
use Rattle.std.specs.Prelude.{◌≡◌, refl}
use Rattle.std.proofs.Common.{inl, inr}
use Rattle.std.proofs.lemmas.Bool.{cases_eq}
use Rattle.om_chirotope.specs.Chirotope.{IsChirotopeWithinLimits}
use Rattle.om_chirotope.specs.Map.{SignMap}
use Rattle.om_certificate.specs.declared.evidence.Evidence.{Evidence}
use Rattle.om_certificate.specs.declared.evidence.Evidence.TheVariants as evidence
use Rattle.om_certificate.specs.declared.verdict.Verdict.{Verdict}
use Rattle.om_certificate.specs.declared.verdict.Verdict.TheVariants.{Realizable, Nonrealizable, Undecided, Limit}
use Rattle.om_certificate.specs.Refusals.{of_rank_3}
use Rattle.om_certificate.specs.Validity.{IsWithinLimits}
use Rattle.om_certificate.proofs.Refusing.{valid_shows}
use Rattle.om_certificate.specs.Verdicts.{HasEvidenceWithinLimits}
use Rattle.om_reply.specs.declared.claim.Claim.{Claim}
use Rattle.om_printing.specs.declared.line.Line.{Line}
use Rattle.om_printing.specs.declared.line.Line.TheVariants as line
use Rattle.om_document.specs.Form.{IsInForm}
use Rattle.om_representation.specs.Axioms.{MeetsAxioms, IsFlatDocument}
use Rattle.om_representation.specs.Documents.{worked_on}
use Rattle.om_plane.specs.Claims.{valid_line, refusal_line, EvidenceMeans, refused, valid, VerdictMeans, other_rank}
use Rattle.om_plane.specs.Claims.{limited, judged, ClaimMeans, fails_axioms, flat, verified}
use Rattle.om_representation.specs.RefusalLines.{refused_line}
use Rattle.om_existence.specs.Possible.{IsPossible}
use Rattle.om_existence.proofs.Possible.{held, then, mapped, either_way}
use Rattle.om_existence.proofs.EvidenceParts.{evidence_possible}
use Rattle.om_existence.proofs.RefusalParts.{refusal_possible}
use Rattle.om_existence.proofs.Worked.{worked_possible, chirotope_of}

evidence_meant : (m : SignMap) (e : Evidence) → IsChirotopeWithinLimits m → m.rank ≡ 3 → IsWithinLimits e
    → IsPossible ((l : Line) × EvidenceMeans m e l)
evidence_meant m e sound three within = mapped (λ h. elim h [
  | inl is ↦ (valid_line e, valid is (valid_shows m e is))
  | inr r ↦ (refusal_line r.0, refused r.0 (of_rank_3 r.0 three r.1))
]) (evidence_possible m e sound three within)

verdict_meant : (m : SignMap) (v : Verdict) → IsChirotopeWithinLimits m → m.rank ≡ 3 → HasEvidenceWithinLimits v
    → IsPossible ((l : Line) × VerdictMeans m v l)
verdict_meant m (Realizable vs) sound three within =
    mapped (λ h. (h.0, judged (evidence.Vectors vs) h.0 three refl h.1))
    (evidence_meant m (evidence.Vectors vs) sound three within)
verdict_meant m (Nonrealizable es) sound three within =
    mapped (λ h. (h.0, judged (evidence.Balanced es) h.0 three refl h.1))
    (evidence_meant m (evidence.Balanced es) sound three within)
verdict_meant m (Undecided ws u) sound three within =
    mapped (λ h. (h.0, judged (evidence.Weights ws) h.0 three refl h.1))
    (evidence_meant m (evidence.Weights ws) sound three within)
verdict_meant m (Limit end u) sound three within = held (line.RefusedNocertificate, limited end u three refl)

verdict_possible : (m : SignMap) (v : Verdict) → IsChirotopeWithinLimits m → HasEvidenceWithinLimits v
    → IsPossible ((l : Line) × VerdictMeans m v l)
verdict_possible m v sound within = elim (cases_eq m.rank 3) [
  | inr other ↦ held (line.RefusedNotrank3 m.rank, other_rank other)
  | inl three ↦ verdict_meant m v sound three within
]

-- the evidence of a claim counts each entry at least once, as what is read from lines does
pub claim_possible : (c : Claim) → IsInForm c.document → HasEvidenceWithinLimits c.verdict
    → IsPossible ((l : Line) × ClaimMeans c l)
claim_possible c form within = then (either_way (MeetsAxioms c.document)) (λ e. elim e [
  | inr fails ↦ mapped (λ h. (refused_line h.0, fails_axioms h.0 h.1)) (refusal_possible c.document form fails)
  | inl axioms ↦ then (either_way (IsFlatDocument c.document)) (λ f. elim f [
    | inl zero ↦ held (line.RefusedFlatrank, flat axioms zero)
    | inr some ↦ then (worked_possible c.document form axioms some) (λ w.
        let k = chirotope_of (worked_on c.document) w in
        mapped (λ h. (h.0, verified k.0 h.0 axioms some k.1.of h.1)) (verdict_possible k.0 c.verdict k.1.sound within))
  ])
])
