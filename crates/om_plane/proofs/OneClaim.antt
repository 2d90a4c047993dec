-- What a claim means is one line.
--
-- Main results: one_claim_line.
use Rattle.std.specs.Prelude.{◌≡◌, Ok, refl}
use Rattle.std.proofs.Common.{sym, ◌∙◌, ap, subst}
use Rattle.om_chirotope.specs.Map.{SignMap}
use Rattle.om_vectors.specs.declared.unfound.Unfound.{Unfound}
use Rattle.om_certificate.specs.declared.evidence.Evidence.{Evidence}
use Rattle.om_certificate.specs.declared.verdict.Verdict.{Verdict}
use Rattle.om_certificate.specs.declared.verdict.Verdict.TheVariants.{Limit}
use Rattle.om_certificate.specs.declared.lp_end.LpEnd.{LpEnd}
use Rattle.om_certificate.specs.Verdicts.{certificate_of}
use Rattle.om_certificate.proofs.Refusing.{one_reason, no_reason}
use Rattle.om_reply.specs.declared.claim.Claim.{Claim}
use Rattle.om_printing.specs.declared.line.Line.{Line}
use Rattle.om_representation.specs.Documents.{worked_on}
use Rattle.om_representation.specs.RefusalLines.{refused_line}
use Rattle.om_plane.specs.Claims.{refusal_line, EvidenceMeans, refused, valid, VerdictMeans, other_rank, limited}
use Rattle.om_plane.specs.Claims.{judged, ClaimMeans, fails_axioms, flat, verified}
use Rattle.om_representation.proofs.OneChirotope.{one_chirotope}
use Rattle.om_representation.proofs.OneRefusal.{one_refused, not_refused}

one_evidence_line : (m : SignMap) (e : Evidence) (l k : Line) → EvidenceMeans m e l → EvidenceMeans m e k → l ≡ k
one_evidence_line m e l k (refused v f) (refused w g) = ap refusal_line (one_reason m e v w f g)
one_evidence_line m e l k (refused v f) (valid h shown) = absurd (no_reason m e v f h)
one_evidence_line m e l k (valid h shown) (refused v f) = absurd (no_reason m e v f h)
one_evidence_line m e l k (valid h shown) (valid i other) = refl

no_evidence : (v : Verdict) (end : LpEnd) (unfound : Unfound) (e : Evidence) → v ≡ Limit end unfound
    → certificate_of v ≡ Ok e → ⊥
no_evidence v end unfound e p q = let r = sym (ap certificate_of p) ∙ q in cc

one_verdict_line : (m : SignMap) (v : Verdict) (l k : Line) → VerdictMeans m v l → VerdictMeans m v k → l ≡ k
one_verdict_line m v l k (other_rank n) (other_rank o) = refl
one_verdict_line m v l k (other_rank n) (limited end u r p) = absurd (n r)
one_verdict_line m v l k (other_rank n) (judged e x r p h) = absurd (n r)
one_verdict_line m v l k (limited end u r p) (other_rank n) = absurd (n r)
one_verdict_line m v l k (limited end u r p) (limited end' u' s q) = refl
one_verdict_line m v l k (limited end u r p) (judged e x s q h) = absurd (no_evidence v end u e p q)
one_verdict_line m v l k (judged e x r p h) (other_rank n) = absurd (n r)
one_verdict_line m v l k (judged e x r p h) (limited end u s q) = absurd (no_evidence v end u e q p)
one_verdict_line m v l k (judged e x r p h) (judged f y s q i) = let same : f ≡ e = cc in
    one_evidence_line m e x y h (subst (λ z. EvidenceMeans m z y) same i)

-- a claim means one line at most
pub one_claim_line : (c : Claim) (l m : Line) → ClaimMeans c l → ClaimMeans c m → l ≡ m
one_claim_line c l m (fails_axioms v f) (fails_axioms w g) = ap refused_line (one_refused c.document v w f g)
one_claim_line c l m (fails_axioms v f) (flat h bent) = absurd (not_refused c.document v h f)
one_claim_line c l m (fails_axioms v f) (verified k x h bent of means) = absurd (not_refused c.document v h f)
one_claim_line c l m (flat h bent) (fails_axioms v f) = absurd (not_refused c.document v h f)
one_claim_line c l m (flat h is) (flat i also) = refl
one_claim_line c l m (flat h is) (verified k x i bent of means) = absurd (bent is)
one_claim_line c l m (verified k x h bent of means) (fails_axioms v f) = absurd (not_refused c.document v h f)
one_claim_line c l m (verified k x h bent of means) (flat i is) = absurd (bent is)
one_claim_line c l m (verified j x h bent of means) (verified k y i other also meant) =
    one_verdict_line j c.verdict x y means
    (subst (λ z. VerdictMeans z c.verdict y) (one_chirotope (worked_on c.document) k j also of) meant)
