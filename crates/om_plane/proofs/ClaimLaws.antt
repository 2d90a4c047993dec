-- What claims come to.
--
-- Main results: a limit (limit_meant); a list whose chirotope is too wide (claim_refused).
use Rattle.std.specs.Prelude.{◌≡◌, Ok, Err, refl}
use Rattle.std.proofs.Common.{sym, ap, subst, ◌∙◌}
use Rattle.om_chirotope.specs.Map.{SignMap}
use Rattle.om_certificate.specs.declared.evidence.Evidence.{Evidence}
use Rattle.om_certificate.specs.declared.verdict.Verdict.{Verdict}
use Rattle.om_certificate.specs.declared.verdict.Verdict.TheVariants.{Realizable, Nonrealizable, Undecided, Limit}
use Rattle.om_certificate.specs.Verdicts.{certificate_of}
use Rattle.om_document.specs.declared.document.Document.{Document}
use Rattle.om_reply.specs.declared.claim.Claim.{Claim}
use Rattle.om_printing.specs.declared.line.Line.{Line}
use Rattle.om_printing.specs.declared.line.Line.TheVariants as line
use Rattle.om_representation.specs.declared.unchosen.Unchosen.{Unchosen}
use Rattle.om_representation.specs.declared.unchosen.Unchosen.TheVariants as unchosen
use Rattle.om_representation.specs.Axioms.{MeetsAxioms, IsFlatDocument}
use Rattle.om_representation.specs.Chirotopes.{IsChirotopeOf}
use Rattle.om_plane.specs.Claims.{VerdictMeans, other_rank, limited, ClaimMeans, verified}
use Rattle.om_representation.specs.Documents.{worked_on}
use Rattle.om_representation.specs.Widths.{IsUnchosen}
use Rattle.om_representation.specs.RefusalLines.{IsRankLine}

no_err : (e : Evidence) (w : Verdict) → Ok e ≡ Err w → ⊥
no_err e w same = cc

pub limit_meant : (m : SignMap) (v w : Verdict) → m.rank ≡ 3 → certificate_of v ≡ Err w
    → VerdictMeans m v line.RefusedNocertificate
limit_meant m (Limit end unfound) w three back = limited end unfound three refl
limit_meant m (Realizable vs) w three back = absurd (no_err _ w back)
limit_meant m (Nonrealizable es) w three back = absurd (no_err _ w back)
limit_meant m (Undecided ws unfound) w three back = absurd (no_err _ w back)

-- a list whose chirotope is too wide
pub claim_refused : (c : Claim) (d : Document) (why : Unchosen) (l : Line) → MeetsAxioms c.document
    → (IsFlatDocument c.document → ⊥) → d ≡ worked_on c.document → IsUnchosen d why → IsRankLine why l → ClaimMeans c l
claim_refused c d (unchosen.TooWide rank values) l axioms bent same is named =
    let m = is.width.map in
    let number : line.RefusedNotrank3 m.rank ≡ l = ap (λ r. line.RefusedNotrank3 r) (sym is.value) ∙ sym named in
    let P : Document → Type 0 = λ k. IsChirotopeOf k m in
    verified m l axioms bent (subst P same is.width.of)
    (subst (VerdictMeans m c.verdict) number (other_rank (λ three. is.other (is.value ∙ three))))
claim_refused c d unchosen.Memory l axioms bent same is none = absurd none
