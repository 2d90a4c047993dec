-- What a claim means: whether its evidence proves its verdict on the chirotope of its document. The answer is one
-- line.
use Rattle.std.specs.Prelude.{◌≡◌, ◌≢◌, Ok}
use Rattle.om_chirotope.specs.Map.{SignMap}
use Rattle.om_certificate.specs.declared.evidence.Evidence.{Evidence}
use Rattle.om_certificate.specs.declared.evidence.Evidence.TheVariants as evidence
use Rattle.om_certificate.specs.declared.cert_refused.CertRefused.{CertRefused}
use Rattle.om_certificate.specs.declared.cert_refused.CertRefused.TheVariants as cert
use Rattle.om_certificate.specs.declared.lp_end.LpEnd.{LpEnd}
use Rattle.om_certificate.specs.declared.verdict.Verdict.{Verdict}
use Rattle.om_certificate.specs.declared.verdict.Verdict.TheVariants.{Limit}
use Rattle.om_certificate.specs.Verdicts.{certificate_of}
use Rattle.om_certificate.specs.Validity.{IsValid, Shows}
use Rattle.om_certificate.specs.Refusals.{IsRefusal}
use Rattle.om_vectors.specs.declared.unfound.Unfound.{Unfound}
use Rattle.om_reply.specs.declared.claim.Claim.{Claim}
use Rattle.om_printing.specs.declared.line.Line.{Line}
use Rattle.om_printing.specs.declared.line.Line.TheVariants as line
use Rattle.om_representation.specs.Chirotopes.{IsChirotopeOf}
use Rattle.om_representation.specs.declared.document_refused.DocumentRefused.{DocumentRefused}
use Rattle.om_representation.specs.Axioms.{MeetsAxioms, IsRefused, IsFlatDocument}
use Rattle.om_representation.specs.RefusalLines.{refused_line}
use Rattle.om_representation.specs.Documents.{worked_on}

-- the line that says what valid evidence proves
abbrev pub valid_line : Evidence → Line
valid_line (evidence.Vectors vs) = line.ValidRealizable
valid_line (evidence.Balanced es) = line.ValidNonrealizable
valid_line (evidence.Weights ws) = line.ValidUndecided

-- the line that says why evidence proves nothing
abbrev pub refusal_line : CertRefused → Line
refusal_line (cert.NotRank3 r) = line.RefusedNotrank3 r
refusal_line (cert.Number wanted given) = line.RefusedNumber wanted given
refusal_line (cert.WrongSign t) = line.RefusedWrongsign t
refusal_line (cert.Unlawful k) = line.RefusedUnlawful k
refusal_line (cert.Unbalanced b small big) = line.RefusedUnbalanced b small big
refusal_line cert.NoStrict = line.RefusedNostrict
refusal_line (cert.Bracket k) = line.RefusedBracket k
refusal_line (cert.WeightFails st) = line.RefusedWeightfails st

-- what evidence means for a map
pub data EvidenceMeans (m : SignMap) (e : Evidence) : Line → Type 0 where
  -- it proves nothing, and this is the first reason
  refused : (why : CertRefused) → IsRefusal m e why → EvidenceMeans m e (refusal_line why)
  -- The vectors realize the map. Or the entries are a certificate, so that no whole-number vectors of any size
  -- realize it. Or by the weights no list of entries at all is a certificate.
  valid : IsValid m e → Shows m e → EvidenceMeans m e (valid_line e)

-- what a verdict means for a map
pub data VerdictMeans (m : SignMap) (v : Verdict) : Line → Type 0 where
  -- the rank isn't 3, and verdicts are about rank 3
  other_rank : m.rank ≢ 3 → VerdictMeans m v (line.RefusedNotrank3 m.rank)
  -- a limit has no certificate
  limited : (end : LpEnd) (unfound : Unfound) → m.rank ≡ 3 → v ≡ Limit end unfound
      → VerdictMeans m v line.RefusedNocertificate
  -- every other verdict has evidence
  judged : (e : Evidence) (l : Line) → m.rank ≡ 3 → certificate_of v ≡ Ok e → EvidenceMeans m e l → VerdictMeans m v l

-- what a claim means
pub data ClaimMeans (c : Claim) : Line → Type 0 where
  -- its document fails the axioms of its kind, and this line names the first violated instance
  fails_axioms : (why : DocumentRefused) → IsRefused c.document why → ClaimMeans c (refused_line why)
  -- it meets them, and is a wiring that gives no chirotope
  flat : MeetsAxioms c.document → IsFlatDocument c.document → ClaimMeans c line.RefusedFlatrank
  -- it meets them and gives an oriented matroid, and the verdict is on its chirotope
  verified : (m : SignMap) (l : Line) → MeetsAxioms c.document → (IsFlatDocument c.document → ⊥)
      → IsChirotopeOf (worked_on c.document) m → VerdictMeans m c.verdict l → ClaimMeans c l
