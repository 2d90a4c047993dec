-- The text of a verdict, given to `check`.
--
-- Main results: verdicts_found_valid, limits_found.
use Rattle.std.specs.Prelude.{ℕ, ◌≡◌, List, [], ◌∷◌, codes, refl, Ok}
use Rattle.std.proofs.Common.{ap, sym, subst}
use Rattle.std.proofs.lemmas.Result.{IfOk-at_ok}
use Rattle.om_chirotope.specs.Map.{SignMap, map_of}
use Rattle.om_certificate.specs.declared.evidence.Evidence.{Evidence}
use Rattle.om_certificate.specs.declared.evidence.Evidence.TheVariants.{Vectors, Balanced, Weights}
use Rattle.om_certificate.specs.declared.verdict.Verdict.{Verdict}
use Rattle.om_certificate.specs.declared.verdict.Verdict.TheVariants.{Realizable, Nonrealizable, Undecided, Limit}
use Rattle.om_certificate.specs.Verdicts.{certificate_of}
use Rattle.om_certificate.specs.Validity.{IsValid, Shows}
use Rattle.om_budgets.specs.declared.budgets.Budgets.{Budgets}
use Rattle.om_document.specs.declared.body.Body.{Body}
use Rattle.om_document.specs.declared.body.Body.TheVariants.{Chirotope}
use Rattle.om_document.specs.declared.document.Document.{Document}
use Rattle.om_printing.specs.declared.line.Line.{Line}
use Rattle.om_printing.specs.declared.line.Line.TheVariants as line
use Rattle.om_reply.specs.VerdictText.{claim_of, verdict_text}
use Rattle.om_answer.proofs.VerdictReading.{claim_read}
use Rattle.om_reply.specs.declared.answer.Answer.{Answer}
use Rattle.om_reply.specs.declared.answer.Answer.TheVariants as answer
use Rattle.om_words.specs.declared.task.Task.TheVariants.{Decide, Check}
use Rattle.om_reply.specs.Answers.{says, judges}
use Rattle.om_plane.specs.Claims.{VerdictMeans, valid, judged, limited, verified, valid_line}
use Rattle.om_plane.specs.Decisions.{IsDecided, DecisionMeans, other_rank, decided, IsDecision}
use Rattle.om_representation.specs.RankThree.{for_chirotope}
use Rattle.om_commands.specs.Checked.{refused, met}
use Rattle.om_program.specs.declared.plan.OnDocument.TheVariants.{Matroid}
use Rattle.om_program.specs.declared.plan.OnMatroid.TheVariants as matroid
use Rattle.om_program.specs.Meaning.{Means, usage, named, TaskMeans, long, faulty, read, DocumentMeans, flat, answered}
use Rattle.om_program.specs.ValidClaims.{IsLimit, IsFoundValid, VerdictsAreFoundValid, LimitsAreFoundWithoutCertificate}
use Rattle.om_plane.proofs.VerdictSizes.{verdict_short}
use Rattle.om_words.proofs.TaskLaws.{named_decide}
use Rattle.om_plane.proofs.DecisionLaws.{document_form}

-- ---- where a verdict comes from

-- the verdict that an answer has is on a map and has these budgets
abbrev IsJudged : Budgets → Answer → Type 0
IsJudged b (answer.Line l) = Unit {0}
IsJudged b (answer.Document d) = Unit {0}
IsJudged b (answer.Upgraded d) = Unit {0}
IsJudged b (answer.Mutations sets) = Unit {0}
IsJudged b (answer.Extensions n l) = Unit {0}
IsJudged b (answer.Hull items) = Unit {0}
IsJudged b (answer.Claim c) = (m : SignMap) × ((c ≡ claim_of m c.verdict) × IsDecided m b c.verdict)
IsJudged b (answer.Made vs t) = Unit {0}

map_judged : (b : Budgets) (m : SignMap) (a : Answer) → DecisionMeans b m a → IsJudged b a
map_judged b m a (other_rank other) = tt
map_judged b m a (decided v is) = (m, (refl, is))

decision_judged : (b : Budgets) (d : Document) (a : Answer) → IsDecision b d a → IsJudged b a
decision_judged b d a (for_chirotope m answer of means) = map_judged b m a means

document_judged : (b : Budgets) (d : Document) (a : Answer) → DocumentMeans (Matroid (matroid.Decide b)) d a
    → IsJudged b a
document_judged b d a (refused why is) = tt
document_judged b d a (met answer axioms (flat is)) = tt
document_judged b d a (met answer axioms (answered other bent is)) = decision_judged b _ a is

task_judged : (b : Budgets) (bytes : List ℕ) (a : Answer) → TaskMeans (Decide b) bytes a → IsJudged b a
task_judged b bytes a (long past) = tt
task_judged b bytes a (faulty n c short is) = tt
task_judged b bytes a (read d answer short is means) = document_judged b d a means

-- the map of a body
abbrev map_in : Body → SignMap
map_in (Chirotope raw) = map_of raw
map_in _ = record { rank = 0; elements = 0; signs = [] }

-- a claim has one map
judged_map : (b : Budgets) (m : SignMap) (v : Verdict) → IsJudged b (judges m v) → IsDecided m b v
judged_map b m v (k, (same, is)) = let one : m ≡ k = ap (λ c. map_in c.document.body) same in
    subst (λ u. IsDecided u b v) (sym one) is

-- some budgets are those of the verdict that an answer has
abbrev IsSomeJudged : Answer → Type 0
IsSomeJudged a = (b : Budgets) × IsJudged b a

no_budgets : Budgets
no_budgets = record { box_size = 1; steps = 1; pivots = 1 }

words_judged : (options : List (List ℕ)) (bytes : List ℕ) (a : Answer) → Means (codes "decide" ∷ options) bytes a
    → IsSomeJudged a
words_judged options bytes a (usage k at) = (no_budgets, tt)
words_judged options bytes a (named task answer names means) =
    let found = named_decide options task names in
    (found.0, task_judged found.0 bytes a (subst (λ t. TaskMeans t bytes a) found.1 means))

-- ---- what the check of its text answers

-- the check answers what the verdict means for the map
text_checked : (m : SignMap) (b : Budgets) (v : Verdict) (l : Line) → IsDecided m b v → VerdictMeans m v l
    → Means (codes "check" ∷ []) (verdict_text m v) (says l)
text_checked m b v l is means =
    named Check _ (record { arguments = []; first = refl; behind = refl })
    (read (claim_of m v) (says l) (verdict_short m b v is) (claim_read m v (document_form m is.rank is.sound) is.form)
    (l, (refl, verified m l is.sound.axioms (λ bent. bent) refl means)))

evidence_checked : (m : SignMap) (b : Budgets) (v : Verdict) (e : Evidence) → IsDecided m b v → certificate_of v ≡ Ok e
    → Means (codes "check" ∷ []) (verdict_text m v) (says (valid_line e))
evidence_checked m b v e is same =
    text_checked m b v (valid_line e) is
    (judged e (valid_line e) is.rank same
    (valid (IfOk-at_ok (IsValid m) same is.valid) (IfOk-at_ok (Shows m) same is.shows)))

verdict_checked : (m : SignMap) (b : Budgets) (v : Verdict) → IsDecided m b v → (IsLimit v → ⊥)
    → IsFoundValid (verdict_text m v) v
verdict_checked m b (Realizable vs) is no_limit =
    record { line = _; word = refl; means = evidence_checked m b (Realizable vs) (Vectors vs) is refl }
verdict_checked m b (Nonrealizable es) is no_limit =
    record { line = _; word = refl; means = evidence_checked m b (Nonrealizable es) (Balanced es) is refl }
verdict_checked m b (Undecided ws u) is no_limit =
    record { line = _; word = refl; means = evidence_checked m b (Undecided ws u) (Weights ws) is refl }
verdict_checked m b (Limit end u) is no_limit = absurd (no_limit tt)

limit_checked : (m : SignMap) (b : Budgets) (v : Verdict) → IsDecided m b v → IsLimit v
    → Means (codes "check" ∷ []) (verdict_text m v) (says line.RefusedNocertificate)
limit_checked m b (Realizable vs) is limit = absurd limit
limit_checked m b (Nonrealizable es) is limit = absurd limit
limit_checked m b (Undecided ws u) is limit = absurd limit
limit_checked m b (Limit end u) is limit =
    text_checked m b (Limit end u) line.RefusedNocertificate is (limited end u is.rank refl)

pub verdicts_found_valid : VerdictsAreFoundValid
verdicts_found_valid options bytes m v means no_limit =
    let found = words_judged options bytes (judges m v) means in
    verdict_checked m found.0 v (judged_map found.0 m v found.1) no_limit

pub limits_found : LimitsAreFoundWithoutCertificate
limits_found options bytes m v means limit =
    let found = words_judged options bytes (judges m v) means in
    limit_checked m found.0 v (judged_map found.0 m v found.1) limit
