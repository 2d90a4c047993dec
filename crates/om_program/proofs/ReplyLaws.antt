-- What a task means is an answer to a command: never a usage, and of a form that can be written.
--
-- Main results: task_replies and reading_replies, each answer of a task can be written.
use Rattle.std.specs.Prelude.{ℕ, List}
use Rattle.std.proofs.Common.{sym, subst}
use Rattle.om_signs.specs.declared.sign.Sign.{Sign}
use Rattle.om_chirotope.specs.Map.{SignMap}
use Rattle.om_chirotope.specs.declared.map_refused.MapRefused.{MapRefused}
use Rattle.om_chirotope.specs.declared.map_refused.MapRefused.TheVariants as map
use Rattle.om_circuits.specs.declared.set_refused.SetRefused.{SetRefused}
use Rattle.om_circuits.specs.declared.set_refused.SetRefused.TheVariants as set
use Rattle.om_covectors.specs.declared.cov_refused.CovRefused.{CovRefused}
use Rattle.om_covectors.specs.declared.cov_refused.CovRefused.TheVariants as cov
use Rattle.om_wiring.specs.declared.wiring_refused.WiringRefused.{WiringRefused}
use Rattle.om_wiring.specs.declared.wiring_refused.WiringRefused.TheVariants as wiring
use Rattle.om_document.specs.declared.document.Document.{Document}
use Rattle.om_document.specs.Form.{IsInForm}
use Rattle.om_lines.specs.Lines.{lines, wordful}
use Rattle.om_document.specs.PrintTwo.{IsClosedUnderNegation}
use Rattle.om_text.proofs.Forms.{document_form}
use Rattle.om_document.specs.declared.body.Body.{Body}
use Rattle.om_document.specs.declared.body.Body.TheVariants as body
use Rattle.om_certificate.specs.declared.cert_refused.CertRefused.{CertRefused}
use Rattle.om_certificate.specs.declared.cert_refused.CertRefused.TheVariants as cert
use Rattle.om_certificate.specs.declared.evidence.Evidence.{Evidence}
use Rattle.om_certificate.specs.declared.evidence.Evidence.TheVariants as evidence
use Rattle.om_certificate.specs.declared.verdict.Verdict.{Verdict}
use Rattle.om_reply.specs.declared.claim.Claim.{Claim}
use Rattle.om_document.specs.declared.kinds.Kind.{Kind}
use Rattle.om_printing.specs.declared.line.Line.{Line}
use Rattle.om_reply.specs.declared.answer.Answer.{Answer}
use Rattle.om_commands.specs.declared.operation.Operation.{Operation}
use Rattle.om_words.specs.declared.task.Task.{Task}
use Rattle.om_program.specs.declared.plan.OnDocument.{OnDocument}
use Rattle.om_program.specs.declared.plan.OnDocument.TheVariants as document
use Rattle.om_program.specs.declared.plan.OnMatroid.{OnMatroid}
use Rattle.om_program.specs.declared.plan.OnMatroid.TheVariants.{Member, Convert, Operate, Wiring, Mutations, Flip}
use Rattle.om_program.specs.declared.plan.OnMatroid.TheVariants.{Extend, Paint, Hull, Lexext, Decide}
use Rattle.om_program.specs.declared.plan.Plan.{Plan}
use Rattle.om_program.specs.declared.plan.Plan.TheVariants as plan
use Rattle.om_program.specs.declared.plan.Reading.{Reading}
use Rattle.om_program.specs.declared.plan.Reading.TheVariants as reading
use Rattle.om_program.specs.Plans.{plan_for}
use Rattle.om_commands.specs.Checked.{IsChecked, refused, met}
use Rattle.om_reply.specs.Statuses.{IsReplied}
use Rattle.om_reply.specs.Answers.{IsReply, status_of_line}
use Rattle.om_representation.specs.declared.document_refused.DocumentRefused.{DocumentRefused}
use Rattle.om_representation.specs.declared.document_refused.DocumentRefused.TheVariants as reason
use Rattle.om_representation.specs.Axioms.{MeetsAxiomsOn}
use Rattle.om_representation.specs.RefusalLines.{refused_line, set_line, map_line, cov_line, wiring_line}
use Rattle.om_commands.specs.Memberships.{IsMembership, wrong_length, covector, not_covector}
use Rattle.om_commands.specs.Conversions.{IsConversion, itself, wide, limited, converted}
use Rattle.om_commands.specs.Operations.{IsOperation, outside, last, made}
use Rattle.om_plane.proofs.RankThreeLaws.{mutations_replies, extensions_reply, flip_replies, wiring_replies}
use Rattle.om_plane.proofs.MadeLaws.{made_replies}
use Rattle.om_commands.proofs.ReachLaws.{painting_replies, hull_replies, extension_replies}
use Rattle.om_commands.specs.Operations as operations
use Rattle.om_commands.specs.ThreeTermTests as tests
use Rattle.om_signs.specs.declared.raw_map.RawMap.{RawMap}
use Rattle.om_signs.proofs.Contained.{none_contained}
use Rattle.om_threeterm.specs.declared.three_refused.ThreeRefused.{ThreeRefused}
use Rattle.om_threeterm.specs.declared.three_refused.ThreeRefused.TheVariants as three
use Rattle.om_plane.specs.Claims as claims
use Rattle.om_plane.proofs.DecisionLaws.{decision_replies}
use Rattle.om_program.specs.Meaning.{IsAnswerOf, MatroidMeans, flat, answered, DocumentMeans}
use Rattle.om_program.specs.Meaning.{long, faulty, read, ReadingMeans, PlanMeans, TaskMeans}

-- ---- the lines of the axioms

map_refused : (why : MapRefused) → IsReplied (status_of_line (map_line why))
map_refused map.AllZero = tt
map_refused (map.Relation s a) = tt

set_refused : (why : SetRefused) → IsReplied (status_of_line (set_line why))
set_refused (set.Zero i) = tt
set_refused (set.NoNegative i) = tt
set_refused (set.Nested i j) = tt
set_refused (set.NoElimination i j e) = tt

cov_refused : (why : CovRefused) → IsReplied (status_of_line (cov_line why))
cov_refused cov.NoZero = tt
cov_refused (cov.NoNegative i) = tt
cov_refused (cov.NoComposition i j) = tt
cov_refused (cov.NoElimination i j e) = tt

wiring_refused : (why : WiringRefused) → IsReplied (status_of_line (wiring_line why))
wiring_refused (wiring.Range step) = tt
wiring_refused (wiring.NotIncreasing step) = tt
wiring_refused wiring.NotReversed = tt

refused_replies : (why : DocumentRefused) → IsReplied (status_of_line (refused_line why))
refused_replies (reason.Map why) = map_refused why
refused_replies (reason.Circuits why) = set_refused why
refused_replies (reason.Covectors why) = cov_refused why
refused_replies (reason.Wiring why) = wiring_refused why
refused_replies reason.RankLow = tt

-- ---- the answers of the commands

membership_replies : (n : ℕ) (P : List Sign → Type 0) (x : List Sign) (a : Answer) → IsMembership n P x a → IsReply a
membership_replies n P x a (wrong_length other) = tt
membership_replies n P x a (covector size is) = tt
membership_replies n P x a (not_covector size is) = tt

conversion_replies : (k : Kind) (d : Document) (a : Answer) → IsConversion k d a → IsReply a
conversion_replies k d a (itself own form axioms) = form
conversion_replies k d a (wide values other is) = tt
conversion_replies k d a (limited other narrow many) = tt
conversion_replies k d a (converted e other narrow few is) = is.form

operation_replies : (o : Operation) (d : Document) (a : Answer) → IsOperation o d a → IsReply a
operation_replies o d a (outside e above) = tt
operation_replies o d a (last within takes) = tt
operation_replies o d a (operations.wide values within is) = tt
operation_replies o d a (operations.limited within narrow many) = tt
operation_replies o d a (made e within left narrow few is) = is.form

certificate_replies : (why : CertRefused) → IsReplied (status_of_line (claims.refusal_line why))
certificate_replies (cert.NotRank3 r) = tt
certificate_replies (cert.Number wanted given) = tt
certificate_replies (cert.WrongSign t) = tt
certificate_replies (cert.Unlawful k) = tt
certificate_replies (cert.Unbalanced b small big) = tt
certificate_replies cert.NoStrict = tt
certificate_replies (cert.Bracket k) = tt
certificate_replies (cert.WeightFails st) = tt

valid_replies : (e : Evidence) → IsReplied (status_of_line (claims.valid_line e))
valid_replies (evidence.Vectors vs) = tt
valid_replies (evidence.Balanced es) = tt
valid_replies (evidence.Weights ws) = tt

evidence_replies : (m : SignMap) (e : Evidence) (l : Line) → claims.EvidenceMeans m e l → IsReplied (status_of_line l)
evidence_replies m e l (claims.refused why is) = certificate_replies why
evidence_replies m e l (claims.valid is shows) = valid_replies e

verdict_replies : (m : SignMap) (v : Verdict) (l : Line) → claims.VerdictMeans m v l → IsReplied (status_of_line l)
verdict_replies m v l (claims.other_rank other) = tt
verdict_replies m v l (claims.limited end unfound three is) = tt
verdict_replies m v l (claims.judged e k three is means) = evidence_replies m e l means

claim_replies : (c : Claim) (l : Line) → claims.ClaimMeans c l → IsReplied (status_of_line l)
claim_replies c l (claims.fails_axioms why is) = refused_replies why
claim_replies c l (claims.flat axioms is) = tt
claim_replies c l (claims.verified m k axioms bent is means) = verdict_replies m c.verdict l means

failure_replies : (why : ThreeRefused) → IsReplied (status_of_line (tests.failure_line why))
failure_replies three.AllZero = tt
failure_replies (three.NoExchange b c e) = tt
failure_replies (three.ThreeTerm p q) = tt

map_test_replies : (m : RawMap) (a : Answer) → tests.IsTestOfMap m a → IsReply a
map_test_replies m a (tests.fails why is broken) = failure_replies why
map_test_replies m a (tests.meets is om) = tt

test_replies : (d : Document) (a : Answer) → tests.IsThreeTermTest d a → IsReply a
test_replies d a (tests.of_map m b same is) = map_test_replies m a is
test_replies d a (tests.refused why other is) = refused_replies why
test_replies d a (tests.no_map other axioms) = tt

-- a list that meets its axioms has the negative of each member
closed_under_negation : (n : ℕ) (b : Body) → MeetsAxiomsOn n b → IsClosedUnderNegation b
closed_under_negation n (body.Chirotope m) axioms = λ x none. absurd (none_contained x none)
closed_under_negation n (body.Circuits members) axioms = axioms.symmetric
closed_under_negation n (body.Cocircuits members) axioms = axioms.symmetric
closed_under_negation n (body.Covectors members) axioms = axioms.symmetric
closed_under_negation n (body.Wiring blocks) axioms = λ x none. absurd (none_contained x none)
closed_under_negation n (body.Points points) axioms = λ x none. absurd (none_contained x none)

-- the answer to a document that is held against its axioms first
checked_replies : (d : Document) (Meaning : Answer → Type 0) (a : Answer)
    → ((b : Answer) → MeetsAxiomsOn d.elements d.body → Meaning b → IsReply b) → IsChecked d Meaning a → IsReply a
checked_replies d Meaning a each (refused why is) = refused_replies why
checked_replies d Meaning a each (met b axioms is) = each b axioms is

-- ---- what is asked: one line for each

answer_replies : (what : OnMatroid) (d : Document) (a : Answer) → IsAnswerOf what d a → IsReply a
answer_replies (Member x) d a is = membership_replies _ _ x a is
answer_replies (Convert k) d a is = conversion_replies k d a is
answer_replies (Operate operation) d a is = operation_replies operation d a is
answer_replies Wiring d a is = wiring_replies d a is
answer_replies Mutations d a is = mutations_replies d a is
answer_replies (Flip x y z) d a is = flip_replies x y z d a is
answer_replies (Extend first) d a is = extensions_reply first d a is
answer_replies (Paint colouring) d a is = painting_replies colouring d a is
answer_replies Hull d a is = hull_replies d a is
answer_replies (Lexext leading) d a is = extension_replies leading d a is
answer_replies (Decide b) d a is = decision_replies b d a is

matroid_replies : (what : OnMatroid) (d : Document) (a : Answer) → MatroidMeans what d a → IsReply a
matroid_replies what d a (flat is) = tt
matroid_replies what d a (answered b bent is) = answer_replies what _ a is

document_replies : (what : OnDocument) (d : Document) (a : Answer) → IsInForm d → DocumentMeans what d a → IsReply a
document_replies document.Accept d a form is =
    checked_replies d _ a (λ b axioms same. subst IsReply (sym same) tt) is
document_replies document.ThreeTerm d a form is = test_replies d a is
document_replies document.Upgrade d a form is =
    checked_replies d _ a (λ b axioms same.
    subst IsReply (sym same) (form, closed_under_negation d.elements d.body axioms)) is
document_replies (document.Matroid what) d a form is =
    checked_replies d _ a (λ b axioms means. matroid_replies what d b means) is

-- ---- an input

pub reading_replies : (what : Reading) (bytes : List ℕ) (a : Answer) → ReadingMeans what bytes a → IsReply a
reading_replies reading.Claim bytes a (long past) = tt
reading_replies reading.Claim bytes a (faulty n c short is) = tt
reading_replies reading.Claim bytes a (read c b short is (l, (same, means))) =
    subst IsReply (sym same) (claim_replies c l means)
reading_replies (reading.Document what) bytes a (long past) = tt
reading_replies (reading.Document what) bytes a (faulty n c short is) = tt
reading_replies (reading.Document what) bytes a (read d b short is means) =
    document_replies what d a (document_form (wordful (lines bytes)) d is) means

plan_replies : (p : Plan) (bytes : List ℕ) (a : Answer) → PlanMeans p bytes a → IsReply a
plan_replies (plan.Make seed count) bytes a is = made_replies seed count a is
plan_replies (plan.Read what) bytes a means = reading_replies what bytes a means

pub task_replies : (t : Task) (bytes : List ℕ) (a : Answer) → TaskMeans t bytes a → IsReply a
task_replies t bytes a means = plan_replies (plan_for t) bytes a means
