-- Words and bytes have one answer: one status and one text.
--
-- Main results: words_determined.
use Rattle.std.specs.Prelude.{ℕ, ◌≡◌, ◌↔◌, List, Result, Ok, refl}
use Rattle.std.proofs.Common.{sym, ◌∙◌, ap, subst, arith}
use Rattle.om_document.specs.declared.code.Code.{Code}
use Rattle.om_document.specs.declared.document.Document.{Document}
use Rattle.om_lines.specs.Lines.{lines}
use Rattle.om_text.proofs.Outcome as documents
use Rattle.om_words.specs.declared.task.Task.{Task}
use Rattle.om_reply.specs.declared.answer.Answer.{Answer}
use Rattle.om_reply.specs.declared.claim.Claim.{Claim}
use Rattle.om_answer.specs.Claim.{IsClaim}
use Rattle.om_answer.specs.ClaimFault.{IsClaimFault}
use Rattle.om_document.specs.Document.{IsDocument}
use Rattle.om_text.specs.Fault.{IsFault}
use Rattle.om_program.specs.declared.plan.OnDocument.{OnDocument}
use Rattle.om_program.specs.declared.plan.OnDocument.TheVariants as document
use Rattle.om_program.specs.declared.plan.OnMatroid.{OnMatroid}
use Rattle.om_program.specs.declared.plan.OnMatroid.TheVariants.{Member, Convert, Operate, Wiring, Mutations, Flip}
use Rattle.om_program.specs.declared.plan.OnMatroid.TheVariants.{Extend, Paint, Hull, Lexext, Decide}
use Rattle.om_program.specs.declared.plan.Plan.{Plan}
use Rattle.om_program.specs.declared.plan.Plan.TheVariants as plan
use Rattle.om_program.specs.declared.plan.Reading.TheVariants as reading
use Rattle.om_program.specs.Plans.{plan_for}
use Rattle.om_printing.specs.declared.usage.Usage.{Usage}
use Rattle.om_words.specs.Tasks.{given_list}
use Rattle.om_words.specs.Words.{Names}
use Rattle.om_printing.specs.declared.line.Line.TheVariants as line
use Rattle.om_answer.proofs.OneReading as claims
use Rattle.om_representation.specs.Covectors.{IsCovectorIn}
use Rattle.om_representation.specs.Documents.{worked_on}
use Rattle.om_reply.specs.Answers.{says}
use Rattle.om_plane.specs.Decisions.{DecisionMeans}
use Rattle.om_reply.specs.Determined.{AreAlike, IsDetermined}
use Rattle.om_plane.specs.ExtensionLists.{AreExtensionsOfMap}
use Rattle.om_commands.specs.Hulls.{IsHullOfMap}
use Rattle.om_program.specs.Meaning.{IsAnswerOf, MatroidMeans, flat, answered, DocumentMeans, IsAnswerToClaim}
use Rattle.om_program.specs.Meaning.{InputMeans, long, faulty, read, PlanMeans, TaskMeans, Means, usage, named}
use Rattle.om_plane.specs.MutationLists.{AreMutationsOfMap}
use Rattle.om_plane.specs.Sweeps.{IsWiringOfMap}
use Rattle.om_reply.proofs.Alike.{alike, both_say}
use Rattle.om_representation.proofs.OneChirotope.{for_chirotope_determined}
use Rattle.om_commands.proofs.KeptLaws.{for_kept_chirotope_determined}
use Rattle.om_plane.proofs.OneClaim.{one_claim_line}
use Rattle.om_commands.proofs.OneConversion.{conversions_determined}
use Rattle.om_commands.proofs.OneDocument.{lexical_extensions_determined, paintings_determined}
use Rattle.om_commands.proofs.OneAnyRank.{memberships_determined, paintings_determined_of_map, hulls_determined}
use Rattle.om_commands.proofs.OneAnyRank.{lexical_extensions_determined_of_map}
use Rattle.om_plane.proofs.OneMade.{made_determined}
use Rattle.om_commands.proofs.OneOperation.{operations_determined}
use Rattle.om_plane.proofs.OneRankThree.{wirings_determined, mutations_determined, flips_determined}
use Rattle.om_plane.proofs.OneRankThree.{extension_lists_determined, decisions_determined}
use Rattle.om_commands.proofs.OneTest.{tests_determined, checked_determined}
use Rattle.om_program.proofs.OneUsage.{one_usage, no_usage}

-- ---- what is asked of an oriented matroid

answers_determined : (what : OnMatroid) (d : Document) → IsDetermined (IsAnswerOf what d)
answers_determined (Member x) d a b p q = memberships_determined d.elements (IsCovectorIn d) x a b p q
answers_determined (Convert k) d a b p q = conversions_determined k d a b p q
answers_determined (Operate operation) d a b p q = operations_determined operation d a b p q
answers_determined Wiring d a b p q = for_chirotope_determined AreAlike IsWiringOfMap wirings_determined d a b p q
answers_determined Mutations d a b p q =
    for_chirotope_determined AreAlike AreMutationsOfMap mutations_determined d a b p q
answers_determined (Flip e f g) d a b p q = flips_determined e f g d a b p q
answers_determined (Extend first) d a b p q =
    for_chirotope_determined AreAlike (AreExtensionsOfMap first) (extension_lists_determined first) d a b p q
answers_determined (Paint c) d a b p q = paintings_determined c (paintings_determined_of_map c) d a b p q
answers_determined Hull d a b p q = for_kept_chirotope_determined IsHullOfMap hulls_determined d a b p q
answers_determined (Lexext l) d a b p q =
    lexical_extensions_determined l (lexical_extensions_determined_of_map (given_list l)) d a b p q
answers_determined (Decide budgets) d a b p q =
    for_chirotope_determined AreAlike (DecisionMeans budgets) (decisions_determined budgets) d a b p q

matroid_determined : (what : OnMatroid) (d : Document) → IsDetermined (MatroidMeans what d)
matroid_determined what d a b (flat zero) (flat zero') = both_say line.RefusedFlatrank line.RefusedFlatrank refl
matroid_determined what d a b (flat zero) (answered b' some is) = absurd (some zero)
matroid_determined what d a b (answered a' some is) (flat zero) = absurd (some zero)
matroid_determined what d a b (answered a' some is) (answered b' some' also) =
    answers_determined what (worked_on d) a b is also

-- ---- what is asked of a document

one_answer : (c : Answer) → IsDetermined (λ a. a ≡ c)
one_answer c a b p q = alike a b (p ∙ sym q)

document_determined : (what : OnDocument) (d : Document) → IsDetermined (DocumentMeans what d)
document_determined document.Accept d a b p q = checked_determined d _ (one_answer _) a b p q
document_determined document.ThreeTerm d a b p q = tests_determined d a b p q
document_determined document.Upgrade d a b p q = checked_determined d _ (one_answer _) a b p q
document_determined (document.Matroid what) d a b p q =
    checked_determined d (MatroidMeans what d) (matroid_determined what d) a b p q

claim_determined : (c : Claim) → IsDetermined (IsAnswerToClaim c)
claim_determined c a b p q =
    subst (λ u. AreAlike u b) (sym p.1.0)
    (subst (λ u. AreAlike (says p.0) u) (sym q.1.0) (both_say p.0 q.0 (one_claim_line c p.0 q.0 p.1.1 q.1.1)))

-- ---- an input

one_fault : (l m : ℕ) (c e : Code) → (l ≡ m) × (c ≡ e)
    → AreAlike (says (line.RefusedLine l c)) (says (line.RefusedLine m e))
one_fault l m c e (p, q) = both_say (line.RefusedLine l c) (line.RefusedLine m e)
    (let same : line.RefusedLine l c ≡ line.RefusedLine m e = cc in same)

-- a text has one fault or one value
module _ {A : Type 0} (IsFaulty : List (List ℕ) → ℕ → Code → Type 0) (IsText : List (List ℕ) → A → Type 0)
    (Meaning : A → Answer → Type 0) (bytes : List ℕ)
    (same_fault : (n m : ℕ) (c e : Code) → IsFaulty (lines bytes) n c → IsFaulty (lines bytes) m e
    → (n ≡ m) × (c ≡ e))
    (no_fault : (a : A) (n : ℕ) (c : Code) → IsText (lines bytes) a → IsFaulty (lines bytes) n c → ⊥)
    (same_value : (a b : A) → IsText (lines bytes) a → IsText (lines bytes) b → a ≡ b)
    (one : (a : A) → IsDetermined (Meaning a)) where
  input_determined : IsDetermined (InputMeans IsFaulty IsText Meaning bytes)
  input_determined a b (long past) (long past') = both_say line.RefusedLong line.RefusedLong refl
  input_determined a b (long past) (faulty n c short at) = absurd (omega (arith, past, short))
  input_determined a b (long past) (read v b' short is means) = absurd (omega (arith, past, short))
  input_determined a b (faulty n c short at) (long past) = absurd (omega (arith, past, short))
  input_determined a b (faulty n c short at) (faulty m e short' at') =
      one_fault n m c e (same_fault n m c e at at')
  input_determined a b (faulty n c short at) (read v b' short' is means) = absurd (no_fault v n c is at)
  input_determined a b (read v a' short is means) (long past) = absurd (omega (arith, past, short))
  input_determined a b (read v a' short is means) (faulty n c short' at) = absurd (no_fault v n c is at)
  input_determined a b (read v a' short is means) (read w b' short' is' means') =
      one v a b means (subst (λ u. Meaning u b) (sym (same_value v w is is')) means')

plan_determined : (p : Plan) (bytes : List ℕ) → IsDetermined (PlanMeans p bytes)
plan_determined (plan.Make seed count) bytes a b p q = made_determined seed count a b p q
plan_determined (plan.Read reading.Claim) bytes a b p q =
    input_determined IsClaimFault IsClaim IsAnswerToClaim bytes (claims.same_fault (lines bytes))
    (claims.no_fault (lines bytes)) (claims.same_claim (lines bytes)) claim_determined a b p q
plan_determined (plan.Read (reading.Document what)) bytes a b p q =
    input_determined IsFault IsDocument (DocumentMeans what) bytes (documents.same_fault (lines bytes))
    (documents.no_fault (lines bytes)) (documents.same_value (lines bytes)) (document_determined what) a b p q

-- ---- words

-- the words have one task at most, since the call that reads them answers it
pub words_determined : (words : List (List ℕ)) (r : Result Task Usage) → ((t : Task) → (r ≡ Ok t) ↔ Names words t)
    → (bytes : List ℕ) → IsDetermined (Means words bytes)
words_determined words r task bytes a b (usage k u) (usage j v) =
    both_say (line.Usage k) (line.Usage j) (ap line.Usage (one_usage words k j u v))
words_determined words r task bytes a b (usage k u) (named t b' names means) = absurd (no_usage words k t u names)
words_determined words r task bytes a b (named t a' names means) (usage k u) = absurd (no_usage words k t u names)
words_determined words r task bytes a b (named t a' names means) (named s b' names' means') =
    plan_determined (plan_for t) bytes a b means (subst (λ k. TaskMeans k bytes b) (sym one_task) means')
  where
    one_task : t ≡ s
    one_task = let same = sym ((task t).1 names) ∙ (task s).1 names' in cc
