-- A command that may be answered is answered, or memory is wanting.
--
-- Main results: always_answered; how a task that reads nothing ends (alone_ends).
use Rattle.std.specs.Prelude.{ℕ, ◌≡◌, ◌≢◌, ◌⊎◌, List, [], Option, Some, refl}
use Rattle.std.proofs.Common.{sym, ◌∙◌, subst, inl, inr, arith}
use Rattle.om_lines.specs.Lines.{lines}
use Rattle.om_answer.proofs.OneReading as claims
use Rattle.om_text.proofs.Outcome.{same_value, no_fault}
use Rattle.om_reply.specs.declared.answer.Answer.{Answer}
use Rattle.om_words.specs.declared.reads.Reads.{Reads}
use Rattle.om_words.specs.declared.reads.Reads.TheVariants as source
use Rattle.om_reply.specs.declared.status.Status.{Status}
use Rattle.om_reply.specs.declared.status.Status.TheVariants.{Done, Refused, Usage, Limit, ReadFault, WriteFault}
use Rattle.om_reply.specs.declared.status.Status.TheVariants.{NoMemory}
use Rattle.om_words.specs.declared.task.Task.{Task}
use Rattle.om_reply.specs.Answers.{status_of}
use Rattle.om_representation.specs.Axioms.{MeetsAxioms}
use Rattle.om_document.specs.declared.code.Code.{Code}
use Rattle.om_document.specs.Document.{IsDocument}
use Rattle.om_text.specs.Fault.{IsFault}
use Rattle.om_answer.specs.Claim.{IsClaim}
use Rattle.om_answer.specs.ClaimFault.{IsClaimFault}
use Rattle.om_program.specs.declared.plan.Plan.{Plan}
use Rattle.om_program.specs.declared.plan.Plan.TheVariants as plan
use Rattle.om_program.specs.declared.plan.Reading.TheVariants as reading
use Rattle.om_program.specs.Plans.{plan_for, reads_by}
use Rattle.om_program.specs.Completeness.{HasText, IsSoundClaim, HasInputFor, HasInput}
use Rattle.om_program.specs.Completeness.{IsAnswerable, IsDoneOrNoMemory}
use Rattle.om_plane.specs.MadeInputs.{IsMade, made}
use Rattle.om_program.specs.Meaning.{DocumentMeans, IsAnswerToClaim, InputMeans, long, faulty, read}
use Rattle.om_program.specs.Meaning.{PlanMeans, TaskMeans}
use Rattle.om_program.specs.Run.{IsTaskAnswer, IsWhole}
use Rattle.om_reply.specs.Statuses.{IsAnswered}
use Rattle.om_words.specs.Tasks.{reads}
use Rattle.om_words.specs.Words.{Names}
use Rattle.om_program.proofs.MeaningLaws.{named_answer}
use Rattle.om_program.proofs.PlanLaws.{planned}

-- tasks that read other things are other tasks
apart_document_claim : (t : Task) → reads t ≡ source.Document → reads t ≡ source.Claim → ⊥
apart_document_claim t p q = let e = sym p ∙ q in cc

apart_nothing_document : (t : Task) → reads t ≡ source.Nothing → reads t ≡ source.Document → ⊥
apart_nothing_document t p q = let e = sym p ∙ q in cc

apart_nothing_claim : (t : Task) → reads t ≡ source.Nothing → reads t ≡ source.Claim → ⊥
apart_nothing_claim t p q = let e = sym p ∙ q in cc

made_done : (seed count : ℕ) (a : Answer) → IsMade seed count a → status_of a ≡ Done
made_done seed count a (made t tally back) = refl

-- whatever a text means that has an answer has the status 0
module _ {A : Type 0} (IsFaulty : List (List ℕ) → ℕ → Code → Type 0) (IsText : List (List ℕ) → A → Type 0)
    (IsSound : A → Type 0) (Meaning : A → Answer → Type 0) (bytes : List ℕ)
    (no_fault : (a : A) (n : ℕ) (c : Code) → IsText (lines bytes) a → IsFaulty (lines bytes) n c → ⊥)
    (same_value : (a b : A) → IsText (lines bytes) a → IsText (lines bytes) b → a ≡ b) where
  text_fulfilled : HasText IsText IsSound Meaning bytes → (a : Answer) → InputMeans IsFaulty IsText Meaning bytes a
      → status_of a ≡ Done
  text_fulfilled given a (long past) = let short = given.short in absurd (omega (arith, past, short))
  text_fulfilled given a (faulty n c short at) = absurd (no_fault given.value n c given.text at)
  text_fulfilled given a (read v b short is means) =
      given.done a (subst (λ k. Meaning k a) (sym (same_value given.value v given.text is)) means)

-- whatever a plan means for an input that lets it answer has the status 0
plan_fulfilled : (p : Plan) (bytes : List ℕ) → HasInputFor p bytes → (a : Answer) → PlanMeans p bytes a
    → status_of a ≡ Done
plan_fulfilled (plan.Make seed count) bytes given a means = made_done seed count a means
plan_fulfilled (plan.Read reading.Claim) bytes given a means =
    text_fulfilled IsClaimFault IsClaim IsSoundClaim IsAnswerToClaim bytes (claims.no_fault (lines bytes))
    (claims.same_claim (lines bytes)) given a means
plan_fulfilled (plan.Read (reading.Document what)) bytes given a means =
    text_fulfilled IsFault IsDocument MeetsAxioms (DocumentMeans what) bytes (no_fault (lines bytes))
    (same_value (lines bytes)) given a means

-- a plan that reads nothing has its input
nothing_wanted : (p : Plan) (bytes : List ℕ) → reads_by p ≡ source.Nothing → HasInputFor p bytes
nothing_wanted (plan.Make seed count) bytes same = tt
nothing_wanted (plan.Read reading.Claim) bytes same = cc
nothing_wanted (plan.Read (reading.Document what)) bytes same = cc

none : (t : Task) → reads t ≡ source.Nothing → HasInput t []
none t nothing = nothing_wanted (plan_for t) [] ((planned t).0 ∙ nothing)

-- a status that the answer of a task has
status_done : (t : Task) (bytes : List ℕ) (status : Status) (old new : Option (List ℕ)) → HasInput t bytes
    → IsWhole (TaskMeans t bytes) status old new → status ≡ Done
status_done t bytes status old new input (a, (means, (is, appends))) =
    is ∙ plan_fulfilled (plan_for t) bytes input a means

-- a run of a task that reads nothing
pub alone_ends : (t : Task) (old new : Option (List ℕ)) (status : Status) → reads t ≡ source.Nothing
    → (IsAnswered status → (bytes : List ℕ) → IsWhole (TaskMeans t bytes) status old new) → (status ≡ ReadFault → ⊥)
    → (status ≡ Done) ⊎ ((status ≡ WriteFault) ⊎ (status ≡ NoMemory))
alone_ends t old new Done nothing answer no_read = inl refl
alone_ends t old new Refused nothing answer no_read =
    inl (status_done t [] Refused old new (none t nothing) (answer tt []))
alone_ends t old new Usage nothing answer no_read = inl (status_done t [] Usage old new (none t nothing) (answer tt []))
alone_ends t old new Limit nothing answer no_read = inl (status_done t [] Limit old new (none t nothing) (answer tt []))
alone_ends t old new ReadFault nothing answer no_read = absurd (no_read refl)
alone_ends t old new WriteFault nothing answer no_read = inr (inl refl)
alone_ends t old new NoMemory nothing answer no_read = inr (inr refl)

-- a run of a task that ends without a fault
pub always_answered : (words : List (List ℕ)) (t : Task) (left old new : Option (List ℕ)) (status : Status)
    (u : IsAnswerable words left) → u.task ≡ t → Names words t
    → (IsAnswered status → IsTaskAnswer t left status old new)
    → (reads t ≡ source.Nothing → IsAnswered status → (bytes : List ℕ) → IsWhole (TaskMeans t bytes) status old new)
    → (status ≡ Usage → ⊥) → (status ≡ ReadFault → ⊥) → (status ≡ WriteFault → ⊥)
    → IsDoneOrNoMemory words u.bytes status old new
always_answered words t left old new status u same names answer alone_answer no_usage no_read no_write =
    by_status status (λ ended. whole (reads t) refl ended) no_usage no_read no_write
  where
    told : reads t ≢ source.Nothing → left ≡ Some u.bytes
    told = subst (λ k. reads k ≢ source.Nothing → left ≡ Some u.bytes) same u.told

    -- the answer is that of the bytes, where they are read and where nothing is
    whole : (k : Reads) → reads t ≡ k → IsAnswered status → IsWhole (TaskMeans t u.bytes) status old new
    whole source.Nothing is ended = alone_answer is ended u.bytes
    whole source.Document is ended =
        subst (λ l. IsTaskAnswer t l status old new) (told (λ nothing. apart_nothing_document t nothing is))
        (answer ended)
    whole source.Claim is ended =
        subst (λ l. IsTaskAnswer t l status old new) (told (λ nothing. apart_nothing_claim t nothing is)) (answer ended)

    input : HasInput t u.bytes
    input = subst (λ k. HasInput k u.bytes) same u.input

    done : (s : Status) → IsWhole (TaskMeans t u.bytes) s old new → s ≡ Done
    done s is = status_done t u.bytes s old new input is

    no_refusal : Refused ≡ Done → ⊥
    no_refusal e = cc

    no_limit : Limit ≡ Done → ⊥
    no_limit e = cc

    by_status : (s : Status) → (IsAnswered s → IsWhole (TaskMeans t u.bytes) s old new) → (s ≡ Usage → ⊥)
        → (s ≡ ReadFault → ⊥) → (s ≡ WriteFault → ⊥) → IsDoneOrNoMemory words u.bytes s old new
    by_status Done answer no_usage no_read no_write =
        inl (refl, named_answer words t (Some u.bytes) old new Done names (answer tt))
    by_status Refused answer no_usage no_read no_write = absurd (no_refusal (done Refused (answer tt)))
    by_status Usage answer no_usage no_read no_write = absurd (no_usage refl)
    by_status Limit answer no_usage no_read no_write = absurd (no_limit (done Limit (answer tt)))
    by_status ReadFault answer no_usage no_read no_write = absurd (no_read refl)
    by_status WriteFault answer no_usage no_read no_write = absurd (no_write refl)
    by_status NoMemory answer no_usage no_read no_write = inr refl
