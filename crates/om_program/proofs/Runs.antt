-- From a task to the words that name it, and what a run has written.
--
-- Main results: run_answered, run_stopped, run_up_to_date, run_broken.
use Rattle.std.specs.Prelude.{ℕ, ◌≡◌, ◌≢◌, ◌≤◌, List, Option, Some, None, IfSome}
use Rattle.std.proofs.Common.{sym, ap, ◌∙◌, subst, arith}
use Rattle.om_words.specs.declared.reads.Reads.{Reads}
use Rattle.om_words.specs.declared.reads.Reads.TheVariants as kind
use Rattle.om_words.specs.declared.task.Task.{Task}
use Rattle.om_words.specs.Tasks.{reads}
use Rattle.om_words.specs.Words.{Names}
use Rattle.om_reply.specs.declared.status.Status.{Status}
use Rattle.om_reply.specs.declared.status.Status.TheVariants as status
use Rattle.om_reply.specs.declared.answer.Answer.{Answer}
use Rattle.om_program.specs.Meaning.{TaskMeans, Means, named}
use Rattle.om_words.specs.ReadingCommands.{AreReadingCommand}
use Rattle.om_pieces.specs.Making.{completed, made, nothing}
use Rattle.om_program.specs.Answered.{AreMeant, none, one_more, AreAnswered, IsUpToDate, Stops, Breaks}
use Rattle.om_program.specs.Each.{AreForPieces, IsEachAnswered, AreFirstWritten, IsNextCutOff}
use Rattle.om_words.specs.ReadingCommands.{wanted_ends}
use Rattle.om_program.proofs.Shortened.{each_answered, first_written, next_cut_off}

wanted_pos : (r : Reads) → 1 ≤ wanted_ends r
wanted_pos kind.Document = omega arith
wanted_pos kind.Claim = omega arith
wanted_pos kind.Nothing = omega arith

-- the one task of the words decides how pieces close
for_task : (words : List (List ℕ)) (task : Task) (n : ℕ) → ((other : Task) → Names words other → other ≡ task)
    → AreForPieces words n → n ≡ wanted_ends (reads task)
for_task words task n one (other, (names, (reading, e))) = e ∙ ap (λ t. wanted_ends (reads t)) (one other names)

pub reads_pieces : (words : List (List ℕ)) (n : ℕ) → AreForPieces words n → AreReadingCommand words
reads_pieces words n (task, (names, (reading, e))) = (task, (names, reading))

pub run_answered : (words : List (List ℕ)) (task : Task) (left : Option (List ℕ)) (s : Status) (o m : Option (List ℕ))
    (n : ℕ) → Names words task × (reads task ≢ kind.Nothing) → ((other : Task) → Names words other → other ≡ task)
    → AreForPieces words n
    → IfSome left (λ bytes. AreAnswered (TaskMeans task)
    (made (nothing (wanted_ends (reads task))) bytes) status.Done s o m)
    → IfSome left (λ bytes. IsEachAnswered words n bytes s o m)
run_answered words task None s o m n own one f a = tt
run_answered words task (Some bytes) s o m n own one f a =
    subst (λ k. IsEachAnswered words k bytes s o m) (sym (for_task words task n one f))
    (each_answered words task (wanted_ends (reads task)) bytes s o m (wanted_pos (reads task)) own.0 own.1 a)

pub run_stopped : (words : List (List ℕ)) (task : Task) (left : Option (List ℕ)) (o m : Option (List ℕ)) (n : ℕ)
    → Names words task × (reads task ≢ kind.Nothing) → ((other : Task) → Names words other → other ≡ task)
    → AreForPieces words n
    → IfSome left (λ bytes. Stops (TaskMeans task) (made (nothing (wanted_ends (reads task))) bytes) o m)
    → IfSome left (λ bytes. AreFirstWritten words n bytes o m)
run_stopped words task None o m n own one f a = tt
run_stopped words task (Some bytes) o m n own one f a =
    subst (λ k. AreFirstWritten words k bytes o m) (sym (for_task words task n one f))
    (first_written words task (wanted_ends (reads task)) bytes o m (wanted_pos (reads task)) own.0 own.1 a)

-- what a task means, its words mean
words_mean : (words : List (List ℕ)) (task : Task) (ps : List (List ℕ)) (xs : List Answer) → Names words task
    → AreMeant (TaskMeans task) ps xs → AreMeant (Means words) ps xs
words_mean words task ps xs names none = none
words_mean words task ps xs names (one_more p more x others m ms) =
    one_more p more x others (named task x names m) (words_mean words task more others names ms)

words_up_to_date : (words : List (List ℕ)) (task : Task) (n : ℕ) (left rest o m : Option (List ℕ)) → Names words task
    → IsUpToDate (TaskMeans task) n left rest o m → IsUpToDate (Means words) n left rest o m
words_up_to_date words task n None rest o m names a = tt
words_up_to_date words task n (Some all) rest o m names (bs, (c, (xs, (a, w)))) =
    (bs, (c, (xs, (words_mean words task (completed (nothing n) bs) xs names a, w))))

pub run_up_to_date : (words : List (List ℕ)) (task : Task) (left rest o m : Option (List ℕ)) (n : ℕ)
    → Names words task × (reads task ≢ kind.Nothing) → ((other : Task) → Names words other → other ≡ task)
    → AreForPieces words n → IsUpToDate (TaskMeans task) (wanted_ends (reads task)) left rest o m
    → IsUpToDate (Means words) n left rest o m
run_up_to_date words task left rest o m n own one f a =
    subst (λ k. IsUpToDate (Means words) k left rest o m) (sym (for_task words task n one f))
    (words_up_to_date words task (wanted_ends (reads task)) left rest o m own.0 a)

pub run_broken : (words : List (List ℕ)) (task : Task) (left : Option (List ℕ)) (o m : Option (List ℕ)) (n : ℕ)
    → Names words task × (reads task ≢ kind.Nothing) → ((other : Task) → Names words other → other ≡ task)
    → AreForPieces words n
    → IfSome left (λ bytes. Breaks (TaskMeans task) (made (nothing (wanted_ends (reads task))) bytes) o m)
    → IfSome left (λ bytes. IsNextCutOff words n bytes o m)
run_broken words task None o m n own one f a = tt
run_broken words task (Some bytes) o m n own one f a =
    subst (λ k. IsNextCutOff words k bytes o m) (sym (for_task words task n one f))
    (next_cut_off words task (wanted_ends (reads task)) bytes o m (wanted_pos (reads task)) own.0 own.1 a)
