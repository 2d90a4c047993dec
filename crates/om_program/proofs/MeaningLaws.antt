-- From what the calls on the way say to what the words and the bytes mean.
--
-- Main results: the meaning of what was read (meant_of_long); how much was taken of the source (taken_whole,
-- taken_long); the answer and the cut-off answer, from what was read and written (whole, cut_off); from those of a task
-- to those of the words that name it (named_answer, named_cut_off); words that aren't a command (usage_answer,
-- usage_cut_off).
use Rattle.std.specs.Prelude.{ℕ, ◌≡◌, ◌<◌, ◌≤◌, ◌+◌, List, length, min, Option, Some, None, IfSome}
use Rattle.std.proofs.Common.{◌∙◌, ap, arith}
use Rattle.std.specs.Io.KnownBytes.{Appends, Consumes, IsAtEnd}
use Rattle.std.proofs.lemmas.List.{length-append}
use Rattle.om_signs.specs.declared.limits.TheConstants.{MAX_INPUT}
use Rattle.om_port.specs.Causes.{TakesExactly}
use Rattle.om_words.specs.declared.task.Task.{Task}
use Rattle.om_printing.specs.declared.line.Line.TheVariants as line
use Rattle.om_reply.specs.declared.status.Status.{Status}
use Rattle.om_reply.specs.declared.answer.Answer.{Answer}
use Rattle.om_reply.specs.Answers.{says, status_of, text_of}
use Rattle.om_words.specs.Words.{Names, IsUsage}
use Rattle.om_program.specs.Meaning.{Means, usage, named}
use Rattle.om_program.specs.Run.{IsMeantBy, IsWhole, IsCutOff, IsAnswer, IsCutOffAnswer, IsTaskAnswer}
use Rattle.om_reply.specs.Written.{IsFront}
use Rattle.om_program.specs.Run.{IsCutOffTask, TakesInput}

pub meant_of_long : (Meaning : List ℕ → Answer → Type 0) (left rest : Option (List ℕ)) (answer : Answer)
    → TakesExactly (MAX_INPUT + 1) left rest → ((bytes : List ℕ) → MAX_INPUT < length bytes → Meaning bytes answer)
    → IsMeantBy Meaning left answer
meant_of_long Meaning None rest answer t m = tt
meant_of_long Meaning (Some xs) None answer (bs, h, l) m = absurd h
meant_of_long Meaning (Some xs) (Some ys) answer (bs, h, l) m =
    m xs (let e = ap length h ∙ length-append bs ys in omega (arith, e, l))

-- an input within the limit is taken to its end
pub taken_whole : (left rest : Option (List ℕ)) (bytes : List ℕ) → Consumes left rest bytes → IsAtEnd rest
    → length bytes ≤ MAX_INPUT → TakesInput left rest
taken_whole None rest bytes t e short = tt
taken_whole (Some xs) None bytes t e short = absurd t
taken_whole (Some xs) (Some ys) bytes t e short = (bytes, t, all)
  where
    all : length bytes ≡ min (length xs) (MAX_INPUT + 1)
    all = let sizes = ap length t ∙ length-append bytes ys in let none = ap length e in omega (arith, sizes, none)

-- of a longer one, one byte more than the limit
pub taken_long : (left rest : Option (List ℕ)) → TakesExactly (MAX_INPUT + 1) left rest → TakesInput left rest
taken_long None rest t = tt
taken_long (Some xs) None (bytes, t, size) = absurd t
taken_long (Some xs) (Some ys) (bytes, t, size) = (bytes, t, most)
  where
    most : length bytes ≡ min (length xs) (MAX_INPUT + 1)
    most = let sizes = ap length t ∙ length-append bytes ys in omega (arith, sizes, size)

pub whole : (Meaning : List ℕ → Answer → Type 0) (left old new : Option (List ℕ)) (result : Status) (answer : Answer)
    → IsMeantBy Meaning left answer → (result ≡ status_of answer) × Appends old new (text_of answer)
    → IfSome left (λ bytes. IsWhole (Meaning bytes) result old new)
whole Meaning None old new result answer m w = tt
whole Meaning (Some bytes) old new result answer m w = (answer, (m, w))

pub cut_off : (Meaning : List ℕ → Answer → Type 0) (left old new : Option (List ℕ)) (answer : Answer)
    → IsMeantBy Meaning left answer → IsFront old new (text_of answer)
    → IfSome left (λ bytes. IsCutOff (Meaning bytes) old new)
cut_off Meaning None old new answer m f = tt
cut_off Meaning (Some bytes) old new answer m f = (answer, (m, f))

pub named_answer : (words : List (List ℕ)) (task : Task) (left old new : Option (List ℕ)) (result : Status)
    → Names words task → IsTaskAnswer task left result old new → IsAnswer words left result old new
named_answer words task None old new result n a = tt
named_answer words task (Some bytes) old new result n (answer, (m, a)) = (answer, (named task _ n m, a))

pub named_cut_off : (words : List (List ℕ)) (task : Task) (left old new : Option (List ℕ)) → Names words task
    → IsCutOffTask task left old new → IsCutOffAnswer words left old new
named_cut_off words task None old new n c = tt
named_cut_off words task (Some bytes) old new n (answer, (m, f)) = (answer, (named task _ n m, f))

usage_meant : (words : List (List ℕ)) (k : ℕ) (left : Option (List ℕ)) → IsUsage words k
    → IsMeantBy (Means words) left (says (line.Usage k))
usage_meant words k None u = tt
usage_meant words k (Some bytes) u = usage k u

pub usage_answer : {words : List (List ℕ)} {k : ℕ} {result : Status} (left old new : Option (List ℕ)) → IsUsage words k
    → (result ≡ status_of (says (line.Usage k))) × Appends old new (text_of (says (line.Usage k)))
    → IsAnswer words left result old new
usage_answer {words = words} {k = k} {result = result} left old new u w =
    whole (Means words) left old new result _ (usage_meant words k left u) w

pub usage_cut_off : {words : List (List ℕ)} {k : ℕ} (left old new : Option (List ℕ)) → IsUsage words k
    → IsFront old new (text_of (says (line.Usage k))) → IsCutOffAnswer words left old new
usage_cut_off {words = words} {k = k} left old new u f =
    cut_off (Means words) left old new _ (usage_meant words k left u) f
