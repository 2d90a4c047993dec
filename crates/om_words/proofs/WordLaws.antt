-- Which words are at fault, and which tasks words name: no words, a first word that no command has, and words behind a
-- verb.
--
-- Main definitions: tail_of, first_of, IsShape, IsValued
-- Main results: fault_behind, fault_of, empty_begins, no_words_at_fault, no_words_named, first_named, first_at_fault,
-- ok_named, err_named, err_passed, first_and_rest
use Rattle.std.specs.Prelude.{ℕ, ◌≡◌, ◌<◌, ◌≤◌, ◌+◌, length, map, List, [], ◌∷◌, ◌++◌, codes, refl, ◌↔◌, Result, Ok}
use Rattle.std.specs.Prelude.{Err, IfErr, IsErrAnd}
use Rattle.std.proofs.Common.{get_or, drop, take, ◌-◌, arith, ap, subst, sym, ◌∙◌}
use Rattle.std.proofs.Math.Seq.{take-length}
use Rattle.om_signs.proofs.Results.{err-ne-ok}
use Rattle.om_lines.specs.Lines.{Begins}
use Rattle.om_words.specs.declared.task.Task.{Task}
use Rattle.om_words.specs.declared.task.Task.TheVariants.{Accept}
use Rattle.om_printing.specs.declared.usage.Usage.{Usage}
use Rattle.om_words.specs.declared.verb.Verb.{Verb}
use Rattle.om_words.proofs.VerbLaws.{same_verb}
use Rattle.om_words.specs.Words.{Names, AreNamed, AreArguments, verb_word, verb_of, AreCommand, IsFault, IsUsage}
use Rattle.om_words.specs.Words.{at_word, at_end, HasValue, IsRead}

abbrev pub tail_of : List (List ℕ) → List (List ℕ)
tail_of [] = []
tail_of (word ∷ words) = words

abbrev pub first_of : List (List ℕ) → List ℕ
first_of [] = []
first_of (word ∷ words) = word

-- ---- a word at fault behind a first word

pub fault_behind : (L M : List (List ℕ) → Type 0) (first : List ℕ) → ((xs : List (List ℕ)) → L xs ↔ M (first ∷ xs))
    → {ws : List (List ℕ)} {k : ℕ} → IsFault L ws k → IsFault M (first ∷ ws) (k + 1)
fault_behind L M first same (at_word before word after begins not) =
    let count : length (first ∷ before) + 1 ≡ length before + 1 + 1 = omega arith in
    subst (λ j. IsFault M (first ∷ before ++ word ∷ after) j) count
    (at_word (first ∷ before) word after (begins.0, (same (before ++ begins.0)).0 begins.1)
    (λ b. not (b.0, (same (before ++ word ∷ [] ++ b.0)).1 b.1)))
fault_behind L M first same (at_end words begins not) =
    let count : length (first ∷ words) + 1 ≡ length words + 1 + 1 = omega arith in
    subst (λ j. IsFault M (first ∷ words) j) count
    (at_end (first ∷ words) (begins.0, (same (words ++ begins.0)).0 begins.1) (λ b. not ((same words).1 b)))

-- languages of the same lists have the same words at fault
pub fault_of : (L M : List (List ℕ) → Type 0) → ((ws : List (List ℕ)) → L ws ↔ M ws) → {ws : List (List ℕ)} {k : ℕ}
    → IsFault L ws k → IsFault M ws k
fault_of L M same (at_word before word after begins none) =
    at_word before word after (begins.0, (same (before ++ begins.0)).0 begins.1)
    (λ b. none (b.0, (same (before ++ word ∷ [] ++ b.0)).1 b.1))
fault_of L M same (at_end words begins none) =
    at_end words (begins.0, (same (words ++ begins.0)).0 begins.1) (λ b. none ((same words).1 b))

-- ---- no words, and a first word

accept_words : AreCommand (codes "accept" ∷ [])
accept_words = (Accept, record { arguments = []; first = refl; behind = refl })

-- some command begins without a word: each does
pub empty_begins : Begins AreCommand []
empty_begins = (codes "accept" ∷ [], accept_words)

no_words : IsUsage [] 1
no_words = at_end [] empty_begins none
  where
    none : AreCommand [] → ⊥
    none (task, named) = let first = named.first in cc

pub no_words_at_fault : {X : Type 0} (f : X → List ℕ) (words : List X) → length words < 1 → IsUsage (map f words) 1
no_words_at_fault f [] few = no_words
no_words_at_fault f (word ∷ words) few = absurd (omega arith)

pub no_words_named : {X : Type 0} (f : X → List ℕ) (words : List X) (task : Task) → length words < 1
    → Names (map f words) task → ⊥
no_words_named f [] task few named = let first = named.first in cc
no_words_named f (word ∷ words) task few named = absurd (omega arith)

pub first_named : (first : List ℕ) (rest : List (List ℕ)) (task : Task) → ((v : Verb) → first ≡ verb_word v → ⊥)
    → Names (first ∷ rest) task → ⊥
first_named first rest task none named = none (verb_of task) (ap first_of named.first)

pub first_at_fault : (first : List ℕ) (rest : List (List ℕ)) → ((v : Verb) → first ≡ verb_word v → ⊥)
    → IsUsage (first ∷ rest) 1
first_at_fault first rest none = at_word [] first rest empty_begins refused
  where
    refused : Begins AreCommand (first ∷ []) → ⊥
    refused (more, (task, named)) = first_named first more task none named

-- ---- a verb and the words behind it

-- the tasks of a verb are those of the values that the words behind it are read as
pub record IsShape {A : Type 0} (v : Verb) (Reading : List (List ℕ) → A → Type 0) (make : A → Task) : Type 0 where
  pub verb : (a : A) → verb_of (make a) ≡ v
  pub arguments : (a : A) (words : List (List ℕ)) → AreArguments (make a) words ↔ Reading words a
  pub only : (task : Task) → verb_of task ≡ v → (a : A) × (task ≡ make a)

-- the words name the task of a value that those behind the verb are read as
pub record IsValued {A : Type 0} (Reading : List (List ℕ) → A → Type 0) (make : A → Task) (words : List (List ℕ))
    (task : Task) : Type 0 where
  pub value : A
  pub made : task ≡ make value
  pub reading : Reading words value

made_named : {A : Type 0} (v : Verb) (Reading : List (List ℕ) → A → Type 0) (make : A → Task) (words : List (List ℕ))
    (a : A) → IsShape v Reading make → Reading words a → Names (verb_word v ∷ words) (make a)
made_named v Reading make words a shape reading = record {
  arguments = words;
  first = ap (λ u. verb_word u ∷ words) (sym (shape.verb a));
  behind = (shape.arguments a words).1 reading;
}

named_valued : {A : Type 0} (v : Verb) (Reading : List (List ℕ) → A → Type 0) (make : A → Task) (words : List (List ℕ))
    (task : Task) → IsShape v Reading make → Names (verb_word v ∷ words) task → IsValued Reading make words task
named_valued v Reading make words task shape named =
    let found = shape.only task (sym (same_verb v (verb_of task) (ap first_of named.first))) in
    let rest : named.arguments ≡ words = sym (ap tail_of named.first) in
    record {
      value = found.0;
      made = found.1;
      reading =
          (shape.arguments found.0 words).0
          (subst (λ t. AreArguments t words) found.1 (subst (AreArguments task) rest named.behind));
    }

shape_commands : {A : Type 0} (v : Verb) (Reading : List (List ℕ) → A → Type 0) (make : A → Task)
    → IsShape v Reading make → (words : List (List ℕ)) → HasValue Reading words ↔ AreCommand (verb_word v ∷ words)
shape_commands v Reading make shape words = (
  λ h. (make h.0, made_named v Reading make words h.0 shape h.1),
  λ h. let valued = named_valued v Reading make words h.0 shape h.1 in (valued.value, valued.reading),
)

pub ok_named : {A : Type 0} (v : Verb) (Reading : List (List ℕ) → A → Type 0) (make : A → Task) (words : List (List ℕ))
    (result : Result A Usage) (a : A) → IsShape v Reading make → IsRead Reading words result → result ≡ Ok a
    → AreNamed v words (Ok (make a))
ok_named v Reading make words result a shape read is = record {
  task = λ task. (
    λ same. let made : make a ≡ task = cc in
        subst (Names (verb_word v ∷ words)) made (made_named v Reading make words a shape ((read.value a).0 is)),
    λ named.
        let valued = named_valued v Reading make words task shape named in
        let again = (read.value valued.value).1 valued.reading in
        let one : a ≡ valued.value = cc in
        let made = valued.made in
        ap Ok (ap make one ∙ sym made),
  );
  usage = tt;
}

pub err_named : {A : Type 0} (v : Verb) (Reading : List (List ℕ) → A → Type 0) (make : A → Task) (words : List (List ℕ))
    (result : Result A Usage) (u : Usage) → IsShape v Reading make → IsRead Reading words result → result ≡ Err u
    → AreNamed v words (Err u)
err_named v Reading make words result u shape read is = record {
  task = λ task. (
    λ same. absurd (err-ne-ok u task same),
    λ named.
        let valued = named_valued v Reading make words task shape named in
        let again = (read.value valued.value).1 valued.reading in
        cc,
  );
  usage =
      let fault = subst (λ r. IfErr r (λ usage. (k : ℕ) × ((usage.word ≡ k + 1) × IsFault (HasValue Reading) words k)))
      is read.fault in
      subst (IsUsage (verb_word v ∷ words)) (sym fault.1.0)
      (fault_behind (HasValue Reading) AreCommand (verb_word v) (shape_commands v Reading make shape) fault.1.1);
}

-- the same where an error is passed on
pub err_passed : {A : Type 0} (v : Verb) (Reading : List (List ℕ) → A → Type 0) (make : A → Task)
    (words : List (List ℕ)) (result : Result A Usage) (u : Usage) (passed : Result Task Usage) → IsShape v Reading make
    → IsRead Reading words result → result ≡ Err u → IsErrAnd passed (λ e. e ≡ u) → AreNamed v words passed
err_passed v Reading make words result u (Ok t) shape read is err = absurd err
err_passed v Reading make words result u (Err e) shape read is err =
    rw err (err_named v Reading make words result u shape read is)

-- ---- a list of words and its first word

pub first_and_rest : {X : Type 0} (words : List X) (word : X) → 1 ≤ length words → word ≡ get_or words 0 word
    → words ≡ word ∷ take (length words - 1) (drop 1 words)
first_and_rest [] word some first = absurd (omega (arith, some))
first_and_rest (w ∷ ws) word some first =
    let size : length (w ∷ ws) - 1 ≡ length ws = omega arith in
    let rest : ws ≡ take (length (w ∷ ws) - 1) ws = sym (ap (λ k. take k ws) size ∙ take-length ws) in
    ap (λ k. k ∷ ws) (sym first) ∙ ap (λ k. word ∷ k) rest
