-- The tasks of each verb are those of the values that the words behind it are read as.
--
-- Main results: shape; what a verb and the words behind it name (task_named, fault_named,
-- named, bare_named).
use Rattle.std.specs.Prelude.{ℕ, ◌≡◌, List, Result, Ok, Err, MatchResult, IsOkAnd, IsErrAnd, refl}
use Rattle.std.specs.Prelude.{◌↔◌}
use Rattle.std.proofs.Common.{subst}
use Rattle.om_signs.specs.declared.sign.Sign.{Sign}
use Rattle.om_document.specs.declared.kinds.Kind.{Kind}
use Rattle.om_budgets.specs.declared.budgets.Budgets.{Budgets}
use Rattle.om_printing.specs.declared.usage.Usage.{Usage}
use Rattle.om_words.specs.declared.task.Task.{Task}
use Rattle.om_words.specs.declared.task.Task.TheVariants.{Accept, Member, Convert, Dual, Delete, Contract, Reorient}
use Rattle.om_words.specs.declared.task.Task.TheVariants.{Wiring, Mutations, Flip, Extend, Decide, Paint, Hull, Lexext}
use Rattle.om_words.specs.declared.task.Task.TheVariants.{Threeterm, Upgrade, Check, Make}
use Rattle.om_words.specs.declared.colouring.Colouring.{Colouring}
use Rattle.om_words.specs.declared.leading.Leading.{Leading}
use Rattle.om_words.specs.declared.verb.Verb.{Verb}
use Rattle.om_words.specs.declared.verb.Verb.TheVariants as verb
use Rattle.om_words.specs.Words.{AreArguments, AreNamed, AreNone, HasValue, IsBare, IsRead, verb_of}
use Rattle.om_words.proofs.ArgumentLaws.{no_value}
use Rattle.om_words.proofs.WordLaws.{IsShape, fault_of, ok_named, err_named, err_passed}

-- ---- the tasks of a verb: a line for each verb in each of these

-- the values that tell the tasks of a verb apart
abbrev Value : Verb → Type 0
Value verb.Accept = Unit {0}
Value verb.Member = List Sign
Value verb.Convert = Kind
Value verb.Dual = Unit {0}
Value verb.Delete = ℕ
Value verb.Contract = ℕ
Value verb.Reorient = ℕ
Value verb.Wiring = Unit {0}
Value verb.Mutations = Unit {0}
Value verb.Flip = ℕ × ℕ × ℕ
Value verb.Extend = ℕ
Value verb.Paint = Colouring
Value verb.Hull = Unit {0}
Value verb.Lexext = Leading
Value verb.Threeterm = Unit {0}
Value verb.Upgrade = Unit {0}
Value verb.Decide = Budgets
Value verb.Check = Unit {0}
Value verb.Make = ℕ × ℕ

abbrev value_of : (task : Task) → Value (verb_of task)
value_of Accept = tt
value_of (Member x) = x
value_of (Convert k) = k
value_of Dual = tt
value_of (Delete e) = e
value_of (Contract e) = e
value_of (Reorient mask) = mask
value_of Wiring = tt
value_of Mutations = tt
value_of (Flip a b c) = (a, b, c)
value_of (Extend first) = first
value_of (Paint colouring) = colouring
value_of Hull = tt
value_of (Lexext leading) = leading
value_of Threeterm = tt
value_of Upgrade = tt
value_of (Decide b) = b
value_of Check = tt
value_of (Make seed count) = (seed, count)

abbrev task_of : (v : Verb) → Value v → Task
task_of verb.Accept _ = Accept
task_of verb.Member x = Member x
task_of verb.Convert k = Convert k
task_of verb.Dual _ = Dual
task_of verb.Delete e = Delete e
task_of verb.Contract e = Contract e
task_of verb.Reorient mask = Reorient mask
task_of verb.Wiring _ = Wiring
task_of verb.Mutations _ = Mutations
task_of verb.Flip t = Flip t.0 t.1 t.2
task_of verb.Extend first = Extend first
task_of verb.Paint colouring = Paint colouring
task_of verb.Hull _ = Hull
task_of verb.Lexext leading = Lexext leading
task_of verb.Threeterm _ = Threeterm
task_of verb.Upgrade _ = Upgrade
task_of verb.Decide b = Decide b
task_of verb.Check _ = Check
task_of verb.Make made = Make made.0 made.1

task_back : (task : Task) → task ≡ task_of (verb_of task) (value_of task)
task_back Accept = refl
task_back (Member x) = refl
task_back (Convert k) = refl
task_back Dual = refl
task_back (Delete e) = refl
task_back (Contract e) = refl
task_back (Reorient mask) = refl
task_back Wiring = refl
task_back Mutations = refl
task_back (Flip a b c) = refl
task_back (Extend first) = refl
task_back (Paint colouring) = refl
task_back Hull = refl
task_back (Lexext leading) = refl
task_back Threeterm = refl
task_back Upgrade = refl
task_back (Decide b) = refl
task_back Check = refl
task_back (Make seed count) = refl

only : (v : Verb) (task : Task) → verb_of task ≡ v → (a : Value v) × (task ≡ task_of v a)
only v task same = subst (λ u. (a : Value u) × (task ≡ task_of u a)) same (value_of task, task_back task)

verb_back : (v : Verb) (a : Value v) → verb_of (task_of v a) ≡ v
verb_back verb.Accept a = refl
verb_back verb.Member a = refl
verb_back verb.Convert a = refl
verb_back verb.Dual a = refl
verb_back verb.Delete a = refl
verb_back verb.Contract a = refl
verb_back verb.Reorient a = refl
verb_back verb.Wiring a = refl
verb_back verb.Mutations a = refl
verb_back verb.Flip a = refl
verb_back verb.Extend a = refl
verb_back verb.Paint a = refl
verb_back verb.Hull a = refl
verb_back verb.Lexext a = refl
verb_back verb.Threeterm a = refl
verb_back verb.Upgrade a = refl
verb_back verb.Decide a = refl
verb_back verb.Check a = refl
verb_back verb.Make a = refl

-- how the words behind a verb are read as a value
abbrev IsReadAs : (v : Verb) → List (List ℕ) → Value v → Type 0
IsReadAs v words a = AreArguments (task_of v a) words

pub shape : (v : Verb) → IsShape v (IsReadAs v) (task_of v)
shape v = record { verb = verb_back v; arguments = λ a words. (λ h. h, λ h. h); only = only v }

-- the words behind a verb are read as a value, and name its task
pub task_named : (v u : Verb) (words : List (List ℕ)) (result : Result (Value v) Usage) (a : Value v) → u ≡ v
    → IsRead (IsReadAs v) words result → result ≡ Ok a → AreNamed u words (Ok (task_of v a))
task_named v u words result a same read is =
    rw same (ok_named v (IsReadAs v) (task_of v) words result a (shape v) read is)

-- or they aren't, and the word at fault is passed on
pub fault_named : (v u : Verb) (words : List (List ℕ)) (result : Result (Value v) Usage) (e : Usage)
    (passed : Result Task Usage) → u ≡ v → IsRead (IsReadAs v) words result → result ≡ Err e
    → IsErrAnd passed (λ f. f ≡ e) → AreNamed u words passed
fault_named v u words result e passed same read is err =
    rw same (err_passed v (IsReadAs v) (task_of v) words result e passed (shape v) read is err)

-- both at once, where the task is made by `map`
pub named : (v : Verb) {u : Verb} {words : List (List ℕ)} {result : Result (Value v) Usage} {made : Result Task Usage}
    → u ≡ v → IsRead (IsReadAs v) words result
    → MatchResult result (λ a. IsOkAnd made (λ t. t ≡ task_of v a)) (λ e. made ≡ Err e) → AreNamed u words made
named v {u} {words} {result = Ok a} {made = Ok t} same read is = rw is (task_named v u words (Ok a) a same read refl)
named v {u} {words} {result = Ok a} {made = Err e} same read is = absurd is
named v {u} {words} {result = Err e} {made = made} same read is =
    rw is (fault_named v u words (Err e) e (Err e) same read refl refl)

-- the words behind a verb without words name its task, or the word at fault
pub bare_named : {v u : Verb} (task : Task) {words : List (List ℕ)} {made : Result Task Usage} → u ≡ v
    → IsShape v AreNone (λ _. task) → IsRead (IsBare task) words made → AreNamed u words made
bare_named {v} {u} task {words} {made = Ok t} same shape read =
    let is = (read.value t).0 refl in
    rw (same, is.1) (ok_named v AreNone (λ _. task) words (Ok tt) tt shape
    (record { value = λ a. (λ _. is.0, λ _. refl); fault = tt }) refl)
bare_named {v} {u} task {words} {made = Err e} same shape read =
    rw same (err_named v AreNone (λ _. task) words (Err e) e shape none refl)
  where
    none : IsRead AreNone words (Err e)
    none = record {
      value = λ a. (
        λ made. absurd (no_value e a made),
        λ h. absurd (no_value e task ((read.value task).1 (h, refl))),
      );
      fault = (
        read.fault.0,
        (read.fault.1.0, fault_of (HasValue (IsBare task)) (HasValue AreNone) bare read.fault.1.1),
      );
    }
      where
        bare : (ws : List (List ℕ)) → HasValue (IsBare task) ws ↔ HasValue AreNone ws
        bare ws = (λ h. (tt, h.1.0), λ h. (task, (h.1, refl)))
