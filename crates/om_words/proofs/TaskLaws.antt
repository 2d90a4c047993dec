-- The tasks that words name.
--
-- Main results: the arguments of a task lie within the limits (lawful_task, lawful_named); words that begin with
-- `decide` name a decision (named_decide).
use Rattle.std.specs.Prelude.{ℕ, ◌≡◌, ◌<◌, ◌^◌, ◌∷◌, List, codes, Result, Ok, Err, IfOk, ◌↔◌, refl}
use Rattle.std.proofs.Common.{ap, subst, sym}
use Rattle.om_signs.specs.declared.limits.TheConstants.{MAX_ELEMENTS}
use Rattle.om_subsets.proofs.Masks.{mask_of-lt}
use Rattle.om_budgets.specs.declared.budgets.Budgets.{Budgets}
use Rattle.om_budgets.specs.Ranges as ranges
use Rattle.om_words.specs.declared.setting.Setting.TheVariants.{First, BoxSize, Steps, Pivots, Count}
use Rattle.om_words.specs.declared.task.Task.{Task}
use Rattle.om_words.specs.declared.task.Task.TheVariants as task
use Rattle.om_printing.specs.declared.usage.Usage.{Usage}
use Rattle.om_words.specs.declared.verb.Verb.TheVariants as verb
use Rattle.om_words.specs.Options.{AreBudgets, AreLines, AreSeedAndCount, budgets_of, number_of}
use Rattle.om_words.specs.Tasks.{HasLawfulArguments, IsCount, IsNumberOfLines}
use Rattle.om_words.specs.Words.{AreArguments, Names, verb_of}
use Rattle.om_words.proofs.LeadingLaws.{lawful_leading}
use Rattle.om_words.proofs.OptionLaws.{number_of_within}
use Rattle.om_words.proofs.VerbLaws.{same_verb}
use Rattle.om_words.proofs.WordLaws.{first_of}
use Rattle.om_words.proofs.VerbShapes.{shape}

-- ---- the numbers that options give

lines_within : (words : List (List ℕ)) → IsNumberOfLines (number_of words First)
lines_within words = let within = number_of_within words First in (within.low, within.high)

lawful_lines : (words : List (List ℕ)) (first : ℕ) → AreLines words first → IsNumberOfLines first
lawful_lines words first set = subst IsNumberOfLines (sym set.1) (lines_within words)

budgets_within : (words : List (List ℕ)) → ranges.AreBudgets (budgets_of words)
budgets_within words =
    let box = number_of_within words BoxSize in
    let steps = number_of_within words Steps in
    let pivots = number_of_within words Pivots in
    record {
      box_low = box.low;
      box_high = box.high;
      steps_low = steps.low;
      steps_high = steps.high;
      pivots_low =
          pivots.low;
      pivots_high = pivots.high;
    }

lawful_budgets : (words : List (List ℕ)) (b : Budgets) → AreBudgets words b → ranges.AreBudgets b
lawful_budgets words b set = subst ranges.AreBudgets (sym set.1) (budgets_within words)

lawful_count : (words : List (List ℕ)) (a : ℕ × ℕ) → AreSeedAndCount words a → IsCount a.1
lawful_count words a read =
    let within = number_of_within read.1.0 Count in
    subst IsCount (sym read.1.1.2.1) (record { low = within.low; high = within.high })

-- ---- the arguments

-- the arguments of a task that words name lie within the limits
pub lawful_named : (words : List (List ℕ)) (t : Task) → Names words t → HasLawfulArguments t
lawful_named words t named = lawful t named.arguments named.behind
  where
    lawful : (t : Task) (rest : List (List ℕ)) → AreArguments t rest → HasLawfulArguments t
    lawful task.Accept rest behind = tt
    lawful (task.Member x) rest behind = tt
    lawful (task.Convert k) rest behind = tt
    lawful task.Dual rest behind = tt
    lawful (task.Delete e) rest (word, (is, element)) = (element.low, element.high)
    lawful (task.Contract e) rest (word, (is, element)) = (element.low, element.high)
    lawful (task.Reorient mask) rest all =
        subst (λ u. u < 2 ^ MAX_ELEMENTS) (sym all.value) (mask_of-lt 1 MAX_ELEMENTS all.elements)
    lawful task.Wiring rest behind = tt
    lawful task.Mutations rest behind = tt
    lawful (task.Flip a b c) rest t = record { low = t.low; first = t.first; second = t.second; high = t.high }
    lawful (task.Extend first) rest set = lawful_lines rest first set
    lawful (task.Paint colouring) rest read = read.element.low
    lawful task.Hull rest behind = tt
    lawful (task.Lexext leading) rest read = lawful_leading rest leading read
    lawful task.Threeterm rest behind = tt
    lawful task.Upgrade rest behind = tt
    lawful (task.Decide b) rest behind = lawful_budgets rest b behind
    lawful task.Check rest behind = tt
    lawful (task.Make seed count) rest behind = lawful_count rest (seed, count) behind

-- what words are read as, where it is exactly the task that they name
pub lawful_task : (words : List (List ℕ)) (r : Result Task Usage) → ((t : Task) → (r ≡ Ok t) ↔ Names words t)
    → IfOk r HasLawfulArguments
lawful_task words (Ok t) exact = lawful_named words t ((exact t).0 refl)
lawful_task words (Err usage) exact = tt

-- ---- `decide`

-- words that begin with `decide` name a decision
pub named_decide : (options : List (List ℕ)) (t : Task) → Names (codes "decide" ∷ options) t → (b : Budgets)
    × (t ≡ task.Decide b)
named_decide options t names =
    (shape verb.Decide).only t (sym (same_verb verb.Decide (verb_of t) (ap first_of names.first)))
