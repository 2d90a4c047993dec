-- Words name a task, or one of them is at fault.
--
-- Main results: words_possible.
use Rattle.std.specs.Prelude.{ℕ, ◌≡◌, ◌+◌, ◌⊎◌, List, [], ◌∷◌, ◌++◌, length}
use Rattle.std.proofs.Common.{sym, subst, inl, inr, append_assoc}
use Rattle.std.proofs.lemmas.List.{append-nil}
use Rattle.om_lines.specs.Lines.{Begins}
use Rattle.om_words.specs.declared.task.Task.{Task}
use Rattle.om_words.specs.Tasks.{HasLawfulArguments}
use Rattle.om_words.specs.Words.{AreCommand, Names, IsFault, at_word, at_end, IsUsage}
use Rattle.om_words.proofs.TaskLaws.{lawful_named}
use Rattle.om_words.proofs.WordLaws.{empty_begins}
use Rattle.om_existence.specs.Possible.{IsPossible}
use Rattle.om_existence.proofs.Possible.{held, then, either_way}

-- behind words with which some list of the language begins, the first with which none does is at fault, or the end
fault_behind : (Language : List (List ℕ) → Type 0) (before after : List (List ℕ)) → Begins Language before
    → (Language (before ++ after) → ⊥) → IsPossible ((k : ℕ) × IsFault Language (before ++ after) k)
fault_behind Language before [] begun none =
    held (
      length (before ++ []) + 1,
      at_end (before ++ []) (subst (Begins Language) (sym (append-nil before)) begun) none,
    )
fault_behind Language before (word ∷ after) begun none =
    then (either_way (Begins Language (before ++ word ∷ []))) (λ e. elim e [
      | inl more ↦ subst (λ words. IsPossible ((k : ℕ) × IsFault Language words k)) whole
          (fault_behind Language (before ++ word ∷ []) after more (subst (λ words. Language words
          → ⊥) (sym whole) none))
      | inr begins_none ↦ held (length before + 1, at_word before word after begun begins_none)
    ])
  where
    whole : (before ++ word ∷ []) ++ after ≡ before ++ word ∷ after
    whole = append_assoc before (word ∷ []) after

pub words_possible : (words : List (List ℕ))
    → IsPossible (((k : ℕ) × IsUsage words k) ⊎ ((t : Task) × Names words t × HasLawfulArguments t))
words_possible words = then (either_way (AreCommand words)) (λ e. elim e [
  | inl h ↦ held (inr (h.0, h.1, lawful_named words h.0 h.1))
  | inr none ↦ then (fault_behind AreCommand [] words empty_begins none) (λ f. held (inl f))
])
