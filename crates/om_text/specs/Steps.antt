-- Lines read in turn by a step from state to state, and their outcome. Not part of the definition of documents.
use Rattle.std.specs.Prelude.{ℕ, ◌+◌, List, [], ◌∷◌, Bool, true, false, cond, Option, Some, None, Result, Ok, Err}
use Rattle.om_document.specs.declared.code.Code.{Code}
use Rattle.om_document.specs.declared.code.Code.TheVariants as code
use Rattle.om_lines.specs.Lines.{words, has_any}

-- the value, if all tests pass, and otherwise the code beside the first one that fails
abbrev pub if_passed : {A : Type 0} → List (Bool × Code) → A → Result A Code
if_passed [] x = Ok x
if_passed (test ∷ tests) x = cond test.0 (if_passed tests x) (Err test.1)

-- a step if the test holds
abbrev pub step_if : {S : Type 0} → (S → List (List ℕ) → Result S Code) → Bool → S → List (List ℕ) → Result S Code
step_if step true s w = step s w
step_if step false s w = Ok s

-- a step for a non-blank line; a blank line is skipped
abbrev pub advance_by : {S : Type 0} → (S → List (List ℕ) → Result S Code) → S → List ℕ → Result S Code
advance_by step s line = step_if step (has_any (words line)) s (words line)

-- the outcome of a state at the end of the input, after n lines
abbrev pub finish_by : {V : Type 0} → Option V → ℕ → Result V (ℕ × Code)
finish_by (Some v) n = Ok v
finish_by None n = Err (n + 1, code.Missing)

-- the outcome of a step after n lines, with f for the lines after it
abbrev pub then_lines : {S V : Type 0} → Result S Code → ℕ → (S → Result V (ℕ × Code)) → Result V (ℕ × Code)
then_lines (Ok t) n f = f t
then_lines (Err c) n f = Err (n + 1, c)

-- the outcome of the lines ls, from a state after n lines: a value, or a line with its code
abbrev pub outcome_by : {S V : Type 0} → (S → List (List ℕ) → Result S Code) → (S → Option V) → S → ℕ → List (List ℕ)
    → Result V (ℕ × Code)
outcome_by step value s n [] = finish_by (value s) n
outcome_by step value s n (l ∷ ls) = then_lines (advance_by step s l) n (λ t. outcome_by step value t (n + 1) ls)
