-- How a call reads the words after some others of a command.
use Rattle.std.specs.Prelude.{ℕ, ◌≡◌, ◌↔◌, ◌+◌, List, Result, Ok, IfErr}
use Rattle.om_printing.specs.declared.usage.Usage.{Usage}
use Rattle.om_words.specs.Words.{IsFault, HasValue}
pub use Rattle.om_words.specs.Fits.{EachFits}

-- The call reads the words after the first `passed` words of a command. It returns their value exactly if they have
-- one, and else the word at fault.
pub record IsReadBehind {A : Type 0} (passed : ℕ) (Reading : List (List ℕ) → A → Type 0) (words : List (List ℕ))
    (result : Result A Usage) : Type 0 where
  pub value : (a : A) → (result ≡ Ok a) ↔ Reading words a
  pub fault : IfErr result (λ usage. (k : ℕ) × ((usage.word ≡ k + passed) × IsFault (HasValue Reading) words k))
