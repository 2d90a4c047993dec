-- Commands that read an input: which word is at fault where the words aren't one, and how many `end` lines close a
-- piece of the input.
use Rattle.std.specs.Prelude.{ℕ, ◌≡◌, ◌≢◌, List}
use Rattle.om_words.specs.declared.reads.Reads.{Reads}
use Rattle.om_words.specs.declared.reads.Reads.TheVariants as kind
use Rattle.om_words.specs.declared.task.Task.{Task}
use Rattle.om_words.specs.Tasks.{reads}
use Rattle.om_words.specs.Words.{Names, IsUsage}

-- the words are a command that reads
abbrev pub AreReadingCommand : List (List ℕ) → Type 0
AreReadingCommand words = (task : Task) × (Names words task × (reads task ≢ kind.Nothing))

-- The word at fault, if the words aren't a command that reads. In a command that reads nothing it is the first
-- word.
pub data IsReadingUsage (words : List (List ℕ)) : ℕ → Type 0 where
  other : (k : ℕ) → IsUsage words k → IsReadingUsage words k
  unread : (task : Task) → Names words task → reads task ≡ kind.Nothing → IsReadingUsage words 1

-- how many `end` lines close a piece: two close a claim
abbrev pub wanted_ends : Reads → ℕ
wanted_ends kind.Claim = 2
wanted_ends _ = 1
