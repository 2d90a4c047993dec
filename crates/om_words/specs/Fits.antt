-- Lists in which each word has to fit the words before it.
use Rattle.std.specs.Prelude.{ℕ, ◌≡◌, ◌<◌, Bool, true, List, [], length, take, slice_index_or}

-- by the test, each word may follow the words before it
abbrev pub EachFits : (List (List ℕ) → List ℕ → Bool) → List (List ℕ) → Type 0
EachFits fits words = (i : ℕ) → i < length words → fits (take i words) (slice_index_or words i []) ≡ true
