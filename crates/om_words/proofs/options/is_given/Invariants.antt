use Rattle.std.specs.Prelude.{ℕ, ◌≡◌, ◌<◌, [], false, is_some, map, string_bytes}
use Rattle.std.proofs.Common.{get_or}
use Rattle.om_words.specs.Options.{given_number}
use Rattle.om_words.proofs.options.is_given.Given as goal

abbrev pub invariant-loop-word : goal.invariant-loop-word
invariant-loop-word l = (j : ℕ) → j < l.word-index
    → is_some (given_number l.setting (get_or (map string_bytes l.words) j [])) ≡ false
