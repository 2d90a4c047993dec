use Rattle.std.specs.Prelude.{ℕ, ◌≡◌, ◌<◌, [], false, map, string_bytes}
use Rattle.std.proofs.Common.{get_or}
use Rattle.om_words.specs.ListingSteps.{has_element, signed_of}
use Rattle.om_words.proofs.leading.is_among.Given as goal

abbrev pub invariant-loop-word : goal.invariant-loop-word
invariant-loop-word l = (j : ℕ) → j < l.word-index
    → has_element l.e (signed_of (get_or (map string_bytes l.words) j [])) ≡ false
