use Rattle.std.specs.Prelude.{◌≡◌, map, string_bytes, drop}
use Rattle.om_words.specs.Options.{number_of}
use Rattle.om_words.proofs.options.number_of.Given as goal

abbrev pub invariant-loop-word : goal.invariant-loop-word
invariant-loop-word l = number_of (drop l.word-index (map string_bytes l.words)) l.setting
    ≡ number_of (map string_bytes l.words) l.setting
