use Rattle.std.specs.Prelude.{◌≡◌, map, string_bytes}
use Rattle.om_signs.specs.declared.limits.TheConstants.{MAX_ELEMENTS}
use Rattle.om_words.proofs.Numerals.{AreTaken}
use Rattle.om_words.proofs.arguments.elements.Given as goal

abbrev pub invariant-loop-word : goal.invariant-loop-word
invariant-loop-word l = record {
  n : l.chosen.n ≡ MAX_ELEMENTS;
  taken : AreTaken (map string_bytes l.rest) l.word-index l.last l.place l.chosen.elements;
}
