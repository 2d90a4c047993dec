use Rattle.std.specs.Prelude.{map, string_bytes}
use Rattle.om_words.proofs.ListingLaws.{AreSigned}
use Rattle.om_words.proofs.leading.signed_elements.Given as goal

abbrev pub invariant-loop-i : goal.invariant-loop-i
invariant-loop-i l = AreSigned (map string_bytes l.rest) l.i l.list
