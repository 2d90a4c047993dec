use Rattle.std.specs.Prelude.{map, string_bytes}
use Rattle.om_words.proofs.OptionLaws.{ArePassed}
use Rattle.om_words.proofs.options.options.Given as goal

abbrev pub invariant-loop-i : goal.invariant-loop-i
invariant-loop-i l = ArePassed l.settings (map string_bytes l.words) l.i
