use Rattle.std.specs.Prelude.{◌≡◌, ◌<◌, string_bytes}
use Rattle.om_words.specs.declared.verb.Verb.{Verb}
use Rattle.om_words.specs.declared.verb.TheConstants.{VERBS}
use Rattle.om_words.specs.Words.{verb_word}
use Rattle.om_words.proofs.VerbLaws.{place_of}
use Rattle.om_words.proofs.verb.named_verb.Given as goal

abbrev pub invariant-loop-verb : goal.invariant-loop-verb
invariant-loop-verb l = record {
  all : l.verb-items ≡ VERBS;
  none : (v : Verb) → place_of v < l.verb-index → string_bytes l.word ≡ verb_word v → ⊥;
}
