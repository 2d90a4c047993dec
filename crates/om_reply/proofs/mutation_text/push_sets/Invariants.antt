use Rattle.std.proofs.Common.{◌≡◌, ◌++◌, take}
use Rattle.om_document.specs.Print.{text_of}
use Rattle.om_reply.specs.MutationTexts.{set_lines}
use Rattle.om_reply.proofs.mutation_text.push_sets.Given as goal

abbrev pub invariant-loop-set : goal.invariant-loop-set
invariant-loop-set l = l.text.items ≡ l.initial.text.items ++ text_of (set_lines (take l.set-index l.sets))
