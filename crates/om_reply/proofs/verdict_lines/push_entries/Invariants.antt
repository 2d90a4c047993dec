use Rattle.std.proofs.Common.{◌≡◌, ◌++◌, take, map}
use Rattle.om_reply.specs.VerdictText.{lines_text, entry_words}
use Rattle.om_reply.proofs.verdict_lines.push_entries.Given as goal

abbrev pub invariant-loop-entry : goal.invariant-loop-entry
invariant-loop-entry l = l.text.items ≡ l.initial.text.items
    ++ lines_text (map entry_words (take l.entry-index l.entries))
