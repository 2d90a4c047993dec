use Rattle.std.proofs.Common.{◌≡◌, ◌++◌, take}
use Rattle.om_document.specs.Print.{text_of}
use Rattle.om_reply.specs.HullTexts.{item_lines}
use Rattle.om_reply.proofs.hull_text.push_items.Given as goal

abbrev pub invariant-loop-i : goal.invariant-loop-i
invariant-loop-i l = l.text.items ≡ l.initial.text.items ++ text_of (item_lines 1 (take l.i l.items))
