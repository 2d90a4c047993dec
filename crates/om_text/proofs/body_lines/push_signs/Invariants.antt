use Rattle.std.proofs.Common.{◌≡◌, ◌++◌, take}
use Rattle.om_text.proofs.body_lines.push_signs.Given as goal
use Rattle.om_text.proofs.Joined.{signs_of_bytes}

abbrev pub invariant-loop-b : goal.invariant-loop-b
invariant-loop-b l = l.signs ≡ l.initial.signs ++ signs_of_bytes (take l.b-index l.line)
