use Rattle.std.proofs.Common.{◌≡◌, ◌++◌, take, map}
use Rattle.std.specs.Fmt.{decimal}
use Rattle.om_reply.specs.VerdictText.{tail_text}
use Rattle.om_reply.proofs.verdict_lines.push_numbers.Given as goal

abbrev pub invariant-loop-number : goal.invariant-loop-number
invariant-loop-number l = l.text.items ≡ l.initial.text.items ++ tail_text (map decimal (take l.number-index l.numbers))
