use Rattle.std.proofs.Common.{◌≡◌, ◌++◌, take, map}
use Rattle.std.specs.Fmt.{decimal}
use Rattle.om_reply.specs.VerdictText.{tail_text}
use Rattle.om_reply.proofs.verdict_lines.push_places.Given as goal

abbrev pub invariant-loop-place : goal.invariant-loop-place
invariant-loop-place l = l.text.items ≡ l.initial.text.items ++ tail_text (map decimal (take l.place-index l.basis))
