use Rattle.std.proofs.Common.{◌≡◌, ◌≤◌, drop}
use Rattle.om_text.proofs.Joined.{counted}
use Rattle.om_text.proofs.body_lines.sign_count.Given as goal

abbrev pub invariant-loop-b : goal.invariant-loop-b
invariant-loop-b l = record {
  few : l.count ≤ l.b-index;
  same : counted l.count (drop l.b-index l.line) ≡ counted 0 l.line;
}
