use Rattle.std.proofs.Common.{◌≡◌, ◌≤◌, drop}
use Rattle.om_lines.specs.Words.{number_from}
use Rattle.om_lines.proofs.words.spelled_up_to.Given as goal

abbrev pub invariant-loop-b : goal.invariant-loop-b
invariant-loop-b l =
    record { small : l.number ≤ l.limit; same : number_from l.number (drop l.b-index l.word) ≡ number_from 0 l.word }
