use Rattle.std.proofs.Common.{◌≡◌, take}
use Rattle.om_decide.specs.Columns.{entries_of}
use Rattle.om_decide.proofs.evidence.entries.Given as goal

abbrev pub invariant-loop-count : goal.invariant-loop-count
invariant-loop-count l = l.entries ≡ entries_of l.statements (take l.count-index l.counts)
