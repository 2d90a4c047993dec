use Rattle.om_certificate.proofs.Counting.{IsCounting}
use Rattle.om_certificate.proofs.balance.count_brackets.Given as goal

abbrev pub invariant-loop-entry : goal.invariant-loop-entry
invariant-loop-entry l = IsCounting l.chi.elements l.entries l.entry-index l.small l.big
