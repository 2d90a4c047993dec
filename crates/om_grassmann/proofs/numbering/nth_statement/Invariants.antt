use Rattle.om_grassmann.specs.Order.{IsNumber}
use Rattle.om_grassmann.proofs.numbering.nth_statement.Given as goal

abbrev pub invariant-loop-turn : goal.invariant-loop-turn
invariant-loop-turn l = IsNumber l.chi l._turn l.st
