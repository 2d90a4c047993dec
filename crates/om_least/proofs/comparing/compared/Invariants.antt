use Rattle.std.proofs.Common.{◌+◌, ◌-◌, length}
use Rattle.om_least.proofs.TripleSteps.{AgreeTo, place_with}
use Rattle.om_least.proofs.comparing.compared.Given as goal

abbrev pub invariant-loop-j : goal.invariant-loop-j
invariant-loop-j l = AgreeTo l.chi l.beginning (place_with l.j (length l.beginning))

abbrev pub invariant-loop-i : goal.invariant-loop-i
invariant-loop-i l = AgreeTo l.chi l.beginning (place_with l.j (length l.beginning) + (l.i - 1))
