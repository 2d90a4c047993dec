use Rattle.std.proofs.Common.{ℕ, ◌≤◌}
use Rattle.om_convert.specs.Hitting.{HasNoneCarried}
use Rattle.om_convert.proofs.signs.sign_of_basis.Given as goal

abbrev pub invariant-loop-e : goal.invariant-loop-e
invariant-loop-e l = (f : ℕ) → l.e ≤ f → f ≤ l.t.n → HasNoneCarried l.vectors l.t.elements f
