use Rattle.std.proofs.Common.{ℕ, ◌<◌, get_or, []}
use Rattle.om_chirotope.specs.Pictures.{IsMet}
use Rattle.om_chirotope.proofs.exchange.each_basis_meets_each.Given as goal

abbrev pub invariant-loop-u : goal.invariant-loop-u
invariant-loop-u l = (k : ℕ) → k < l.u-index → IsMet l.map (get_or l.cocircuits k [])
