use Rattle.std.proofs.Common.{◌≡◌, ◌++◌, ◌-◌}
use Rattle.std.specs.List.{range_with_len}
use Rattle.om_laws.specs.Dual.{complement}
use Rattle.om_laws.specs.Tuples.{sort_sign}
use Rattle.om_denotation.proofs.duality.listing_sign.Given as goal

abbrev pub invariant-loop-e : goal.invariant-loop-e
invariant-loop-e l = l.sign ≡ sort_sign (l.s.elements ++ complement (range_with_len 1 (l.e - 1)) l.s.elements)
