use Rattle.std.proofs.Common.{◌≡◌, map, take}
use Rattle.om_subsets.specs.Reverse.{revlex_subsets}
use Rattle.om_chirotope.specs.Map.{chi_of}
use Rattle.om_least.proofs.order.is_before.Given as goal

abbrev pub invariant-loop-place : goal.invariant-loop-place
invariant-loop-place l =
    take l.place (map (chi_of l.a) (revlex_subsets l.elements l.rank))
    ≡ take l.place (map (chi_of l.b) (revlex_subsets l.elements l.rank))
