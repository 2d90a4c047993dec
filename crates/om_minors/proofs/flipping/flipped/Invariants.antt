use Rattle.std.proofs.Common.{◌≡◌, ◌++◌, map, take, drop}
use Rattle.om_signs.specs.SignVec.{flip}
use Rattle.om_minors.proofs.flipping.flipped.Given as goal

abbrev pub invariant-loop-k : goal.invariant-loop-k
invariant-loop-k l = l.flipped ≡ map (flip l.fn.mask) (take l.k l.fn.list) ++ drop l.k l.fn.list
