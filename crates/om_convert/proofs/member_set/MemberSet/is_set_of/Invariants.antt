use Rattle.std.specs.List.{Contains}
use Rattle.om_members.specs.Scans.{AllBelow, nth}
use Rattle.om_convert.proofs.member_set.MemberSet.is_set_of.Given as goal

abbrev pub invariant-loop-x : goal.invariant-loop-x
invariant-loop-x l = AllBelow l.x-index (λ k. Contains l.self (nth l.list k))
