use Rattle.std.proofs.Common.{◌≡◌, take}
use Rattle.om_convert.proofs.member_set.MemberSet.into_list.Given as goal

abbrev pub invariant-loop-x : goal.invariant-loop-x
invariant-loop-x l = l.list ≡ take l.x-index l.x-items
