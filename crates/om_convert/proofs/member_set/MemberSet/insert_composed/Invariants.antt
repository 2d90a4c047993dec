use Rattle.om_convert.proofs.GatheringLaws.{AreComposedBelow}
use Rattle.om_convert.proofs.member_set.MemberSet.insert_composed.Given as goal

abbrev pub invariant-loop-y : goal.invariant-loop-y
invariant-loop-y l = AreComposedBelow l.x l.ys l.y-index l.initial.self l.self l.before l.last
