use Rattle.std.proofs.Common.{length}
use Rattle.om_matroid.proofs.RankLaws.{IsRankBefore}
use Rattle.om_matroid.proofs.ranks.rank_of.Given as goal

abbrev pub invariant-loop-b : goal.invariant-loop-b
invariant-loop-b l = (goal.iterator-loop-b).can_next l.b-iterator × (goal.iterator-loop-b).is_finite l.b-iterator
    × IsRankBefore l.chi l.s.elements (length l.yielded) l.most
