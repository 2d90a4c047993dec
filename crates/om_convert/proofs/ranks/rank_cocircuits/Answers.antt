use Rattle.om_convert.proofs.RankLaws.{rank_of_cocircuits}
use Rattle.om_convert.proofs.ranks.rank_cocircuits.Goals as goal

pub returns-clause-rank : goal.returns-clause-rank
returns-clause-rank c = rank_of_cocircuits c.args.c.now.0 c.elements.result c.members.result.now
    c.minimal_meeting.result.elements c.elements.ensures.value c.members.ensures.value c.minimal_meeting.ensures.lawful
    c.minimal_meeting.ensures.minimal
    c.size.result c.size.ensures.value c.members.ensures.lawful
