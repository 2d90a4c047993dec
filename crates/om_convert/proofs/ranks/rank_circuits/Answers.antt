use Rattle.om_convert.proofs.RankLaws.{rank_of_circuits}
use Rattle.om_convert.proofs.ranks.rank_circuits.Goals as goal

pub returns-clause-rank : goal.returns-clause-rank
returns-clause-rank c = rank_of_circuits c.args.c.now.0 c.elements-elements.result c.members.result.now
    c.minimal_meeting.result.elements c.elements-elements.ensures.value c.members.ensures.value
    c.minimal_meeting.ensures.lawful c.minimal_meeting.ensures.minimal
    c.size.result c.size.ensures.value c.members.ensures.lawful
