use Rattle.om_convert.proofs.MeetingLaws.{meets_test}
use Rattle.om_convert.proofs.hitting.meets.Goals as goal

pub returns : goal.returns
returns c = meets_test c.args.s.n c.args.y c.args.s.elements c.support.result c.mask.result c.requires
    c.mask.ensures.lawful c.support.ensures c.mask.ensures.bits
