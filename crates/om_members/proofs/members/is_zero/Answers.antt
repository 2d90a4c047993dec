use Rattle.om_members.proofs.MaskLaws.{zero_test}
use Rattle.om_members.proofs.members.is_zero.Goals as goal

pub returns : goal.returns
returns c = zero_test c.args.x c.support.result c.support.ensures
