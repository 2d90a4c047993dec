use Rattle.std.proofs.Common.{rules, tests}
use Rattle.om_convert.proofs.member_set.MemberSet.is_full.Goals as goal

pub returns : goal.returns
returns c = search (tests, rules)
