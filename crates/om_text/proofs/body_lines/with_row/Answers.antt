use Rattle.std.proofs.Common.{rules, tests}
use Rattle.om_text.proofs.Distinct.{member_tested}
use Rattle.om_text.proofs.body_lines.with_row.Goals as goal

pub returns-then-len-gt-MAX_MEMBERS : goal.returns-then-len-gt-MAX_MEMBERS
returns-then-len-gt-MAX_MEMBERS c =
    rw (member_tested c.args.members c.as_slice.result.now c.args.member c.contains.result c.contains.ensures.value
    c.as_slice.ensures) (search (tests, rules))

pub returns : goal.returns
returns c =
    rw (member_tested c.args.members c.as_slice.result.now c.args.member c.contains.result c.contains.ensures.value
    c.as_slice.ensures) (search (tests, rules))
