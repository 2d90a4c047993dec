use Rattle.std.proofs.Common.{below_more}
use Rattle.om_commands.proofs.LeadingLaws.{not_above, element_found, none_found}
use Rattle.om_commands.proofs.lexical_extension.place_above.Goals as goal

pub returns-then-n-x : goal.returns-then-n-x
returns-then-n-x c = element_found _ _ _ _ c.loop-x-test.true c.loop-x.invariant c.if-n-x.true

pub loop-x-preserved : goal.loop-x-preserved
loop-x-preserved c = below_more _ _ c.loop-x.invariant (not_above _ _ _ _ c.loop-x-test.true c.if-n-x.false)

pub returns : goal.returns
returns c = none_found _ _ _ c.loop-x-test.false c.loop-x.invariant
