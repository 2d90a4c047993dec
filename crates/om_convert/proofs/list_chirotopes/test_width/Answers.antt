use Rattle.std.proofs.Common.{rules}
use Rattle.om_convert.proofs.list_chirotopes.test_width.Goals as goal

pub returns-then-values-gt-MAX_VALUES-clause-wide : goal.returns-then-values-gt-MAX_VALUES-clause-wide
returns-then-values-gt-MAX_VALUES-clause-wide c = search rules
