use Rattle.std.proofs.Common.{rules}
use Rattle.om_representation.proofs.refusal_lines.rank_line.Goals as goal

pub returns-in-TooWide-clause-line : goal.returns-in-TooWide-clause-line
returns-in-TooWide-clause-line c = search rules
