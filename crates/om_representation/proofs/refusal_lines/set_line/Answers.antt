use Rattle.std.proofs.Common.{rules}
use Rattle.om_representation.proofs.refusal_lines.set_line.Goals as goal

pub returns-in-Nested : goal.returns-in-Nested
returns-in-Nested c = search rules
