use Rattle.std.proofs.Common.{rules}
use Rattle.om_answer.proofs.block_lines.entry_numbers.Goals as goal

pub returns-clause-value : goal.returns-clause-value
returns-clause-value c = search rules
