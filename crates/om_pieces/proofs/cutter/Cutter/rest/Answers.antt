use Rattle.std.proofs.Common.{rules}
use Rattle.om_pieces.proofs.cutter.Cutter.rest.Goals as goal

pub returns-else-last-clause-piece : goal.returns-else-last-clause-piece
returns-else-last-clause-piece c = search rules

pub returns-then-last-clause-anew : goal.returns-then-last-clause-anew
returns-then-last-clause-anew c = search rules

pub returns-else-last-clause-anew : goal.returns-else-last-clause-anew
returns-else-last-clause-anew c = search rules
