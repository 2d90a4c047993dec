use Rattle.om_grassmann.proofs.BracketLaws.{nonzero_sides, four_brackets}
use Rattle.om_grassmann.proofs.laws.brackets_of_lawful_statements.Goals as goal

pub returns-clause-nonzero : goal.returns-clause-nonzero
returns-clause-nonzero c = nonzero_sides

pub returns-clause-differ : goal.returns-clause-differ
returns-clause-differ c = four_brackets
