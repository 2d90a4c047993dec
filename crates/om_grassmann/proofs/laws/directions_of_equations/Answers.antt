use Rattle.om_grassmann.proofs.Directions.{exchanged_lawful, exchanged_strict}
use Rattle.om_grassmann.proofs.laws.directions_of_equations.Goals as goal

pub returns-clause-equation : goal.returns-clause-equation
returns-clause-equation c = exchanged_lawful

pub returns-clause-strict : goal.returns-clause-strict
returns-clause-strict c = exchanged_strict
