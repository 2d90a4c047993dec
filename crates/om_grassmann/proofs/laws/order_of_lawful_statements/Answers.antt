use Rattle.om_grassmann.proofs.OrderLaws.{before_total}
use Rattle.om_grassmann.proofs.laws.order_of_lawful_statements.Goals as goal

pub returns-clause-total : goal.returns-clause-total
returns-clause-total c = before_total
