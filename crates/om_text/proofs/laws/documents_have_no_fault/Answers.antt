use Rattle.om_text.proofs.Outcome.{no_fault}
use Rattle.om_text.proofs.laws.documents_have_no_fault.Goals as goal

pub returns : goal.returns
returns c = no_fault
