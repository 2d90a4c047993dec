use Rattle.om_text.proofs.Outcome.{document_or_fault}
use Rattle.om_text.proofs.laws.inputs_are_documents_or_have_faults.Goals as goal

pub returns : goal.returns
returns c = document_or_fault
