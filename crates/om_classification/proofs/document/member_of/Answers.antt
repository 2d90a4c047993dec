use Rattle.om_classification.proofs.Documents.{fault_read, other_kind, same_fault}
use Rattle.om_classification.proofs.document.member_of.Goals as goal

pub returns-clause-fault : goal.returns-clause-fault
returns-clause-fault g c = λ why e piece short spelled.
    fault_read c.args.document c.in-Chirotope.raw why c.in-Chirotope.is (c.chirotope_of.ensures.fault why e) piece short
    spelled

pub returns-in_default-clause-fault : goal.returns-in_default-clause-fault
returns-in_default-clause-fault g c = λ why e piece short spelled.
    other_kind c.args.document why (same_fault _ _ e) c.in_default.not-Chirotope piece short spelled
