-- What an answer, of any type, means for an oriented matroid that a document gives.
use Rattle.om_document.specs.declared.document.Document.{Document}
use Rattle.om_representation.specs.declared.representation.Representation.{Representation}
use Rattle.om_representation.specs.Documents.{document_of}

-- the answer means this for the document of the representation
abbrev pub IsMeantFor : {A : Type 0} → (Document → A → Type 0) → Representation → A → Type 0
IsMeantFor Meaning r answer = Meaning (document_of r) answer
