-- What is answered once a document was held against the axioms of its kind.
use Rattle.om_document.specs.declared.document.Document.{Document}
use Rattle.om_reply.specs.declared.answer.Answer.{Answer}
use Rattle.om_reply.specs.Answers.{says}
use Rattle.om_representation.specs.declared.document_refused.DocumentRefused.{DocumentRefused}
use Rattle.om_representation.specs.Axioms.{MeetsAxioms, IsRefused}
use Rattle.om_representation.specs.RefusalLines.{refused_line}

-- the answer to a document that is held against its axioms first, and means this where it meets them
pub data IsChecked (d : Document) (Meaning : Answer → Type 0) : Answer → Type 0 where
  -- it fails the axioms of its kind, and this line names the first violated instance
  refused : (why : DocumentRefused) → IsRefused d why → IsChecked d Meaning (says (refused_line why))
  -- it meets them
  met : (answer : Answer) → MeetsAxioms d → Meaning answer → IsChecked d Meaning answer
