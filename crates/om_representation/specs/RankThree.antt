-- Commands of rank 3 that work on the chirotope of the document, whatever the number of its values. A chirotope
-- with more values than a document may hold has another rank. Answers are of any type.
use Rattle.om_chirotope.specs.Map.{SignMap}
use Rattle.om_document.specs.declared.document.Document.{Document}
use Rattle.om_representation.specs.Chirotopes.{IsChirotopeOf}

-- the answer means this for the chirotope of the document
pub data IsForChirotope {A : Type 0} (Meaning : SignMap → A → Type 0) (d : Document) : A → Type 0 where
  -- the chirotope, and what it means
  for_chirotope : (m : SignMap) (answer : A) → IsChirotopeOf d m → Meaning m answer
      → IsForChirotope Meaning d answer
