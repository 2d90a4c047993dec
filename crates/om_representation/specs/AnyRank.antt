-- Commands of any rank that work on the chirotope of the document. If the chirotope has more values than a document
-- may hold, they answer that it has. Answers are of any type that has lines among its values.
use Rattle.std.specs.Prelude.{ℕ}
use Rattle.om_chirotope.specs.Map.{SignMap}
use Rattle.om_document.specs.declared.document.Document.{Document}
use Rattle.om_printing.specs.declared.line.Line.{Line}
use Rattle.om_printing.specs.declared.line.Line.TheVariants as line
use Rattle.om_representation.specs.Chirotopes.{IsChirotopeOf}
use Rattle.om_representation.specs.Widths.{IsTooWide, IsKept}

-- the answer means this for the chirotope of the document, unless the chirotope is too wide
pub data IsForKeptChirotope {A : Type 0} (says : Line → A) (Meaning : SignMap → A → Type 0) (d : Document)
    : A → Type 0 where
  -- the document is a list, and its chirotope would have more values than a document may hold
  wide : (values : ℕ) → IsTooWide d values → IsForKeptChirotope says Meaning d (says (line.LimitValues values))
  -- the chirotope, and what it means
  kept : (m : SignMap) (answer : A) → IsKept d → IsChirotopeOf d m → Meaning m answer
      → IsForKeptChirotope says Meaning d answer
