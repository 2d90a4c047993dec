-- The lexicographic extension of the chirotope of a document.
use Rattle.std.specs.Prelude.{ℕ, ◌≡◌, ◌<◌, ◌≤◌, ◌+◌, List, Some, None}
use Rattle.om_signs.specs.declared.limits.TheConstants.{MAX_ELEMENTS, MAX_VALUES}
use Rattle.om_subsets.specs.Subsets.{choose}
use Rattle.om_chirotope.specs.Map.{SignMap}
use Rattle.om_lexext.specs.declared.signed.Signed.{Signed}
use Rattle.om_lexext.specs.Lexicographic.{IsLexicographicExtension}
use Rattle.om_document.specs.declared.document.Document.{Document}
use Rattle.om_document.specs.Form.{IsInForm}
use Rattle.om_printing.specs.declared.line.Line.TheVariants as line
use Rattle.om_reply.specs.declared.answer.Answer.{Answer}
use Rattle.om_words.specs.Tasks.{given_list, elements_of}
use Rattle.om_words.specs.declared.leading.Leading.{Leading}
use Rattle.om_reply.specs.Answers.{says, shows}
use Rattle.om_representation.specs.Axioms.{MeetsAxioms}
use Rattle.om_representation.specs.Documents.{map_document}
use Rattle.om_reply.specs.Above.{first_above}
use Rattle.om_representation.specs.AnyRank.{IsForKeptChirotope}

-- the lexicographic extension of a map by elements with signs
pub data IsExtensionOfMap (list : List Signed) (m : SignMap) : Answer → Type 0 where
  -- it would have more values than a document may hold
  limited : MAX_VALUES < choose (m.elements + 1) m.rank
      → IsExtensionOfMap list m (says (line.LimitValues (choose (m.elements + 1) m.rank)))
  -- the document of the extension, which isn't made normal
  extended : (x : SignMap) (e : Document) → choose (m.elements + 1) m.rank ≤ MAX_VALUES
      → IsLexicographicExtension m list x → e ≡ map_document x → IsInForm e → MeetsAxioms e
      → IsExtensionOfMap list m (shows e)

-- the lexicographic extension of a document
pub data IsLexicalExtension (l : Leading) (d : Document) : Answer → Type 0 where
  -- the first listed element that is above the number of elements
  outside : (e : ℕ) → first_above d.elements (elements_of (given_list l)) ≡ Some e
      → IsLexicalExtension l d (says (line.RefusedPlace e))
  -- the document has the greatest number of elements already
  full : first_above d.elements (elements_of (given_list l)) ≡ None → d.elements ≡ MAX_ELEMENTS
      → IsLexicalExtension l d (says (line.RefusedFull d.elements))
  -- the extension of the chirotope of the document
  fewer : (answer : Answer) → first_above d.elements (elements_of (given_list l)) ≡ None → d.elements < MAX_ELEMENTS
      → IsForKeptChirotope says (IsExtensionOfMap (given_list l)) d answer → IsLexicalExtension l d answer
