-- Documents of chirotopes of rank 3, and what is at fault with others.
use Rattle.std.specs.Prelude.{ℕ, ◌≡◌, ◌≢◌, ◌<◌, ◌≤◌, List, length}
use Rattle.om_signs.specs.declared.limits.TheConstants.{MAX_INPUT}
use Rattle.om_signs.specs.declared.raw_map.RawMap.{RawMap}
use Rattle.om_chirotope.specs.Map.{SignMap, map_of}
use Rattle.om_chirotope.specs.Chirotope.{IsChirotope}
use Rattle.om_document.specs.declared.body.Body.TheVariants.{Chirotope}
use Rattle.om_document.specs.declared.code.Code.{Code}
use Rattle.om_document.specs.declared.document.Document.{Document}
use Rattle.om_document.specs.Document.{IsDocument}
use Rattle.om_lines.specs.Lines.{lines}
use Rattle.om_text.specs.Fault.{IsFault}
use Rattle.om_classification.specs.declared.fault.Fault.{Fault}
use Rattle.om_classification.specs.declared.fault.Fault.TheVariants.{Long, Line, Kind, Axioms, Rank}

-- the piece is a document of the map, of any rank, whether or not it meets the axioms
pub record IsDocumentOf (piece : List ℕ) (m : SignMap) : Type 0 where
  pub document : Document
  pub raw : RawMap
  pub short : length piece ≤ MAX_INPUT
  pub spelled : IsDocument (lines piece) document
  pub body : document.body ≡ Chirotope raw
  pub map : m ≡ map_of raw

-- the piece is a document of m, and m is a chirotope of rank 3
pub record IsMember (piece : List ℕ) (m : SignMap) : Type 0 where
  pub document : IsDocumentOf piece m
  pub axioms : IsChirotope m
  pub rank : m.rank ≡ 3

-- what is at fault with a piece
pub data IsAtFault (piece : List ℕ) : Fault → Type 0 where
  -- it is longer than the limit
  long : MAX_INPUT < length piece → IsAtFault piece Long
  -- a line is at fault
  line : (n : ℕ) (c : Code) → length piece ≤ MAX_INPUT → IsFault (lines piece) n c → IsAtFault piece (Line n c)
  -- it is a document of another kind
  kind : (d : Document) → length piece ≤ MAX_INPUT → IsDocument (lines piece) d
      → ((raw : RawMap) → d.body ≢ Chirotope raw) → IsAtFault piece Kind
  -- its map fails the axioms
  axioms : (m : SignMap) → IsDocumentOf piece m → (IsChirotope m → ⊥) → IsAtFault piece Axioms
  -- it is a chirotope of another rank
  rank : (m : SignMap) → IsDocumentOf piece m → IsChirotope m → m.rank ≢ 3 → IsAtFault piece Rank
