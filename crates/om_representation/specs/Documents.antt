-- The documents of values, and the document on which the commands work. They have no names.
use Rattle.std.specs.Prelude.{ℕ, []}
use Rattle.om_signs.specs.declared.raw_map.RawMap.{RawMap}
use Rattle.om_chirotope.specs.Map.{SignMap}
use Rattle.om_members.specs.Listings.{Listing}
use Rattle.om_wiring.specs.Maps.{wiring_map}
use Rattle.om_document.specs.declared.document.Document.{Document}
use Rattle.om_document.specs.declared.body.Body.{Body}
use Rattle.om_document.specs.declared.body.Body.TheVariants as body
use Rattle.om_representation.specs.declared.representation.Representation.{Representation}
use Rattle.om_representation.specs.declared.representation.Representation.TheVariants as representation
use Rattle.om_representation.specs.Points.{points_map}

-- a map in the form in which a document holds it
abbrev pub raw_of : SignMap → RawMap
raw_of m = record { rank = m.rank; elements = m.elements; signs = m.signs }

-- the document of a map
abbrev pub map_document : SignMap → Document
map_document m = record { elements = m.elements; body = body.Chirotope (raw_of m); names = [] }

-- the documents of lists
abbrev pub circuits_document : Listing → Document
circuits_document s = record { elements = s.elements; body = body.Circuits s.members; names = [] }

abbrev pub cocircuits_document : Listing → Document
cocircuits_document s = record { elements = s.elements; body = body.Cocircuits s.members; names = [] }

abbrev pub covectors_document : Listing → Document
covectors_document s = record { elements = s.elements; body = body.Covectors s.members; names = [] }

-- the document of a representation
abbrev pub document_of : Representation → Document
document_of (representation.Chirotope c) = map_document c
document_of (representation.Circuits c) = circuits_document c.0
document_of (representation.Cocircuits c) = cocircuits_document c.0
document_of (representation.Covectors c) = covectors_document c

-- a document of n elements and a body, in which points or a wiring are replaced by their map
abbrev pub with_map : ℕ → Body → Document
with_map n (body.Points points) = map_document (points_map points)
with_map n (body.Wiring blocks) = map_document (wiring_map n blocks)
with_map n b = record { elements = n; body = b; names = [] }

-- The document on which the commands work. For points and wirings it is that of their map, and else the document
-- itself, without its names. It is a chirotope, or a list of circuits, of cocircuits or of covectors.
abbrev pub worked_on : Document → Document
worked_on d = with_map d.elements d.body
