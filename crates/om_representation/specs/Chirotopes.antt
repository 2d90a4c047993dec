-- The chirotope of a document, with any number of values.
use Rattle.std.specs.Prelude.{◌≡◌}
use Rattle.om_signs.specs.declared.sign.Sign.TheVariants.{Plus}
use Rattle.om_chirotope.specs.Chirotope.{IsChirotope}
use Rattle.om_chirotope.specs.Map.{SignMap, map_of, IsLedBy}
use Rattle.om_denotation.specs.Covectors.{IsCovectorOfChirotope}
use Rattle.om_denotation.specs.Denotation.{DenoteTheSame}
use Rattle.om_document.specs.declared.document.Document.{Document}
use Rattle.om_document.specs.declared.body.Body.{Body}
use Rattle.om_document.specs.declared.body.Body.TheVariants as body
use Rattle.om_representation.specs.Covectors.{IsCovectorIn}

-- The normal chirotope of what a document denotes: it has the same elements and the same covectors, and its first
-- nonzero sign is plus.
pub record IsNormalChirotopeOf (d : Document) (c : SignMap) : Type 0 where
  pub axioms : IsChirotope c
  pub elements : c.elements ≡ d.elements
  pub same : DenoteTheSame d.elements (IsCovectorIn d) (IsCovectorOfChirotope c)
  pub normal : IsLedBy Plus c.signs

-- the given map, or the normal chirotope of a list
abbrev pub IsChirotopeWith : Body → Document → SignMap → Type 0
IsChirotopeWith (body.Chirotope m) d c = c ≡ map_of m
IsChirotopeWith _ d c = IsNormalChirotopeOf d c

-- the map is the chirotope of the document of a chirotope or of a list
abbrev pub IsChirotopeOf : Document → SignMap → Type 0
IsChirotopeOf d c = IsChirotopeWith d.body d c
