-- Lists whose chirotope has more values than a document may hold, and why there is no chirotope to work on.
use Rattle.std.specs.Prelude.{ℕ, ◌≡◌, ◌≢◌, ◌<◌, ◌≤◌}
use Rattle.om_signs.specs.declared.limits.TheConstants.{MAX_VALUES}
use Rattle.om_subsets.specs.Subsets.{choose}
use Rattle.om_chirotope.specs.Map.{SignMap}
use Rattle.om_document.specs.declared.document.Document.{Document}
use Rattle.om_document.specs.declared.body.Body.{Body}
use Rattle.om_document.specs.declared.body.Body.TheVariants as body
use Rattle.om_representation.specs.declared.unchosen.Unchosen.{Unchosen}
use Rattle.om_representation.specs.declared.unchosen.Unchosen.TheVariants as unchosen
use Rattle.om_representation.specs.Chirotopes.{IsChirotopeOf}

-- the body is a list of circuits, of cocircuits or of covectors
abbrev pub IsList : Body → Type 0
IsList (body.Circuits members) = Unit {0}
IsList (body.Cocircuits members) = Unit {0}
IsList (body.Covectors members) = Unit {0}
IsList _ = ⊥

-- the document is a list, and its chirotope has `values` values, which is more than a document may hold
pub record IsTooWide (d : Document) (values : ℕ) : Type 0 where
  pub list : IsList d.body
  pub map : SignMap
  pub of : IsChirotopeOf d map
  pub number : values ≡ choose map.elements map.rank
  pub wide : MAX_VALUES < values

-- the document isn't a list whose chirotope has more values than a document may hold
abbrev pub IsKept : Document → Type 0
IsKept d = (values : ℕ) → IsTooWide d values → ⊥

-- a map has at most as many values as a document may hold
abbrev pub HasFewValuesIn : Body → Type 0
HasFewValuesIn (body.Chirotope m) = choose m.elements m.rank ≤ MAX_VALUES
HasFewValuesIn _ = Unit {0}

abbrev pub HasFewValues : Document → Type 0
HasFewValues d = HasFewValuesIn d.body

-- a map of a rank other than 3 has at most as many values as a document may hold; a map of rank 3 always has
abbrev pub HasFewValuesUnlessRank3In : Body → Type 0
HasFewValuesUnlessRank3In (body.Chirotope m) = m.rank ≢ 3 → choose m.elements m.rank ≤ MAX_VALUES
HasFewValuesUnlessRank3In _ = Unit {0}

abbrev pub HasFewValuesUnlessRank3 : Document → Type 0
HasFewValuesUnlessRank3 d = HasFewValuesUnlessRank3In d.body

-- the document is a list, and its chirotope has this rank, which isn't 3, and too many values
pub record IsTooWideOfRank (d : Document) (rank values : ℕ) : Type 0 where
  pub width : IsTooWide d values
  pub value : rank ≡ width.map.rank
  pub other : rank ≢ 3

-- why there is no chirotope to work on: it has too many values, or memory ran out for it; both happen for lists
-- alone
abbrev pub IsUnchosen : Document → Unchosen → Type 0
IsUnchosen d (unchosen.TooWide rank values) = IsTooWideOfRank d rank values
IsUnchosen d unchosen.Memory = IsList d.body
