-- What bytes say about an oriented matroid, and why they give none.
use Rattle.std.specs.Prelude.{ℕ, ◌≡◌, List}
use Rattle.om_signs.specs.declared.limits.TheConstants.{MAX_MEMBERS}
use Rattle.om_signs.specs.declared.raw_map.RawMap.{RawMap}
use Rattle.om_members.specs.Listings.{Listing}
use Rattle.om_chirotope.specs.Chirotope.{IsChirotope, IsAllZero, IsFirstViolated}
use Rattle.om_chirotope.specs.Map.{SignMap, map_of}
use Rattle.om_chirotope.specs.declared.map_refused.MapRefused.{MapRefused}
use Rattle.om_chirotope.specs.declared.map_refused.MapRefused.TheVariants.{AllZero, Relation}
use Rattle.om_denotation.specs.Covectors.{IsCovectorOfChirotope}
use Rattle.om_denotation.specs.Listings.{AreAllOf, HasMoreThan}
use Rattle.om_document.specs.declared.body.Body.{Body}
use Rattle.om_document.specs.declared.body.Body.TheVariants as body
use Rattle.om_document.specs.declared.document.Document.{Document}
use Rattle.om_document.specs.Document.{IsDocument}
use Rattle.om_text.specs.Fault.{IsFault}
use Rattle.om_lines.specs.Lines.{lines}
use Rattle.om_callers.specs.declared.not_read.NotRead.{NotRead}
use Rattle.om_callers.specs.declared.not_read.NotRead.TheVariants.{Line, Kind, Axioms, TooMany, Memory}

-- the bytes are a document with this body
pub record IsTextOf (bytes : List ℕ) (b : Body) : Type 0 where
  pub document : Document
  pub reads : IsDocument (lines bytes) document
  pub same : document.body ≡ b

-- the map is a chirotope, and these are its covectors
pub record AreCovectorsOfMap (m : SignMap) (covectors : Listing) : Type 0 where
  pub axioms : IsChirotope m
  pub elements : covectors.elements ≡ m.elements
  pub members : AreAllOf (IsCovectorOfChirotope m) covectors.members

-- the bytes are the document of a chirotope, and these are its covectors
pub record AreCovectorsOfText (bytes : List ℕ) (covectors : Listing) : Type 0 where
  pub map : RawMap
  pub text : IsTextOf bytes (body.Chirotope map)
  pub listed : AreCovectorsOfMap (map_of map) covectors

-- why a map is no chirotope
abbrev pub IsViolated : RawMap → MapRefused → Type 0
IsViolated m AllZero = IsAllZero m.signs
IsViolated m (Relation s a) = IsFirstViolated (map_of m) s a

-- the map is a chirotope with more covectors than a list may have, and the error gives this limit
pub record HasTooManyCovectors (m : SignMap) (limit : ℕ) : Type 0 where
  pub axioms : IsChirotope m
  pub named : limit ≡ MAX_MEMBERS
  pub more : HasMoreThan MAX_MEMBERS (IsCovectorOfChirotope m)

-- why a map gives no covectors
abbrev pub IsCauseOfMap : RawMap → NotRead → Type 0
IsCauseOfMap m (Axioms why) = IsViolated m why
IsCauseOfMap m (TooMany limit) = HasTooManyCovectors (map_of m) limit
IsCauseOfMap m Memory = Unit {0}
IsCauseOfMap m _ = ⊥

-- a body of another kind
abbrev pub IsNoMap : Body → Type 0
IsNoMap b = (m : RawMap) → b ≡ body.Chirotope m → ⊥

-- the bytes are the document of a map that gives no covectors
pub record IsCauseInMap (bytes : List ℕ) (why : NotRead) : Type 0 where
  pub map : RawMap
  pub text : IsTextOf bytes (body.Chirotope map)
  pub cause : IsCauseOfMap map why

-- the bytes are a document of another kind
pub record IsOfAnotherKind (bytes : List ℕ) : Type 0 where
  pub other : Body
  pub text : IsTextOf bytes other
  pub no_map : IsNoMap other

-- why bytes give no covectors
abbrev pub IsCause : List ℕ → NotRead → Type 0
IsCause bytes (Line line code) = IsFault (lines bytes) line code
IsCause bytes Kind = IsOfAnotherKind bytes
IsCause bytes Memory = Unit {0}
IsCause bytes why = IsCauseInMap bytes why
