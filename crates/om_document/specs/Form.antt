-- The forms and the limits of a document's value.
--
-- Trusted: `parse` promises them, and `print` requires them.
use Rattle.std.specs.Prelude.{ℕ, ◌≡◌, ◌≢◌, ◌≤◌, ◌⊎◌, ℤ, List, [], true, length, All, AllPairs}
use Rattle.om_signs.specs.declared.limits.TheConstants.{MAX_ELEMENTS, MAX_MEMBERS, MAX_VALUES, MAX_BLOCKS, MAX_POSITION}
use Rattle.om_signs.specs.declared.block.Block.{Block}
use Rattle.om_signs.specs.declared.sign.Sign.{Sign}
use Rattle.om_signs.specs.declared.raw_map.RawMap.{RawMap}
use Rattle.om_signs.specs.Coordinates.{IsCoordinate}
use Rattle.om_subsets.specs.Subsets.{choose}
use Rattle.om_document.specs.declared.document.Document.{Document}
use Rattle.om_document.specs.declared.body.Body.{Body}
use Rattle.om_document.specs.declared.body.Body.TheVariants.{Chirotope, Wiring, Points}
use Rattle.om_document.specs.Members.{members_of}
use Rattle.om_document.specs.Names.{are_names}

-- a map on n elements, with a value for each set of its rank, and no more values than a map may have
pub record IsMapOn (n : ℕ) (m : RawMap) : Type 0 where
  pub elements : m.elements ≡ n
  pub rank : m.rank ≤ n
  pub signs : length m.signs ≡ choose n m.rank
  pub few : choose n m.rank ≤ MAX_VALUES

-- distinct sign vectors on n elements, no more than a list may have
pub record AreMembersOn (n : ℕ) (ms : List (List Sign)) : Type 0 where
  pub few : length ms ≤ MAX_MEMBERS
  pub long : All (λ x. length x ≡ n) ms
  pub distinct : AllPairs (λ x y. x ≢ y) ms

-- a block whose positions are written with at most MAX_POSITION_DIGITS digits
pub record IsShort (b : Block) : Type 0 where
  pub first : b.first ≤ MAX_POSITION
  pub last : b.last ≤ MAX_POSITION

-- such blocks, no more than a wiring may have
pub record AreBlocks (bs : List Block) : Type 0 where
  pub few : length bs ≤ MAX_BLOCKS
  pub short : All IsShort bs

-- three coordinates in range
pub record IsPoint (p : List ℤ) : Type 0 where
  pub three : length p ≡ 3
  pub small : All IsCoordinate p

-- a point for each of n elements
pub record ArePointsOn (n : ℕ) (ps : List (List ℤ)) : Type 0 where
  pub count : length ps ≡ n
  pub each : All IsPoint ps

-- a body on n elements
abbrev pub IsBodyOn : ℕ → Body → Type 0
IsBodyOn n (Chirotope m) = IsMapOn n m
IsBodyOn n (Wiring bs) = AreBlocks bs
IsBodyOn n (Points ps) = ArePointsOn n ps
IsBodyOn n b = AreMembersOn n (members_of b)

-- no names, or a name for each of n elements
abbrev pub AreNamesOn : ℕ → List (List ℕ) → Type 0
AreNamesOn n names = (names ≡ []) ⊎ (are_names n names ≡ true)

-- a document within the limits
pub record IsInForm (d : Document) : Type 0 where
  pub low : 1 ≤ d.elements
  pub high : d.elements ≤ MAX_ELEMENTS
  pub body : IsBodyOn d.elements d.body
  pub names : AreNamesOn d.elements d.names
