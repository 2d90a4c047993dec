-- The step from a list on n elements to one on n + 1.
--
-- Reference: Björner, Las Vergnas, Sturmfels, White and Ziegler, Oriented Matroids, chapter 7.
use Rattle.std.specs.Prelude.{ℕ, ◌≡◌, ◌≢◌, ◌+◌, ◌<◌, List, length, All, true}
use Rattle.std.specs.List.{Contains}
use Rattle.om_signs.specs.declared.sign.Sign.{Sign}
use Rattle.om_signs.specs.declared.limits.TheConstants.{MAX_ELEMENTS, MAX_LINES}
use Rattle.om_chirotope.specs.Map.{SignMap}
use Rattle.om_localize.specs.Extensions.{IsSignature}
use Rattle.om_localize.specs.Listings.{AreFirst}
use Rattle.om_covers.specs.Growing.{grown}
use Rattle.om_covers.specs.Covers.{IsCoverByLines}
use Rattle.om_levels.specs.declared.family.Family.{Family}
use Rattle.om_levels.specs.declared.lookup.Lookup.{Lookup}
use Rattle.om_levels.specs.declared.lookup.Lookup.TheVariants.{NotTried, At, Nowhere}
use Rattle.om_levels.specs.declared.reaching.Reaching.{Reaching}
use Rattle.om_levels.specs.declared.reaching.Reaching.TheVariants.{Places, Missing as Lost, TooMany as Many}
use Rattle.om_levels.specs.declared.verdict.Verdict.{Verdict}
use Rattle.om_levels.specs.declared.verdict.Verdict.TheVariants.{Complete, Missing, Unmet, TooMany}
use Rattle.om_levels.specs.Families.{IsHalfOf}
use Rattle.om_levels.specs.Levels.{Members, IsMemberAt, IsIsomorphicTo}

-- the extension of c with these signs is one that is tried, and it is isomorphic to the member of the list at the place
pub record IsMetAt (T : List Sign → Type 0) (c : SignMap) (maps : List SignMap) (place : ℕ) : Type 0 where
  pub signs : List Sign
  pub signature : IsSignature c signs
  pub tried : T signs
  pub found : IsIsomorphicTo maps (grown c signs) place

-- the map is isomorphic to the member of the list at one of these places
pub record IsAmong (maps : List SignMap) (places : List ℕ) (m : SignMap) : Type 0 where
  pub place : ℕ
  pub listed : Contains places place
  pub found : IsIsomorphicTo maps m place

-- each extension of c that is tried is isomorphic to the member of the list at one of the places, and each place is
-- that of such a member
pub record ArePlaces (T : List Sign → Type 0) (c : SignMap) (maps : List SignMap) (places : List ℕ) : Type 0 where
  pub taken : (signs : List Sign) → IsSignature c signs → T signs → IsAmong maps places (grown c signs)
  pub met : All (IsMetAt T c maps) places

-- a search for the extensions of a map with these signs among members that have one element more
pub record Search : Type 0 where
  pub family : Family
  pub map : SignMap
  pub lines : List (List Sign)
  pub members : Members

-- the signs are signatures of a map of rank 3
pub record IsSearch (s : Search) : Type 0 where
  pub rank : s.map.rank ≡ 3
  pub room : s.map.elements < MAX_ELEMENTS
  pub elements : s.members.elements ≡ s.map.elements + 1
  pub signatures : All (IsSignature s.map) s.lines

-- what is found about the extension of c with these signs
abbrev pub IsLookup : (List Sign → Type 0) → SignMap → List SignMap → List Sign → Lookup → Type 0
IsLookup T c maps signs NotTried = T signs → ⊥
IsLookup T c maps signs (At place) = T signs × IsIsomorphicTo maps (grown c signs) place
IsLookup T c maps signs Nowhere = T signs

-- a signature of c of which the extension is tried
pub record IsTried (T : List Sign → Type 0) (c : SignMap) (signs : List Sign) : Type 0 where
  pub signature : IsSignature c signs
  pub tried : T signs

-- more signatures than a listing may have
abbrev pub HasTooManySignatures : SignMap → Type 0
HasTooManySignatures c = (lines : List (List Sign)) × AreFirst (IsSignature c) MAX_LINES lines true

-- the map is isomorphic to a member of the list at another place
pub record IsElsewhere (maps : List SignMap) (place : ℕ) (m : SignMap) : Type 0 where
  pub other : ℕ
  pub differs : other ≢ place
  pub found : IsIsomorphicTo maps m other

-- each extension of a member of the first list that is tried is isomorphic to a member of the next one at another place
pub record IsPassedOver (T : List Sign → Type 0) (maps next : List SignMap) (place : ℕ) : Type 0 where
  pub below : place < length next
  pub elsewhere : (c : SignMap) (signs : List Sign) → Contains maps c → IsSignature c signs → T signs
      → IsElsewhere next place (grown c signs)

-- what is found about the extensions of one member
abbrev pub IsReaching : Family → SignMap → List SignMap → Reaching → Type 0
IsReaching family c maps (Places places) = ArePlaces (IsHalfOf family c.elements) c maps places
IsReaching family c maps (Lost signs) = IsTried (IsHalfOf family c.elements) c signs
IsReaching family c maps Many = HasTooManySignatures c

-- what a verdict says about a list and the next one
abbrev pub IsVerdict : Family → Members → Members → Verdict → Type 0
IsVerdict family level next Complete =
    IsCoverByLines (IsHalfOf family level.elements) level.elements level.maps next.maps
IsVerdict family level next (Missing member signs) = (c : SignMap) × IsMemberAt level.maps member c
    × IsTried (IsHalfOf family level.elements) c signs
IsVerdict family level next (Unmet member) = IsPassedOver (IsHalfOf family level.elements) level.maps next.maps member
IsVerdict family level next (TooMany member) = (c : SignMap) × IsMemberAt level.maps member c
    × HasTooManySignatures c
