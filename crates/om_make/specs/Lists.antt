-- The lists of the cocircuits and of the covectors of a map, and the map that they give back.
--
-- Reference: Björner, Las Vergnas, Sturmfels, White and Ziegler, Oriented Matroids, chapter 3.
use Rattle.std.specs.Prelude.{◌≡◌, ◌≤◌}
use Rattle.om_signs.specs.declared.limits.TheConstants.{MAX_ELEMENTS}
use Rattle.om_chirotope.specs.Map.{SignMap}
use Rattle.om_chirotope.specs.Chirotope.{IsChirotope}
use Rattle.om_members.specs.Listings.{Listing}
use Rattle.om_denotation.specs.Circuits.{IsCocircuitOfChirotope}
use Rattle.om_denotation.specs.Covectors.{IsCovectorOfChirotope, IsCovectorOfCocircuits, IsCovectorOfCovectors}
use Rattle.om_denotation.specs.Denotation.{DenoteTheSame}
use Rattle.om_denotation.specs.Listings.{AreAllOf}
use Rattle.om_denotation.specs.Maps.{IsNormalFormOf}

-- the members are the cocircuits of the map, and denote what it denotes
pub record ListsCocircuits (m : SignMap) (c : Listing) : Type 0 where
  pub axioms : IsChirotope m
  pub elements : c.elements ≡ m.elements
  pub members : AreAllOf (IsCocircuitOfChirotope m) c.members
  pub same : DenoteTheSame m.elements (IsCovectorOfChirotope m) (IsCovectorOfCocircuits c)

-- the members are the covectors of the map, and denote what it denotes
pub record ListsCovectors (m : SignMap) (c : Listing) : Type 0 where
  pub axioms : IsChirotope m
  pub elements : c.elements ≡ m.elements
  pub members : AreAllOf (IsCovectorOfChirotope m) c.members
  pub same : DenoteTheSame m.elements (IsCovectorOfChirotope m) (IsCovectorOfCovectors c)

-- the members are the cocircuits of some map of rank 3 within the limits
pub record AreCocircuitsOfRank3 (c : Listing) : Type 0 where
  pub map : SignMap
  pub rank : map.rank ≡ 3
  pub high : map.elements ≤ MAX_ELEMENTS
  pub lists : ListsCocircuits map c

-- the members are the covectors of some map of rank 3 within the limits
pub record AreCovectorsOfRank3 (c : Listing) : Type 0 where
  pub map : SignMap
  pub rank : map.rank ≡ 3
  pub high : map.elements ≤ MAX_ELEMENTS
  pub lists : ListsCovectors map c

-- the normal form of each map whose cocircuits the members are
abbrev pub IsNormalFormByCocircuits : Listing → SignMap → Type 0
IsNormalFormByCocircuits c k = (m : SignMap) → ListsCocircuits m c → IsNormalFormOf m k

-- the normal form of each map whose covectors the members are
abbrev pub IsNormalFormByCovectors : Listing → SignMap → Type 0
IsNormalFormByCovectors c k = (m : SignMap) → ListsCovectors m c → IsNormalFormOf m k
