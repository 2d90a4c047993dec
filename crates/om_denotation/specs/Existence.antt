-- Chirotopes whose circuits, cocircuits or covectors are the members of a list.
--
-- Reference: Björner, Las Vergnas, Sturmfels, White and Ziegler, Oriented Matroids, chapter 3.
use Rattle.std.specs.Prelude.{◌≡◌}
use Rattle.om_chirotope.specs.Map.{SignMap}
use Rattle.om_chirotope.specs.Chirotope.{IsChirotope}
use Rattle.om_members.specs.Listings.{Listing}
use Rattle.om_denotation.specs.Circuits.{IsCircuitOfChirotope, IsCocircuitOfChirotope}
use Rattle.om_denotation.specs.Covectors.{IsCovectorOfChirotope, IsCovectorOfCircuits, IsCovectorOfCocircuits}
use Rattle.om_denotation.specs.Covectors.{IsCovectorOfCovectors}
use Rattle.om_denotation.specs.Denotation.{DenoteTheSame}
use Rattle.om_denotation.specs.Listings.{AreAllOf}

-- a chirotope on the elements of the list whose circuits are the members, and that denotes what the circuits denote
pub record HasCircuits (c : Listing) (m : SignMap) : Type 0 where
  pub axioms : IsChirotope m
  pub elements : m.elements ≡ c.elements
  pub members : AreAllOf (IsCircuitOfChirotope m) c.members
  pub same : DenoteTheSame c.elements (IsCovectorOfCircuits c) (IsCovectorOfChirotope m)

-- a chirotope on the elements of the list whose cocircuits are the members, and that denotes what the cocircuits
-- denote
pub record HasCocircuits (c : Listing) (m : SignMap) : Type 0 where
  pub axioms : IsChirotope m
  pub elements : m.elements ≡ c.elements
  pub members : AreAllOf (IsCocircuitOfChirotope m) c.members
  pub same : DenoteTheSame c.elements (IsCovectorOfCocircuits c) (IsCovectorOfChirotope m)

-- a chirotope on the elements of the list whose covectors are the members, and that denotes what the covectors
-- denote
pub record HasCovectors (c : Listing) (m : SignMap) : Type 0 where
  pub axioms : IsChirotope m
  pub elements : m.elements ≡ c.elements
  pub members : AreAllOf (IsCovectorOfChirotope m) c.members
  pub same : DenoteTheSame c.elements (IsCovectorOfCovectors c) (IsCovectorOfChirotope m)
