-- Finite sets of sign vectors, given as lists, that satisfy the axioms of covectors.
use Rattle.std.specs.Prelude.{ℕ, ◌≤◌, List, length}
use Rattle.om_signs.specs.declared.sign.Sign.{Sign}
use Rattle.om_signs.specs.declared.limits.TheConstants.{MAX_ELEMENTS, MAX_MEMBERS}
use Rattle.om_members.specs.Listings.{HaveLength, AreDistinct}
use Rattle.om_covectors.specs.Axioms.{MeetsCovectorAxioms}

-- within the limits, of one length, distinct, and with the axioms
pub record IsCovectorSet (n : ℕ) (members : List (List Sign)) : Type 0 where
  pub low : 1 ≤ n
  pub high : n ≤ MAX_ELEMENTS
  pub lengths : HaveLength n members
  pub distinct : AreDistinct members
  pub few : length members ≤ MAX_MEMBERS
  pub axioms : MeetsCovectorAxioms members
