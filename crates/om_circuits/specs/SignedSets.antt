-- Finite sets of sign vectors, given as lists, that satisfy the axioms of circuits.
use Rattle.std.specs.Prelude.{ℕ, ◌≤◌, List, length}
use Rattle.om_signs.specs.declared.sign.Sign.{Sign}
use Rattle.om_signs.specs.declared.limits.TheConstants.{MAX_ELEMENTS, MAX_MEMBERS}
use Rattle.om_members.specs.Listings.{HaveLength, AreDistinct}
use Rattle.om_circuits.specs.Axioms.{MeetsCircuitAxioms}

-- within the limits, of one length, distinct, and with the axioms
pub record IsSignedSet (n : ℕ) (members : List (List Sign)) : Type 0 where
  pub low : 1 ≤ n
  pub high : n ≤ MAX_ELEMENTS
  pub lengths : HaveLength n members
  pub distinct : AreDistinct members
  pub few : length members ≤ MAX_MEMBERS
  pub axioms : MeetsCircuitAxioms members
