-- Which lists of signs are covectors of a chirotope, of circuits, of cocircuits and of covectors. Places count from 0.
--
-- Reference: Björner, Las Vergnas, Sturmfels, White and Ziegler, Oriented Matroids, chapters 3 and 4.
use Rattle.std.specs.Prelude.{ℕ, ◌≡◌, ◌+◌, List, length}
use Rattle.std.specs.List.{Contains}
use Rattle.om_signs.specs.declared.sign.Sign.{Sign}
use Rattle.om_signs.specs.SignVec.{at, IsInSupport, IsOrthogonal, IsConformal}
use Rattle.om_subsets.specs.Subsets.{IsSubsetFrom}
use Rattle.om_chirotope.specs.Map.{SignMap, circuit_vector}
use Rattle.om_members.specs.Listings.{Listing}

-- a sign for each element, and orthogonal to the vector V of every increasing list S of one element more than the
-- rank
pub record IsCovectorOfChirotope (m : SignMap) (X : List Sign) : Type 0 where
  pub size : length X ≡ m.elements
  pub orthogonal : (S : List ℕ) → IsSubsetFrom 1 m.elements S → length S ≡ m.rank + 1
      → IsOrthogonal X (circuit_vector m S)

-- a sign for each element, and orthogonal to every circuit
pub record IsCovectorOfCircuits (circuits : Listing) (X : List Sign) : Type 0 where
  pub size : length X ≡ circuits.elements
  pub orthogonal : (Y : List Sign) → Contains circuits.members Y → IsOrthogonal X Y

-- some member conforms to X and has its sign at a place
abbrev pub HasConformingMember : List (List Sign) → List Sign → ℕ → Type 0
HasConformingMember members X i = (Y : List Sign) × Contains members Y × IsConformal Y X × (at Y i ≡ at X i)

-- a sign for each element, and at each place of the support some cocircuit conforms to it and has its sign
pub record IsCovectorOfCocircuits (cocircuits : Listing) (X : List Sign) : Type 0 where
  pub size : length X ≡ cocircuits.elements
  pub composed : (i : ℕ) → IsInSupport X i → HasConformingMember cocircuits.members X i

-- a sign for each element, and a member of the list
pub record IsCovectorOfCovectors (covectors : Listing) (X : List Sign) : Type 0 where
  pub size : length X ≡ covectors.elements
  pub member : Contains covectors.members X
