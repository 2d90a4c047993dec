-- The sets of one size, one after the other in their order.
--
-- Main definitions: IsAt, the set at a place.
use Rattle.std.specs.Prelude.{ℕ, ◌≡◌, ◌<◌, length}
use Rattle.om_subsets.specs.Subsets.{choose, rank_of, IsSubsetFrom}
use Rattle.om_subsets.specs.Members.{Chosen}

-- the set at place k of those of r of the elements 1 to n, where there is one
pub record IsAt (n r k : ℕ) (a : Chosen) : Type 0 where
  pub n_is : a.n ≡ n
  pub size : length a.elements ≡ r
  pub list : IsSubsetFrom 1 n a.elements
  pub place : k < choose n r → rank_of n a.elements ≡ k
