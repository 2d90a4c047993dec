-- Points as vectors within the limit: a list of vectors that is filled point by point.
use Rattle.std.specs.Prelude.{ℕ, ℤ, ◌≡◌, List, take}
use Rattle.om_vectors.specs.WholeVectors.{WholeVector}
use Rattle.om_representation.specs.Points.{vectors_of}

-- the first k points stand as vectors
pub record AreFilled (word : List WholeVector) (points : List (List ℤ)) (k : ℕ) : Type 0 where
  pub vectors : word ≡ vectors_of (take k points)
