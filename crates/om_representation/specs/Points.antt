-- Points of a document as vectors, and the map of the signs of their triple products.
use Rattle.std.specs.Prelude.{ℤ, pos, List, map}
use Rattle.std.proofs.Common.{get_or}
use Rattle.om_chirotope.specs.Map.{SignMap}
use Rattle.om_vectors.specs.WholeVectors.{WholeVector, vector_of}
use Rattle.om_vectors.specs.Realizations.{signs_map}

-- the vector of a point
abbrev pub vector_of_point : List ℤ → WholeVector
vector_of_point p = vector_of (get_or p 0 (pos 0)) (get_or p 1 (pos 0)) (get_or p 2 (pos 0))

-- the vectors of points
abbrev pub vectors_of : List (List ℤ) → List WholeVector
vectors_of points = map vector_of_point points

-- the map of the signs of the triple products of points
abbrev pub points_map : List (List ℤ) → SignMap
points_map points = signs_map (vectors_of points)
