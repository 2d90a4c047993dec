-- The signs of the triple products of some vectors, and the maps of rank 3 that vectors realize.
--
-- Reference: Björner, Las Vergnas, Sturmfels, White and Ziegler, Oriented Matroids, chapters 1 and 8.
use Rattle.std.specs.Prelude.{ℕ, ◌≡◌, ◌≢◌, ◌-◌, ◌<◌, ◌≤◌, pos, List, [], ◌∷◌, length, map}
use Rattle.std.proofs.Math.ListN.{get_or}
use Rattle.om_signs.specs.declared.sign.Sign.{Sign}
use Rattle.om_signs.specs.declared.sign.Sign.TheVariants.{Zero}
use Rattle.om_subsets.specs.Subsets.{all_subsets, IsTriple}
use Rattle.om_subsets.specs.Lists.{IsBefore}
use Rattle.om_subsets.specs.Members.{Chosen}
use Rattle.om_chirotope.specs.Map.{SignMap, chi_of}
use Rattle.om_vectors.specs.WholeVectors.{WholeVector, zero_vector, triple_product, sign_of}

-- the vector of an element, counted from 1
abbrev pub vector_at : List WholeVector → ℕ → WholeVector
vector_at vs e = get_or vs (e - 1) zero_vector

-- the sign of the triple product of the vectors of three elements, and zero for a list of another size
abbrev pub triple_sign : List WholeVector → List ℕ → Sign
triple_sign vs (a ∷ b ∷ c ∷ []) = sign_of (triple_product (vector_at vs a) (vector_at vs b) (vector_at vs c))
triple_sign vs t = Zero

-- the map of rank 3 with the signs of the triple products
abbrev pub signs_map : List WholeVector → SignMap
signs_map vs = record { rank = 3; elements = length vs; signs = map (triple_sign vs) (all_subsets (length vs) 3) }

-- the vectors realize the map: there is one for each element, and the triple product of each increasing triple has
-- the sign of the map
pub record Realizes (vs : List WholeVector) (m : SignMap) : Type 0 where
  pub rank : m.rank ≡ 3
  pub elements : m.elements ≡ length vs
  pub signs : (a b c : ℕ) → 1 ≤ a → a < b → b < c → c ≤ m.elements
      → sign_of (triple_product (vector_at vs a) (vector_at vs b) (vector_at vs c)) ≡ chi_of m (a ∷ b ∷ c ∷ [])

-- the first increasing triple, in lexicographic order, whose triple product doesn't have the sign of the map
pub record IsFirstOther (vs : List WholeVector) (m : SignMap) (s : Chosen) : Type 0 where
  pub n : s.n ≡ m.elements
  pub triple : IsTriple m.elements s.elements
  pub other : triple_sign vs s.elements ≢ chi_of m s.elements
  pub earlier : (t : List ℕ) → IsTriple m.elements t → IsBefore t s.elements → triple_sign vs t ≡ chi_of m t

-- every triple product is zero: the vectors lie in a plane
abbrev pub IsRankLow : List WholeVector → Type 0
IsRankLow vs = (a b c : ℕ) → 1 ≤ a → a < b → b < c → c ≤ length vs
    → triple_product (vector_at vs a) (vector_at vs b) (vector_at vs c) ≡ pos 0
