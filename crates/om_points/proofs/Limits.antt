-- The vectors of the answers of a search are no more than elements, and within the limit of coordinates.
--
-- Main results: found_few, found_within, frontier_few and frontier_within.
use Rattle.std.specs.Prelude.{ℕ, ◌≤◌, List, [], ◌∷◌, length, All}
use Rattle.std.specs.List.{range_with_len}
use Rattle.std.proofs.Common.{arith, sym, ap, subst, ◌∙◌, get_or, inl, inr}
use Rattle.std.proofs.lemmas.Bool.{cases_lt}
use Rattle.std.proofs.lemmas.List.{get_or_past}
use Rattle.std.proofs.lemmas.List.Elements.{All-from_recursion, All-nil, All-cons, All-append, All-get_or, All-map}
use Rattle.std.proofs.lemmas.List.FromFn.{length-map-range_with_len}
use Rattle.om_signs.specs.declared.limits.TheConstants.{MAX_BOX}
use Rattle.om_signs.specs.declared.sign.Sign.{Sign}
use Rattle.om_signs.specs.declared.sign.Sign.TheVariants.{Minus, Zero, Plus}
use Rattle.om_chirotope.specs.Map.{SignMap, chi_of}
use Rattle.om_vectors.specs.WholeVectors.{WholeVector, zero_vector, IsWithinLimit}
use Rattle.om_points.specs.Candidates.{IsCandidate}
use Rattle.om_points.specs.Starts.{Start, third_vector, basis_vectors, placed, order, place_of, vector_by}
use Rattle.om_points.specs.Words.{AreCandidates}
use Rattle.om_points.specs.Searches.{IsFound, IsFrontier}
use Rattle.om_points.proofs.Places.{order_small}

zero_within : IsWithinLimit zero_vector
zero_within = record { x = omega arith; y = omega arith; z = omega arith }

third_within : (s : Sign) → IsWithinLimit (third_vector s)
third_within Minus = record { x = omega arith; y = omega arith; z = omega arith }
third_within Zero = zero_within
third_within Plus = record { x = omega arith; y = omega arith; z = omega arith }

basis_within : (s : Sign) → All IsWithinLimit (basis_vectors s)
basis_within s = All-from_recursion IsWithinLimit (basis_vectors s) (
  record { x = omega arith; y = omega arith; z = omega arith },
  (record { x = omega arith; y = omega arith; z = omega arith }, (third_within s, tt)),
)

candidate_within : (box : ℕ) (v : WholeVector) → box ≤ MAX_BOX → IsCandidate box v → IsWithinLimit v
candidate_within box v l h = let w = h.within in record { x = omega arith; y = omega arith; z = omega arith }

candidates_within : (box : ℕ) (w : List WholeVector) → box ≤ MAX_BOX → AreCandidates box w → All IsWithinLimit w
candidates_within box [] l h = All-nil IsWithinLimit
candidates_within box (v ∷ w) l h =
    All-cons IsWithinLimit v w (candidate_within box v l h.0) (candidates_within box w l h.1)

vector_within : (box : ℕ) (m : SignMap) (s : Start) (w : List WholeVector) (e : ℕ) → box ≤ MAX_BOX → AreCandidates box w
    → IsWithinLimit (vector_by m s w e)
vector_within box m s w e l h = elim (cases_lt (place_of e (order s)) (length (placed m s w))) [
  | inl b ↦ All-get_or IsWithinLimit (placed m s w) (place_of e (order s)) zero_vector b
      (All-append IsWithinLimit (basis_vectors (chi_of m s.basis)) w (basis_within (chi_of m s.basis))
      (candidates_within box w l h))
  | inr b ↦ subst IsWithinLimit (sym (get_or_past (placed m s w) (place_of e (order s)) zero_vector b)) zero_within
]

-- a search finds no more vectors than there are elements
pub found_few : (box : ℕ) (m : SignMap) (budget : ℕ) (vs : List WholeVector) → IsFound box m budget vs
    → length vs ≤ m.elements
found_few box m budget vs h = let e = ap length h.vectors
    ∙ length-map-range_with_len (vector_by m h.start h.word) 1 m.elements in omega arith

-- the vectors that a search finds are within the limit of coordinates, if the box is within its own
pub found_within : (box : ℕ) (m : SignMap) (budget : ℕ) (vs : List WholeVector) → box ≤ MAX_BOX
    → IsFound box m budget vs → All IsWithinLimit vs
found_within box m budget vs l h =
    subst (All IsWithinLimit) (sym h.vectors)
    (All-map IsWithinLimit (vector_by m h.start h.word) (range_with_len 1 m.elements)
    (λ k d b. vector_within box m h.start h.word (get_or (range_with_len 1 m.elements) k d) l
    h.first.full.word.candidates))

-- a frontier has no more vectors than there are elements
pub frontier_few : (box : ℕ) (m : SignMap) (budget : ℕ) (w : List WholeVector) → IsFrontier box m budget w
    → length w ≤ m.elements
frontier_few box m budget w h = let f = h.visited.word.few in let n = order_small m h.start h.is_start in omega arith

-- the vectors of a frontier are within the limit of coordinates, if the box is within its own
pub frontier_within : (box : ℕ) (m : SignMap) (budget : ℕ) (w : List WholeVector) → box ≤ MAX_BOX
    → IsFrontier box m budget w → All IsWithinLimit w
frontier_within box m budget w l h = candidates_within box w l h.visited.word.candidates
