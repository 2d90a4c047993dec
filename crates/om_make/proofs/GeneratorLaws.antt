-- Lists of drawn vectors, one vector at a time.
--
-- Main results: state_on (three draws more), made_more (one vector more), made_length (as many as are asked for).
use Rattle.std.specs.Prelude.{ℕ, ◌≡◌, ◌≤◌, ◌+◌, ◌-◌, ◌*◌, List, [], ◌∷◌, ◌++◌, length, refl, ℤ, pos, unsigned_abs}
use Rattle.std.specs.Prelude.{Option, Some, None, IsSome}
use Rattle.std.specs.Option.{SomeIff}
use Rattle.std.proofs.Common.{zero, suc, ap, sym, ◌∙◌, arith, lit≤, to_z, of_z, w64}
use Rattle.std.proofs.lemmas.Int.{to_z-of_z, fits_signed_from_abs}
use Rattle.std.proofs.lemmas.List.{length-append}
use Rattle.om_vectors.specs.WholeVectors.{WholeVector, vector_of, triple_product, IsWithinLimit}
use Rattle.om_signs.specs.Coordinates.{IsCoordinate}
use Rattle.om_signs.specs.declared.limits.TheConstants.{MAX_COORDINATE}
use Rattle.om_vectors.specs.Realizations.{IsRankLow}
use Rattle.om_make.specs.Generator.{following, draw_of, nth_state, vector_drawn_from, vectors_drawn, unit_vectors}
use Rattle.om_make.specs.Generator.{made_vectors}
use Rattle.om_make.specs.Tallies.{BeginsWithUnits}

pub state_on : (x k : ℕ) → nth_state (nth_state x (3 * k)) 3 ≡ nth_state x (3 * (k + 1))
state_on x k = let e : 3 * (k + 1) ≡ suc (suc (suc (3 * k))) = omega arith in rw e refl

pub made_more : (seed place : ℕ) → 3 ≤ place → made_vectors seed (place + 1) ≡ made_vectors seed place
    ++ vector_drawn_from (nth_state seed (3 * (place - 3))) ∷ []
made_more seed place low = let e : place + 1 - 3 ≡ suc (place - 3) = omega arith in rw e refl

drawn_length : (seed k : ℕ) → length (vectors_drawn seed k) ≡ k
drawn_length seed zero = refl
drawn_length seed (suc k) =
    let a = length-append (vectors_drawn seed k) (vector_drawn_from (nth_state seed (3 * k)) ∷ []) in
    let b = drawn_length seed k in
    omega arith

pub made_length : (seed count : ℕ) → 3 ≤ count → length (made_vectors seed count) ≡ count
made_length seed count low =
    let a = length-append unit_vectors (vectors_drawn seed (count - 3)) in
    let b = drawn_length seed (count - 3) in
    omega arith

-- the unit vectors have the triple product 1
pub units_span : (vs : List WholeVector) → BeginsWithUnits vs → IsRankLow vs → ⊥
units_span [] units low = absurd cc
units_span (a ∷ []) units low = absurd cc
units_span (a ∷ b ∷ []) units low = absurd cc
units_span (a ∷ b ∷ c ∷ rest) units low =
    let product : triple_product a b c ≡ pos 0 = low 1 2 3 (omega arith) (omega arith) (omega arith) (omega arith) in
    let x : a ≡ vector_of (pos 1) (pos 0) (pos 0) = cc in
    let y : b ≡ vector_of (pos 0) (pos 1) (pos 0) = cc in
    let z : c ≡ vector_of (pos 0) (pos 0) (pos 1) = cc in
    let one : pos 1 ≡ pos 0 = sym (unit_product a b c x y z) ∙ product in
    cc
  where
    unit_product : (a b c : WholeVector) → a ≡ vector_of (pos 1) (pos 0) (pos 0) → b ≡ vector_of (pos 0) (pos 1) (pos 0)
        → c ≡ vector_of (pos 0) (pos 0) (pos 1) → triple_product a b c ≡ pos 1
    unit_product a b c x y z = rw (x, y, z) refl

-- one turn of the loop
pub words_more : (seed place x : ℕ) (word new : List WholeVector) (v : WholeVector) → 3 ≤ place
    → word ≡ made_vectors seed place → x ≡ nth_state seed (3 * (place - 3)) → v ≡ vector_drawn_from x
    → new ≡ word ++ v ∷ [] → new ≡ made_vectors seed (place + 1)
words_more seed place x word new v low is at drawn pushed = pushed ∙ rw (drawn, is, at) (sym (made_more seed place low))

pub states_more : (seed place x y : ℕ) → 3 ≤ place → x ≡ nth_state seed (3 * (place - 3)) → y ≡ nth_state x 3
    → y ≡ nth_state seed (3 * (place + 1 - 3))
states_more seed place x y low at on =
    let e : place + 1 - 3 ≡ place - 3 + 1 = omega arith in
    on ∙ ap (λ z. nth_state z 3) at ∙ state_on seed (place - 3) ∙ rw e refl

-- ---- drawn coordinates

-- a number from -9 to 9 is a coordinate
pub small_coordinate : (x : ℤ) → unsigned_abs x ≤ 9 → IsCoordinate x
small_coordinate x few = let most : 9 ≤ unsigned_abs MAX_COORDINATE = lit≤ tt in omega arith

-- a small number, put into a word and read back
read_back : (x : ℤ) → unsigned_abs x ≤ 9 → to_z w64 (of_z w64 x) ≡ x
read_back x few = to_z-of_z w64 x (fits_signed_from_abs w64 x (omega arith))

pub small_vector : (x y z : ℤ) → unsigned_abs x ≤ 9 → unsigned_abs y ≤ 9 → unsigned_abs z ≤ 9
    → IsWithinLimit (vector_of (to_z w64 (of_z w64 x)) (to_z w64 (of_z w64 y)) (to_z w64 (of_z w64 z)))
small_vector x y z a b c = rw (read_back x a, read_back y b, read_back z c)
    (record { x = small_coordinate x a; y = small_coordinate y b; z = small_coordinate z c })

pub made_some : {A : Type 0} (o : Option A) (P : Type 0) (v : A) → SomeIff o P v → P → IsSome o
made_some None P v h p = absurd (h p)
made_some (Some x) P v h p = refl

pub made_value : {A : Type 0} (o : Option A) (P : Type 0) (v w : A) → SomeIff o P v → o ≡ Some w → w ≡ v
made_value None P v w h e = absurd cc
made_value (Some x) P v w h e = let q = h.1 in cc

pub drawn_vector : (s a b c : ℕ) (x y z : ℤ) → a ≡ following s → b ≡ following a → c ≡ following b → x ≡ draw_of a
    → y ≡ draw_of b → z ≡ draw_of c → unsigned_abs x ≤ 9 → unsigned_abs y ≤ 9 → unsigned_abs z ≤ 9
    → vector_of (to_z w64 (of_z w64 x)) (to_z w64 (of_z w64 y)) (to_z w64 (of_z w64 z)) ≡ vector_drawn_from s
drawn_vector s a b c x y z p q r f g h u v w = rw (read_back x u, read_back y v, read_back z w) (same x y z f g h)
  where
    same : (x y z : ℤ) → x ≡ draw_of a → y ≡ draw_of b → z ≡ draw_of c → vector_of x y z ≡ vector_drawn_from s
    same x y z f g h = rw (f, g, h, r, q, p) refl
