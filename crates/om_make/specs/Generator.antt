-- The generator: its states, its draws, and the vectors that are made from them.
use Rattle.std.specs.Prelude.{ℕ, zero, suc, ◌+◌, ◌-◌, ◌*◌, ◌/◌, ◌%◌, ℤ, pos, ◌-ℤ◌, List, [], ◌∷◌, ◌++◌}
use Rattle.om_vectors.specs.WholeVectors.{WholeVector, vector_of}

-- the state after x: 69069 x + 1 modulo 2^32
abbrev pub following : ℕ → ℕ
following x = (69069 * x + 1) % 4294967296

-- the state k steps after x, which is x for k = 0
abbrev pub nth_state : ℕ → ℕ → ℕ
nth_state x zero = x
nth_state x (suc k) = following (nth_state x k)

-- the draw of a state: the state without its low 16 bits, modulo 19, minus 9
abbrev pub draw_of : ℕ → ℤ
draw_of x = pos ((x / 65536) % 19) -ℤ pos 9

-- the vector of the three draws after x
abbrev pub vector_drawn_from : ℕ → WholeVector
vector_drawn_from x = vector_of (draw_of (nth_state x 1)) (draw_of (nth_state x 2)) (draw_of (nth_state x 3))

-- the unit vectors
abbrev pub unit_vectors : List WholeVector
unit_vectors = vector_of (pos 1) (pos 0) (pos 0) ∷ vector_of (pos 0) (pos 1) (pos 0) ∷ vector_of (pos 0) (pos 0) (pos 1)
    ∷ []

-- k vectors, each of the next three draws after x
abbrev pub vectors_drawn : ℕ → ℕ → List WholeVector
vectors_drawn x zero = []
vectors_drawn x (suc k) = vectors_drawn x k ++ vector_drawn_from (nth_state x (3 * k)) ∷ []

-- the vectors that are made from a number: the unit vectors, followed by drawn ones
abbrev pub made_vectors : ℕ → ℕ → List WholeVector
made_vectors seed count = unit_vectors ++ vectors_drawn seed (count - 3)
