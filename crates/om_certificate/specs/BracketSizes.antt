-- The sizes of brackets of vectors, which three-term statements compare.
--
-- Reference: Bokowski and Richter-Gebert, On the finding of final polynomials, 1990.
use Rattle.std.specs.Prelude.{ℕ, ◌*◌, List, [], ◌∷◌, unsigned_abs}
use Rattle.om_vectors.specs.WholeVectors.{WholeVector, triple_product}
use Rattle.om_vectors.specs.Realizations.{vector_at}
use Rattle.om_grassmann.specs.declared.statement.Statement.{Statement}
use Rattle.om_grassmann.specs.Sides.{first_bracket, second_bracket}

-- the absolute value of the triple product of the vectors of three elements, and 0 for a list of another size
abbrev pub bracket_size : List WholeVector → List ℕ → ℕ
bracket_size vs (a ∷ b ∷ c ∷ []) = unsigned_abs (triple_product (vector_at vs a) (vector_at vs b) (vector_at vs c))
bracket_size vs t = 0

-- the product of the sizes of the two brackets of the term with number i of a statement
abbrev pub term_size : List WholeVector → Statement → ℕ → ℕ
term_size vs st i = bracket_size vs (first_bracket st i) * bracket_size vs (second_bracket st i)
