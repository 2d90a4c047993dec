-- The number of steps that is always enough for a search.
use Rattle.std.specs.Prelude.{ℕ, zero, suc, ◌+◌, ◌-◌, ◌*◌, ◌^◌}

-- the number of candidates: the vectors in the box other than zero
abbrev pub candidates_in : ℕ → ℕ
candidates_in box = (2 * box + 1) ^ 3 - 1

-- c + c^2 + .. + c^f: the number of nonempty words of at most f of c candidates
abbrev pub words_of : ℕ → ℕ → ℕ
words_of c zero = 0
words_of c (suc f) = words_of c f + c ^ suc f
