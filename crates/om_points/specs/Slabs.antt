-- Rows and slabs of candidates. A slab has the candidates with the same greatest coordinate and the same first
-- coordinate. In a row the second coordinate is the same too. No public clause uses these.
use Rattle.std.specs.Prelude.{ℕ, ◌≡◌, ◌≤◌, Bool, cond, pos, neg_ℤ, ◌+ℤ◌, ◌≤ℤ◌}
use Rattle.om_vectors.specs.WholeVectors.{WholeVector, vector_of}
use Rattle.om_points.specs.Candidates.{greatest}

-- t is in the row of v or in one of the following `rows` rows: it has the same first coordinate, and no greater
-- coordinate
pub record IsInRows (v : WholeVector) (rows : ℕ) (t : WholeVector) : Type 0 where
  pub same : t.x ≡ v.x
  pub after : v.y ≤ℤ t.y
  pub before : t.y ≤ℤ (v.y +ℤ pos rows)
  pub within : greatest t ≤ greatest v

-- a corner of these rows: in the last row or that of v, with the last third coordinate or the first
abbrev pub corner : WholeVector → ℕ → Bool → Bool → WholeVector
corner v rows far high =
    vector_of v.x (cond far (v.y +ℤ pos rows) v.y) (cond high (pos (greatest v)) (neg_ℤ (pos (greatest v))))

-- the last candidate of the row `rows` rows after that of v
abbrev pub row_end : WholeVector → ℕ → WholeVector
row_end v rows = vector_of v.x (v.y +ℤ pos rows) (pos (greatest v))
