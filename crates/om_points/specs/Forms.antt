-- Linear forms that refuse vectors.
use Rattle.std.specs.Prelude.{ℕ, ◌≡◌, ◌≤◌, ◌*◌, ℤ, ◌+ℤ◌, ◌*ℤ◌, ◌<ℤ◌, unsigned_abs, List, length}
use Rattle.om_vectors.specs.WholeVectors.{WholeVector}
use Rattle.om_signs.specs.declared.limits.TheConstants.{MAX_BOX}
use Rattle.om_points.specs.declared.slopes.TheConstants.{FORMS}

-- a linear form, given by its coefficients, with a lower bound
pub record LinearForm : Type 0 where
  pub x : ℤ
  pub y : ℤ
  pub z : ℤ
  pub least : ℤ

-- the value of a form at a vector
abbrev pub value_at : LinearForm → WholeVector → ℤ
value_at f v = f.x *ℤ v.x +ℤ f.y *ℤ v.y +ℤ f.z *ℤ v.z

-- the form refuses a vector: its value there is less than the bound
abbrev pub Refuses : LinearForm → WholeVector → Type 0
Refuses f v = value_at f v <ℤ f.least

-- within the size of a sum of two products of short numbers
abbrev pub IsMinor : ℤ → Type 0
IsMinor x = unsigned_abs x ≤ 2 * (MAX_BOX * MAX_BOX)

-- the coefficients are those of the form of a pair of short vectors, and the bound isn't larger
pub record AreMinors (f : LinearForm) : Type 0 where
  pub x : IsMinor f.x
  pub y : IsMinor f.y
  pub z : IsMinor f.z
  pub least : IsMinor f.least

-- within the size of a sum of two products of minors
abbrev pub IsCoefficient : ℤ → Type 0
IsCoefficient x = unsigned_abs x ≤ 2 * (2 * (MAX_BOX * MAX_BOX) * (2 * (MAX_BOX * MAX_BOX)))

-- within the size of a product of a coefficient and a coordinate
abbrev pub IsTerm : ℤ → Type 0
IsTerm x = unsigned_abs x ≤ 2 * (2 * (MAX_BOX * MAX_BOX) * (2 * (MAX_BOX * MAX_BOX))) * MAX_BOX

-- within the size of a sum of three terms
abbrev pub IsValue : ℤ → Type 0
IsValue x = unsigned_abs x ≤ 3 * (2 * (2 * (MAX_BOX * MAX_BOX) * (2 * (MAX_BOX * MAX_BOX))) * MAX_BOX)

-- the coefficients and the bound are within the size of coefficients
pub record IsShortForm (f : LinearForm) : Type 0 where
  pub x : IsCoefficient f.x
  pub y : IsCoefficient f.y
  pub z : IsCoefficient f.z
  pub least : IsCoefficient f.least

-- the table has all its places, the first n of which are in use
pub record IsFormTable (table : List LinearForm) (n : ℕ) : Type 0 where
  pub few : n ≤ FORMS
  pub whole : length table ≡ FORMS
