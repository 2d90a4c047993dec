-- The places of statements as numbers, which the walk uses. No public clause uses these.
use Rattle.std.specs.Prelude.{ℕ, ◌≡◌, ◌≢◌, ◌+◌, ◌-◌, ◌*◌, ◌/◌, ◌%◌, ◌<◌, ◌≤◌, Bool, Option, Some, None}
use Rattle.om_signs.specs.declared.sign.Sign.{Sign}
use Rattle.om_signs.specs.declared.sign.Sign.TheVariants.{Zero}
use Rattle.om_signs.specs.Sign.{product}
use Rattle.om_chirotope.specs.Map.{SignMap}
use Rattle.om_grassmann.specs.declared.statement.Statement.{Statement}
use Rattle.om_grassmann.specs.declared.frame.Frame.{Frame}
use Rattle.om_grassmann.specs.declared.terms.Terms.{Terms}
use Rattle.om_grassmann.specs.Statements.{IsElement, IsPlaced, AreTwo, HasSigns, IsLawful}
use Rattle.om_grassmann.specs.Terms.{first_term, second_term, third_term, term_of, third}

-- an element a and four increasing elements of 1 to n, one of which may be a
pub record IsFrame (n : ℕ) (f : Frame) : Type 0 where
  pub a : IsElement n f.a
  pub b : 1 ≤ f.b
  pub b_c : f.b < f.c
  pub c_d : f.c < f.d
  pub d_e : f.d < f.e
  pub e : f.e ≤ n

-- the five numbers, each below 256, as the digits of one number
unfoldable pub frame_place : Frame → ℕ
frame_place f = (((f.a * 256 + f.b) * 256 + f.c) * 256 + f.d) * 256 + f.e

-- the elements of a statement
abbrev pub frame_of : Statement → Frame
frame_of st = record { a = st.a; b = st.b; c = st.c; d = st.d; e = st.e }

-- the place of the two sides among the nine pairs of the numbers 1, 2, 3
abbrev pub direction : Statement → ℕ
direction st = 3 * (st.small - 1) + (st.big - 1)

-- the place of a statement
abbrev pub place : Statement → ℕ
place st = frame_place (frame_of st) * 9 + direction st

-- no lawful statement has a place from low on and below high
abbrev pub HasNoneBetween : SignMap → ℕ → ℕ → Type 0
HasNoneBetween m low high = (u : Statement) → IsLawful m u → low ≤ place u → high ≤ place u

-- no lawful statement has a place from low on
abbrev pub HasNoneFrom : SignMap → ℕ → Type 0
HasNoneFrom m low = (u : Statement) → IsLawful m u → place u < low

-- t is the first lawful statement with a place from low on
pub record IsFirstFrom (m : SignMap) (low : ℕ) (t : Statement) : Type 0 where
  pub lawful : IsLawful m t
  pub from : low ≤ place t
  pub first : HasNoneBetween m low (place t)

-- the statement of a frame with direction k
abbrev pub statement_of : Frame → ℕ → Bool → Statement
statement_of f k strict =
    record { a = f.a; b = f.b; c = f.c; d = f.d; e = f.e; small = k / 3 + 1; big = k % 3 + 1; strict = strict }

-- the signs of the terms on the distinct elements of a frame, each multiplied by the same nonzero sign
pub record AreTermsOn (m : SignMap) (f : Frame) (terms : Terms) : Type 0 where
  pub rank : m.rank ≡ 3
  pub few : m.elements < 256
  pub st : Statement
  pub on : frame_of st ≡ f
  pub placed : IsPlaced m.elements st
  pub factor : Sign
  pub nonzero : factor ≢ Zero
  pub first : terms.first ≡ product factor (first_term m st)
  pub second : terms.second ≡ product factor (second_term m st)
  pub third : terms.third ≡ product factor (third_term m st)

-- whether the signs of the terms give a statement with these two sides, and of which kind
abbrev pub IsKind : Terms → ℕ → ℕ → Option Bool → Type 0
IsKind terms i j None = (strict : Bool) → AreTwo i j
    → HasSigns strict (term_of terms i) (term_of terms (third i j)) (term_of terms j) → ⊥
IsKind terms i j (Some strict) = AreTwo i j
    × HasSigns strict (term_of terms i) (term_of terms (third i j)) (term_of terms j)
