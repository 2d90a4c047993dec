-- Candidates that a search skips, since they don't have the required signs. No public clause uses these.
use Rattle.std.specs.Prelude.{ℕ, zero, suc, ◌≡◌, ◌<◌, ◌-◌, List, length}
use Rattle.std.proofs.Math.ListN.{get_or}
use Rattle.om_signs.specs.declared.sign.Sign.{Sign}
use Rattle.om_signs.specs.declared.sign.Sign.TheVariants.{Zero}
use Rattle.om_vectors.specs.WholeVectors.{WholeVector, zero_vector, triple_product, sign_of}
use Rattle.om_points.specs.Candidates.{IsNextCandidate}
use Rattle.om_points.specs.Forms.{LinearForm, AreMinors, Refuses}
use Rattle.om_points.specs.ShortVectors.{sign_place}

-- v doesn't have the required signs at place k with some two vectors before it
abbrev pub Disagrees : List WholeVector → List Sign → ℕ → WholeVector → Type 0
Disagrees vs signs k v =
    ((p q : ℕ) → p < q → q < k → sign_of (triple_product (get_or vs p zero_vector) (get_or vs q zero_vector) v)
    ≡ get_or signs (sign_place p q k) Zero) → ⊥

-- the form refuses only vectors without the required signs in place of the last one
abbrev pub RefusesRightly : List WholeVector → List Sign → LinearForm → Type 0
RefusesRightly vs signs f = (v : WholeVector) → Refuses f v → Disagrees vs signs (length vs - 1) v

-- the same holds, and the coefficients of the form are minors
pub record IsUseful (vs : List WholeVector) (signs : List Sign) (f : LinearForm) : Type 0 where
  pub minors : AreMinors f
  pub sound : RefusesRightly vs signs f

-- u is the candidate n places after v, and R holds of the candidates from v up to u, excluded
unfoldable pub IsPassed : ℕ → (WholeVector → Type 0) → WholeVector → ℕ → WholeVector → Type 0
IsPassed box R v zero u = v ≡ u
IsPassed box R v (suc n) u = (t : WholeVector) × IsPassed box R v n t × R t × IsNextCandidate box t u
