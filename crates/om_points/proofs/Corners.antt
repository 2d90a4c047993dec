-- The greatest values of linear forms.
--
-- Main definitions: IsChoice
-- Main results: times_up, choice, corner_refuses
use Rattle.std.proofs.Common.{ℕ, ◌≡◌, Bool, true, false, arith, ◌∙◌, refl, ap}
use Rattle.std.specs.Prelude.{ℤ, pos, negsuc, neg_ℤ, cond, ◌+ℤ◌, ◌-ℤ◌, ◌*ℤ◌, ◌<ℤ◌, ◌≤ℤ◌, unsigned_abs}
use Rattle.std.proofs.lemmas.Int.{ints}
use lib.Signed.{lt_z}
use Rattle.std.proofs.Math.IntN.{pos-*ℤ-pos}
use Rattle.om_signs.proofs.Rings.{times-plus}
use Rattle.om_vectors.specs.WholeVectors.{WholeVector}
use Rattle.om_points.specs.Candidates.{greatest}
use Rattle.om_points.specs.Forms.{LinearForm, Refuses}
use Rattle.om_points.specs.Slabs.{IsInRows, corner}
use Rattle.om_points.proofs.Forms.{falls}

rises : (z : ℤ) (n : ℕ) → pos 0 ≤ℤ z → pos 0 ≤ℤ (z *ℤ pos n)
rises (pos k) n h = rw pos-*ℤ-pos (omega (arith, ints))
rises (negsuc k) n h = absurd (omega (arith, ints))

apart : (b c : ℤ) → b ≤ℤ c → c ≡ b +ℤ pos (unsigned_abs (c -ℤ b))
apart b c h = omega (arith, ints)

pub times_up : (m b c : ℤ) → pos 0 ≤ℤ m → b ≤ℤ c → (m *ℤ b) ≤ℤ (m *ℤ c)
times_up m b c l h = more (m *ℤ b) (m *ℤ c) (m *ℤ pos (unsigned_abs (c -ℤ b)))
    (ap (λ (t : ℤ). m *ℤ t) (apart b c h) ∙ times-plus m b (pos (unsigned_abs (c -ℤ b))))
    (rises m (unsigned_abs (c -ℤ b)) l)
  where
    more : (x y d : ℤ) → y ≡ x +ℤ d → pos 0 ≤ℤ d → x ≤ℤ y
    more x y d e k = omega (arith, ints)

times_down : (m b c : ℤ) → m ≤ℤ pos 0 → b ≤ℤ c → (m *ℤ c) ≤ℤ (m *ℤ b)
times_down m b c l h = less (m *ℤ b) (m *ℤ c) (m *ℤ pos (unsigned_abs (c -ℤ b)))
    (ap (λ (t : ℤ). m *ℤ t) (apart b c h) ∙ times-plus m b (pos (unsigned_abs (c -ℤ b))))
    (falls m (unsigned_abs (c -ℤ b)) l)
  where
    less : (x y d : ℤ) → y ≡ x +ℤ d → d ≤ℤ pos 0 → y ≤ℤ x
    less x y d e k = omega (arith, ints)

-- a coordinate of the corner is the one that makes a coefficient's term the greatest
pub record IsChoice (m : ℤ) (b : Bool) : Type 0 where
  pub up : b ≡ true → pos 0 ≤ℤ m
  pub down : b ≡ false → m ≤ℤ pos 0

second_most : (m : ℤ) (v t : WholeVector) (k : ℕ) (b : Bool) → IsInRows v k t → IsChoice m b
    → (m *ℤ t.y) ≤ℤ (m *ℤ cond b (v.y +ℤ pos k) v.y)
second_most m v t k true a h = times_up m t.y (v.y +ℤ pos k) (h.up refl) a.before
second_most m v t k false a h = times_down m v.y t.y (h.down refl) a.after

third_most : (m : ℤ) (v t : WholeVector) (k : ℕ) (b : Bool) → IsInRows v k t → IsChoice m b
    → (m *ℤ t.z) ≤ℤ (m *ℤ cond b (pos (greatest v)) (neg_ℤ (pos (greatest v))))
third_most m v t k true a h = let w = a.within in times_up m t.z (pos (greatest v)) (h.up refl) (omega (arith, ints))
third_most m v t k false a h = let w = a.within in
    times_down m (neg_ℤ (pos (greatest v))) t.z (h.down refl) (omega (arith, ints))

pub choice : (m x : ℤ) → x ≡ m → IsChoice m (lt_z (pos 0) x)
choice m x e = record { up = λ t. grind (arith, ints); down = λ t. grind (arith, ints) }

-- a form that refuses the corner of some rows refuses all their vectors
pub corner_refuses : (f : LinearForm) (v t : WholeVector) (k : ℕ) (far high : Bool) → IsChoice f.y far
    → IsChoice f.z high → Refuses f (corner v k far high) → IsInRows v k t → Refuses f t
corner_refuses f v t k far high cy cz h a =
    below (f.x *ℤ t.x) (f.x *ℤ v.x) (f.y *ℤ t.y) (f.y *ℤ cond far (v.y +ℤ pos k) v.y) (f.z *ℤ t.z)
    (f.z *ℤ cond high (pos (greatest v)) (neg_ℤ (pos (greatest v)))) f.least (ap (λ (i : ℤ). f.x *ℤ i) a.same)
    (second_most f.y v t k far a cy) (third_most f.z v t k high a cz) h
  where
    below : (x x' y y' z z' l : ℤ) → x ≡ x' → y ≤ℤ y' → z ≤ℤ z' → (x' +ℤ y' +ℤ z') <ℤ l → (x +ℤ y +ℤ z) <ℤ l
    below x x' y y' z z' l ex ey ez h = omega (arith, ints)
