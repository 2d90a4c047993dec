-- Sums of multiples of two forms in which the third coordinate doesn't stand.
--
-- Main results: sum_refuses, not_negative
use Rattle.std.proofs.Common.{◌≡◌, ◌∙◌, ap, arith, false}
use lib.Signed.{le_z}
use Rattle.std.proofs.Math.IntN.{zero-*ℤ}
use Rattle.std.specs.Prelude.{ℤ, pos, neg_ℤ, ◌+ℤ◌, ◌*ℤ◌, ◌<ℤ◌, ◌≤ℤ◌}
use Rattle.std.proofs.lemmas.Int.{ints}
use Rattle.om_signs.proofs.Rings.{expanding, sums}
use Rattle.om_vectors.specs.WholeVectors.{WholeVector}
use Rattle.om_points.specs.Forms.{LinearForm, value_at, Refuses}
use Rattle.om_points.proofs.Corners.{times_up}

-- the sum of two forms' values, each times the other one's third coefficient, in which the third coordinate falls out
value_of_sum : (a b c p q r x y z : ℤ) → (neg_ℤ r *ℤ a +ℤ c *ℤ p) *ℤ x +ℤ (neg_ℤ r *ℤ b +ℤ c *ℤ q) *ℤ y ≡ neg_ℤ r
    *ℤ (a *ℤ x +ℤ b *ℤ y +ℤ c *ℤ z) +ℤ c *ℤ (p *ℤ x +ℤ q *ℤ y +ℤ r *ℤ z)
value_of_sum a b c p q r x y z = simp expanding (omega sums)

least_of_sum : (s t m n u v l w o : ℤ) → m ≤ℤ u → n ≤ℤ v → l ≡ m +ℤ n → s +ℤ t ≡ u +ℤ v → o ≡ pos 0 → (s +ℤ t +ℤ o) <ℤ l
    → ⊥
least_of_sum s t m n u v l w o a b e f g h = omega (arith, ints)

at_least : (u l : ℤ) → (u <ℤ l → ⊥) → l ≤ℤ u
at_least u l n = grind (arith, ints)

pub sum_refuses : (f g : LinearForm) (x y z l : ℤ) → x ≡ neg_ℤ g.z *ℤ f.x +ℤ f.z *ℤ g.x
    → y ≡ neg_ℤ g.z *ℤ f.y +ℤ f.z *ℤ g.y → z ≡ pos 0 → l ≡ neg_ℤ g.z *ℤ f.least +ℤ f.z *ℤ g.least → pos 0 ≤ℤ f.z
    → pos 0 ≤ℤ neg_ℤ g.z → (v : WholeVector) → Refuses (record { x = x; y = y; z = z; least = l }) v → (Refuses f v → ⊥)
    → (Refuses g v → ⊥) → ⊥
sum_refuses f g x y z l ex ey ez el fz gz v h nf ng =
    least_of_sum (x *ℤ v.x) (y *ℤ v.y) (neg_ℤ g.z *ℤ f.least) (f.z *ℤ g.least) (neg_ℤ g.z *ℤ value_at f v)
    (f.z *ℤ value_at g v) l l (z *ℤ v.z)
    (times_up (neg_ℤ g.z) f.least (value_at f v) gz (at_least (value_at f v) f.least nf))
    (times_up f.z g.least (value_at g v) fz (at_least (value_at g v) g.least ng))
    el
    (rw (ex, ey) (value_of_sum f.x f.y f.z g.x g.y g.z v.x v.y v.z))
    (ap (λ (t : ℤ). t *ℤ v.z) ez ∙ zero-*ℤ v.z) h

pub not_negative : (s z : ℤ) → s ≡ z → le_z s (pos 0) ≡ false → pos 0 ≤ℤ z
not_negative s z e h = grind (arith, ints)
