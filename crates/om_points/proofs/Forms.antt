-- Linear forms that refuse vectors.
--
-- Main definitions: form_of
-- Main results: value_of_minors, less_minus, less_plus, less_zero, more_zero, falls, refuses_above, passed_above,
-- of_minors, refused, tested
use Rattle.std.proofs.Common.{ℕ, zero, suc, ◌≡◌, ◌≢◌, ◌+◌, ◌<◌, ◌↔◌, IsTrue, arith, sym, ap, subst}
use Rattle.std.specs.Prelude.{ℤ, pos, negsuc, neg_ℤ, ◌+ℤ◌, ◌-ℤ◌, ◌*ℤ◌, ◌<ℤ◌, ◌≤ℤ◌}
use Rattle.std.proofs.lemmas.Int.{ints}
use lib.Signed.{lt_z}
use Rattle.std.proofs.Math.IntN.{zero-*ℤ, negsuc-*ℤ-pos}
use Rattle.om_signs.specs.declared.sign.Sign.TheVariants.{Minus, Zero, Plus}
use Rattle.om_signs.proofs.Rings.{expanding, sums}
use Rattle.om_vectors.specs.WholeVectors.{WholeVector, vector_of, triple_product, sign_of}
use Rattle.om_vectors.proofs.Identities.{swap_first}
use Rattle.om_points.specs.Candidates.{IsNextCandidate}
use Rattle.om_points.specs.Passes.{IsPassed}
use Rattle.om_points.proofs.Passes.{passed_along}
use Rattle.om_points.specs.Forms.{LinearForm, value_at, Refuses}
use Rattle.om_points.specs.ShortVectors.{above}

-- the form whose coefficients are the minors of two vectors
abbrev pub form_of : WholeVector → WholeVector → ℤ → LinearForm
form_of a b least =
    record { x = a.y *ℤ b.z -ℤ a.z *ℤ b.y; y = a.z *ℤ b.x -ℤ a.x *ℤ b.z; z = a.x *ℤ b.y -ℤ a.y *ℤ b.x; least = least }

pub value_of_minors : (a b c : WholeVector) (least : ℤ) → value_at (form_of a b least) c ≡ triple_product a b c
value_of_minors a b c least = simp expanding (omega sums)

-- ---- the signs of refused vectors

pub less_minus : (a b c : WholeVector) → triple_product b a c <ℤ pos 1 → sign_of (triple_product a b c) ≢ Minus
less_minus a b c h e = from (triple_product a b c) (rw (swap_first a b c) at h) e
  where
    from : (t : ℤ) → neg_ℤ t <ℤ pos 1 → sign_of t ≢ Minus
    from (pos zero) h e = cc
    from (pos (suc n)) h e = cc
    from (negsuc n) h e = omega (arith, ints)

pub less_plus : (t : ℤ) → t <ℤ pos 1 → sign_of t ≢ Plus
less_plus (pos zero) h e = cc
less_plus (pos (suc n)) h e = omega (arith, ints)
less_plus (negsuc n) h e = cc

pub less_zero : (t : ℤ) → t <ℤ pos 0 → sign_of t ≢ Zero
less_zero (pos zero) h e = omega (arith, ints)
less_zero (pos (suc n)) h e = cc
less_zero (negsuc n) h e = cc

pub more_zero : (a b c : WholeVector) → triple_product b a c <ℤ pos 0 → sign_of (triple_product a b c) ≢ Zero
more_zero a b c h e = from (triple_product a b c) (rw (swap_first a b c) at h) e
  where
    from : (t : ℤ) → neg_ℤ t <ℤ pos 0 → sign_of t ≢ Zero
    from (pos zero) h e = omega (arith, ints)
    from (pos (suc n)) h e = cc
    from (negsuc n) h e = cc

-- ---- vectors above a refused one

pub falls : (z : ℤ) (n : ℕ) → z ≤ℤ pos 0 → (z *ℤ pos n) ≤ℤ pos 0
falls (pos zero) n h = rw zero-*ℤ (omega (arith, ints))
falls (pos (suc k)) n h = absurd (omega (arith, ints))
falls (negsuc k) n h = rw negsuc-*ℤ-pos (omega (arith, ints))

lowered : (a b d : ℤ) → d ≤ℤ pos 0 → a <ℤ b → (a +ℤ d) <ℤ b
lowered a b d l h = omega (arith, ints)

value_above : (f : LinearForm) (v : WholeVector) (n : ℕ) → value_at f (above v n) ≡ value_at f v +ℤ f.z *ℤ pos n
value_above f v n = simp expanding (omega sums)

pub refuses_above : (f : LinearForm) (v : WholeVector) (n : ℕ) → f.z ≤ℤ pos 0 → Refuses f v → Refuses f (above v n)
refuses_above f v n l h =
    let P : ℤ → Type 0 = λ t. t <ℤ f.least in
    subst P (sym (value_above f v n)) (lowered (value_at f v) f.least (f.z *ℤ pos n) (falls f.z n l) h)

above_none : (v : WholeVector) → above v 0 ≡ v
above_none v = let e : v.z +ℤ pos 0 ≡ v.z = omega (arith, ints) in ap (λ z. vector_of v.x v.y z) e

pub passed_above : (box : ℕ) (f : LinearForm) (v : WholeVector) (n : ℕ) → f.z ≤ℤ pos 0 → Refuses f v
    → ((i : ℕ) → i < n → IsNextCandidate box (above v i) (above v (i + 1))) → IsPassed box (Refuses f) v n (above v n)
passed_above box f v n l h next =
    subst (λ u. IsPassed box (Refuses f) u n (above v n)) (above_none v)
    (passed_along box (Refuses f) (above v) n next (λ i k. refuses_above f v i l h))

-- ---- tests of the program

-- the value of a form whose coefficients are the minors of two vectors
pub of_minors : (a b v : WholeVector) (x y z : ℤ) → x ≡ a.y *ℤ b.z -ℤ a.z *ℤ b.y → y ≡ a.z *ℤ b.x -ℤ a.x *ℤ b.z
    → z ≡ a.x *ℤ b.y -ℤ a.y *ℤ b.x → x *ℤ v.x +ℤ y *ℤ v.y +ℤ z *ℤ v.z ≡ triple_product a b v
of_minors a b v x y z ex ey ez = rw (ex, ey, ez) (value_of_minors a b v (pos 0))

-- a form refuses a vector exactly if its value there is less than its bound
pub refused : (f : LinearForm) (v : WholeVector) (p l : ℤ) → value_at f v ≡ p → f.least ≡ l → Refuses f v ↔ (p <ℤ l)
refused f v p l e el = rw (e, el) (λ h. h, λ h. h)

pub tested : (f : LinearForm) (v : WholeVector) (p q r l : ℤ) → p ≡ f.x *ℤ v.x → q ≡ f.y *ℤ v.y → r ≡ f.z *ℤ v.z
    → l ≡ f.least → IsTrue (lt_z (p +ℤ q +ℤ r) l) ↔ Refuses f v
tested f v p q r l ep eq er el = rw (ep, eq, er, el) (λ h. grind (arith, ints), λ h. grind (arith, ints))
