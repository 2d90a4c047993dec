-- Rows of candidates, one behind the other in a slab.
--
-- Main results: rows_in_face, rows_in_ring, rows_to_end, rows_from_first, rows_of_ring, row_end_in_rows,
-- below_greatest, is_first_row, is_later_row, is_last_row, is_earlier_row
use Rattle.std.proofs.Common.{ℕ, zero, suc, ◌≡◌, ◌+◌, ◌-◌, ◌*◌, ◌<◌, ◌≤◌, arith, sym, refl, ap, subst, max}
use Rattle.std.specs.Prelude.{ℤ, pos, neg_ℤ, ◌+ℤ◌, ◌<ℤ◌, ◌≤ℤ◌, unsigned_abs}
use Rattle.std.proofs.lemmas.Int.{ints}
use Rattle.std.proofs.Math.Nat.{suc-mul}
use Rattle.om_vectors.specs.WholeVectors.{WholeVector, vector_of}
use Rattle.om_points.specs.Candidates.{greatest, IsCandidate}
use Rattle.om_points.specs.Passes.{IsPassed}
use Rattle.om_points.specs.Slabs.{IsInRows, row_end}
use Rattle.om_points.specs.ShortVectors.{above}
use Rattle.om_points.proofs.Passes.{passed_none, passed_more, passed_further, passed_along}
use Rattle.om_points.proofs.Successors.{nonzero_vector, after_side, after_y, next_above}

-- a slab: its first coordinate is within the greatest size, which is within the box
record IsSlab (box s : ℕ) (x : ℤ) : Type 0 where
  pub low : 1 ≤ s
  pub high : s ≤ box
  pub x_low : neg_ℤ (pos s) ≤ℤ x
  pub x_high : x ≤ℤ pos s

-- some rows of a slab, from a first one to a last one
record AreRows (s : ℕ) (y e : ℤ) : Type 0 where
  pub first : neg_ℤ (pos s) ≤ℤ y
  pub order : y ≤ℤ e
  pub last : e ≤ℤ pos s

-- what holds of the vectors of these rows
abbrev HoldsIn : (WholeVector → Type 0) → ℕ → ℤ → ℤ → ℤ → Type 0
HoldsIn R s x y e = (b c : ℤ) → y ≤ℤ b → b ≤ℤ e → neg_ℤ (pos s) ≤ℤ c → c ≤ℤ pos s → R (vector_of x b c)

of_size : (box s : ℕ) (x y z : ℤ) → IsSlab box s x → greatest (vector_of x y z) ≡ s → IsCandidate box (vector_of x y z)
of_size box s x y z h e =
    let l = h.low in
    let k = h.high in
    record { nonzero = nonzero_vector (vector_of x y z) (omega arith); within = omega arith }

-- a row with each third coordinate
long_row : (box : ℕ) (R : WholeVector → Type 0) (s : ℕ) (x y e : ℤ) → IsSlab box s x → AreRows s y e
    → max (unsigned_abs x) (unsigned_abs y) ≡ s → HoldsIn R s x y e
    → IsPassed box R (vector_of x y (neg_ℤ (pos s))) (2 * s) (vector_of x y (pos s))
long_row box R s x y e h a side r =
    let xl = h.x_low in
    let xh = h.x_high in
    let yl = a.first in
    let ye = a.order in
    let eh = a.last in
    let v : WholeVector = vector_of x y (neg_ℤ (pos s)) in
    let g : greatest v ≡ s = omega (arith, ints) in
    let first : neg_ℤ (pos s) +ℤ pos 0 ≡ neg_ℤ (pos s) = omega (arith, ints) in
    let last : neg_ℤ (pos s) +ℤ pos (2 * s) ≡ pos s = omega (arith, ints) in
    subst (λ t. IsPassed box R (vector_of x y t) (2 * s) (vector_of x y (pos s))) first
    (subst (λ t. IsPassed box R (above v 0) (2 * s) (vector_of x y t)) last
    (passed_along box R (above v) (2 * s)
    (λ i l. next_above box v (pos s) (pos s) (2 * s) i (of_size box s x y (neg_ℤ (pos s)) h g) (ap pos g) (ap pos side)
    refl last l)
    (λ i l. r y (neg_ℤ (pos s) +ℤ pos i) (omega (arith, ints)) ye (omega (arith, ints)) (omega (arith, ints)))))

-- a row with the first and the last third coordinate alone
short_row : (box : ℕ) (R : WholeVector → Type 0) (s : ℕ) (x y e : ℤ) → IsSlab box s x → AreRows s y e
    → unsigned_abs x < s → unsigned_abs y < s → HoldsIn R s x y e
    → IsPassed box R (vector_of x y (neg_ℤ (pos s))) 1 (vector_of x y (pos s))
short_row box R s x y e h a xs ys r =
    let low = h.low in
    let ye = a.order in
    let g : greatest (vector_of x y (neg_ℤ (pos s))) ≡ s = omega (arith, ints) in
    passed_more box R (vector_of x y (neg_ℤ (pos s))) (vector_of x y (neg_ℤ (pos s))) (vector_of x y (pos s)) 0
    (passed_none box R (vector_of x y (neg_ℤ (pos s))))
    (r y (neg_ℤ (pos s)) (omega (arith, ints)) ye (omega (arith, ints)) (omega (arith, ints)))
    (after_side box x y (neg_ℤ (pos s)) s (of_size box s x y (neg_ℤ (pos s)) h g) g (omega (arith, ints))
    (omega (arith, ints)) (omega (arith, ints)) (omega (arith, ints)) (omega (arith, ints)))

-- from the end of a row to the next one
next_row : (box : ℕ) (R : WholeVector → Type 0) (s : ℕ) (x y e : ℤ) → IsSlab box s x → AreRows s y e → y <ℤ e
    → HoldsIn R s x y e → IsPassed box R (vector_of x y (pos s)) 1 (vector_of x (y +ℤ pos 1) (neg_ℤ (pos s)))
next_row box R s x y e h a ye r =
    let xl = h.x_low in
    let xh = h.x_high in
    let yl = a.first in
    let eh = a.last in
    let g : greatest (vector_of x y (pos s)) ≡ s = omega (arith, ints) in
    passed_more box R (vector_of x y (pos s)) (vector_of x y (pos s)) (vector_of x (y +ℤ pos 1) (neg_ℤ (pos s))) 0
    (passed_none box R (vector_of x y (pos s)))
    (r y (pos s) (omega (arith, ints)) (omega (arith, ints)) (omega (arith, ints)) (omega (arith, ints)))
    (after_y box x y (pos s) s (of_size box s x y (pos s) h g) g refl (omega (arith, ints)))

further : (R : WholeVector → Type 0) (s : ℕ) (x y e : ℤ) → HoldsIn R s x y e → HoldsIn R s x (y +ℤ pos 1) e
further R s x y e r b c yl yh zl zh = r b c (omega (arith, ints)) yh zl zh

fewer : (s : ℕ) (y e : ℤ) → AreRows s y e → y <ℤ e → AreRows s (y +ℤ pos 1) e
fewer s y e a l =
    let yl = a.first in
    let eh = a.last in
    record { first = omega (arith, ints); order = omega (arith, ints); last = eh }

-- a row of so many steps, and on to the next one
row_and_on : (box : ℕ) (R : WholeVector → Type 0) (s m n : ℕ) (x y e : ℤ) → IsSlab box s x → AreRows s y e → y <ℤ e
    → HoldsIn R s x y e → IsPassed box R (vector_of x y (neg_ℤ (pos s))) m (vector_of x y (pos s))
    → IsPassed box R (vector_of x (y +ℤ pos 1) (neg_ℤ (pos s))) n (vector_of x e (pos s))
    → IsPassed box R (vector_of x y (neg_ℤ (pos s))) (m + 1 + n) (vector_of x e (pos s))
row_and_on box R s m n x y e h a l r row rest =
    passed_further box R (vector_of x y (neg_ℤ (pos s))) (vector_of x (y +ℤ pos 1) (neg_ℤ (pos s)))
    (vector_of x e (pos s)) (m + 1) n
    (passed_further box R (vector_of x y (neg_ℤ (pos s))) (vector_of x y (pos s))
    (vector_of x (y +ℤ pos 1) (neg_ℤ (pos s))) m 1 row (next_row box R s x y e h a l r)) rest

-- a last row of so many steps
row_alone : (box : ℕ) (R : WholeVector → Type 0) (s m : ℕ) (x y e : ℤ) → y ≡ e
    → IsPassed box R (vector_of x y (neg_ℤ (pos s))) m (vector_of x y (pos s))
    → IsPassed box R (vector_of x y (neg_ℤ (pos s))) m (vector_of x e (pos s))
row_alone box R s m x y e same row =
    subst (λ t. IsPassed box R (vector_of x y (neg_ℤ (pos s))) m (vector_of x t (pos s))) same row

face_passed : (box : ℕ) (R : WholeVector → Type 0) (s k : ℕ) (x y e : ℤ) → IsSlab box s x → unsigned_abs x ≡ s
    → AreRows s y e → y +ℤ pos k ≡ e → HoldsIn R s x y e
    → IsPassed box R (vector_of x y (neg_ℤ (pos s))) (k * (2 * s + 1) + 2 * s) (vector_of x e (pos s))
face_passed box R s zero x y e h f a q r =
    let yl = a.first in
    let eh = a.last in
    let n : 0 * (2 * s + 1) + 2 * s ≡ 2 * s = omega arith in
    rw n (row_alone box R s (2 * s) x y e (omega (arith, ints)) (long_row box R s x y e h a (omega (arith, ints)) r))
face_passed box R s (suc k) x y e h f a q r =
    let yl = a.first in
    let eh = a.last in
    let l : y <ℤ e = omega (arith, ints) in
    let n : suc k * (2 * s + 1) + 2 * s ≡ 2 * s + 1 + (k * (2 * s + 1) + 2 * s) = let m = suc-mul k (2 * s + 1) in
    omega arith in
    rw n (row_and_on box R s (2 * s) (k * (2 * s + 1) + 2 * s) x y e h a l r
    (long_row box R s x y e h a (omega (arith, ints)) r)
    (face_passed box R s k x (y +ℤ pos 1) e h f (fewer s y e a l) (omega (arith, ints)) (further R s x y e r)))

-- rows between the first and the last one
middle_passed : (box : ℕ) (R : WholeVector → Type 0) (s k : ℕ) (x y e : ℤ) → IsSlab box s x → unsigned_abs x < s
    → AreRows s y e → neg_ℤ (pos s) <ℤ y → e <ℤ pos s → y +ℤ pos k ≡ e → HoldsIn R s x y e
    → IsPassed box R (vector_of x y (neg_ℤ (pos s))) (2 * k + 1) (vector_of x e (pos s))
middle_passed box R s zero x y e h f a yl eh q r =
    let n : 2 * 0 + 1 ≡ 1 = omega arith in
    rw n (row_alone box R s 1 x y e (omega (arith, ints)) (short_row box R s x y e h a f (omega (arith, ints)) r))
middle_passed box R s (suc k) x y e h f a yl eh q r =
    let l : y <ℤ e = omega (arith, ints) in
    let n : 2 * suc k + 1 ≡ 1 + 1 + (2 * k + 1) = omega arith in
    rw n (row_and_on box R s 1 (2 * k + 1) x y e h a l r (short_row box R s x y e h a f (omega (arith, ints)) r)
    (middle_passed box R s k x (y +ℤ pos 1) e h f (fewer s y e a l) (omega (arith, ints)) eh (omega (arith, ints))
    (further R s x y e r)))

-- rows behind the first one, up to the last one
ending_passed : (box : ℕ) (R : WholeVector → Type 0) (s k : ℕ) (x y e : ℤ) → IsSlab box s x → unsigned_abs x < s
    → AreRows s y e → neg_ℤ (pos s) <ℤ y → e ≡ pos s → y +ℤ pos k ≡ e → HoldsIn R s x y e
    → IsPassed box R (vector_of x y (neg_ℤ (pos s))) (2 * k + 2 * s) (vector_of x e (pos s))
ending_passed box R s zero x y e h f a yl eh q r =
    let n : 2 * 0 + 2 * s ≡ 2 * s = omega arith in
    rw n (row_alone box R s (2 * s) x y e (omega (arith, ints)) (long_row box R s x y e h a (omega (arith, ints)) r))
ending_passed box R s (suc k) x y e h f a yl eh q r =
    let l : y <ℤ e = omega (arith, ints) in
    let n : 2 * suc k + 2 * s ≡ 1 + 1 + (2 * k + 2 * s) = omega arith in
    rw n (row_and_on box R s 1 (2 * k + 2 * s) x y e h a l r (short_row box R s x y e h a f (omega (arith, ints)) r)
    (ending_passed box R s k x (y +ℤ pos 1) e h f (fewer s y e a l) (omega (arith, ints)) eh (omega (arith, ints))
    (further R s x y e r)))

-- ---- the rows of a vector

in_rows : (v : WholeVector) (k : ℕ) → (v.y +ℤ pos k) ≤ℤ pos (greatest v)
    → HoldsIn (IsInRows v k) (greatest v) v.x v.y (v.y +ℤ pos k)
in_rows v k l b c yl yh zl zh = record { same = refl; after = yl; before = yh; within = omega (arith, ints) }

slab_of : (box : ℕ) (v : WholeVector) → IsCandidate box v → 1 ≤ greatest v → IsSlab box (greatest v) v.x
slab_of box v c l = record { low = l; high = c.within; x_low = omega (arith, ints); x_high = omega (arith, ints) }

rows_of : (v : WholeVector) (k : ℕ) → (v.y +ℤ pos k) ≤ℤ pos (greatest v) → AreRows (greatest v) v.y (v.y +ℤ pos k)
rows_of v k l = record { first = omega (arith, ints); order = omega (arith, ints); last = l }

-- from the lowest vector of a row
lowest : (box : ℕ) (R : WholeVector → Type 0) (v u : WholeVector) (n : ℕ) → v.z ≡ neg_ℤ (pos (greatest v))
    → IsPassed box R (vector_of v.x v.y (neg_ℤ (pos (greatest v)))) n u → IsPassed box R v n u
lowest box R v u n z h = subst (λ t. IsPassed box R (vector_of v.x v.y t) n u) (sym z) h

pub rows_in_face : (box k : ℕ) (v : WholeVector) → IsCandidate box v → 1 ≤ greatest v → v.z ≡ neg_ℤ (pos (greatest v))
    → (v.y +ℤ pos k) ≤ℤ pos (greatest v) → unsigned_abs v.x ≡ greatest v
    → IsPassed box (IsInRows v k) v (k * (2 * greatest v + 1) + 2 * greatest v) (row_end v k)
rows_in_face box k v c l z e f =
    lowest box (IsInRows v k) v (row_end v k) (k * (2 * greatest v + 1) + 2 * greatest v) z
    (face_passed box (IsInRows v k) (greatest v) k v.x v.y (v.y +ℤ pos k) (slab_of box v c l) f (rows_of v k e) refl
    (in_rows v k e))

pub rows_in_ring : (box k : ℕ) (v : WholeVector) → IsCandidate box v → 1 ≤ greatest v → v.z ≡ neg_ℤ (pos (greatest v))
    → unsigned_abs v.x < greatest v → neg_ℤ (pos (greatest v)) <ℤ v.y → (v.y +ℤ pos k) <ℤ pos (greatest v)
    → IsPassed box (IsInRows v k) v (2 * k + 1) (row_end v k)
rows_in_ring box k v c l z f yl eh =
    let e : (v.y +ℤ pos k) ≤ℤ pos (greatest v) = omega (arith, ints) in
    lowest box (IsInRows v k) v (row_end v k) (2 * k + 1) z
    (middle_passed box (IsInRows v k) (greatest v) k v.x v.y (v.y +ℤ pos k) (slab_of box v c l) f (rows_of v k e) yl eh
    refl (in_rows v k e))

pub rows_to_end : (box k : ℕ) (v : WholeVector) → IsCandidate box v → 1 ≤ greatest v → v.z ≡ neg_ℤ (pos (greatest v))
    → unsigned_abs v.x < greatest v → neg_ℤ (pos (greatest v)) <ℤ v.y → v.y +ℤ pos k ≡ pos (greatest v)
    → IsPassed box (IsInRows v k) v (2 * k + 2 * greatest v) (row_end v k)
rows_to_end box k v c l z f yl q =
    let e : (v.y +ℤ pos k) ≤ℤ pos (greatest v) = omega (arith, ints) in
    lowest box (IsInRows v k) v (row_end v k) (2 * k + 2 * greatest v) z
    (ending_passed box (IsInRows v k) (greatest v) k v.x v.y (v.y +ℤ pos k) (slab_of box v c l) f (rows_of v k e) yl q
    refl (in_rows v k e))

-- the first row of a ring, and further rows before the last one
first_passed : (box : ℕ) (R : WholeVector → Type 0) (s k : ℕ) (x y e : ℤ) → IsSlab box s x → unsigned_abs x < s
    → AreRows s y e → y ≡ neg_ℤ (pos s) → e <ℤ pos s → y +ℤ pos k ≡ e → HoldsIn R s x y e
    → IsPassed box R (vector_of x y (neg_ℤ (pos s))) (2 * k + 2 * s) (vector_of x e (pos s))
first_passed box R s zero x y e h f a yl eh q r =
    let n : 2 * 0 + 2 * s ≡ 2 * s = omega arith in
    rw n (row_alone box R s (2 * s) x y e (omega (arith, ints)) (long_row box R s x y e h a (omega (arith, ints)) r))
first_passed box R s (suc k) x y e h f a yl eh q r =
    let l : y <ℤ e = omega (arith, ints) in
    let n : 2 * suc k + 2 * s ≡ 2 * s + 1 + (2 * k + 1) = omega arith in
    rw n (row_and_on box R s (2 * s) (2 * k + 1) x y e h a l r (long_row box R s x y e h a (omega (arith, ints)) r)
    (middle_passed box R s k x (y +ℤ pos 1) e h f (fewer s y e a l) (omega (arith, ints)) eh (omega (arith, ints))
    (further R s x y e r)))

pub rows_from_first : (box k : ℕ) (v : WholeVector) → IsCandidate box v → 1 ≤ greatest v
    → v.z ≡ neg_ℤ (pos (greatest v)) → unsigned_abs v.x < greatest v → v.y ≡ neg_ℤ (pos (greatest v))
    → (v.y +ℤ pos k) <ℤ pos (greatest v) → IsPassed box (IsInRows v k) v (2 * k + 2 * greatest v) (row_end v k)
rows_from_first box k v c l z f yl eh =
    let e : (v.y +ℤ pos k) ≤ℤ pos (greatest v) = omega (arith, ints) in
    lowest box (IsInRows v k) v (row_end v k) (2 * k + 2 * greatest v) z
    (first_passed box (IsInRows v k) (greatest v) k v.x v.y (v.y +ℤ pos k) (slab_of box v c l) f (rows_of v k e) yl eh
    refl (in_rows v k e))

-- all rows of a ring
whole_passed : (box : ℕ) (R : WholeVector → Type 0) (s k : ℕ) (x y e : ℤ) → IsSlab box s x → unsigned_abs x < s
    → AreRows s y e → y ≡ neg_ℤ (pos s) → e ≡ pos s → k ≡ 2 * s → HoldsIn R s x y e
    → IsPassed box R (vector_of x y (neg_ℤ (pos s))) (4 * (2 * s) - 1) (vector_of x e (pos s))
whole_passed box R s k x y e h f a yl eh q r =
    let low = h.low in
    let l : y <ℤ e = omega (arith, ints) in
    let n : 4 * (2 * s) - 1 ≡ 2 * s + 1 + (2 * (2 * s - 1) + 2 * s) = omega arith in
    rw n (row_and_on box R s (2 * s) (2 * (2 * s - 1) + 2 * s) x y e h a l r
    (long_row box R s x y e h a (omega (arith, ints)) r)
    (ending_passed box R s (2 * s - 1) x (y +ℤ pos 1) e h f (fewer s y e a l) (omega (arith, ints)) eh
    (omega (arith, ints)) (further R s x y e r)))

pub rows_of_ring : (box k : ℕ) (v : WholeVector) → IsCandidate box v → 1 ≤ greatest v → v.z ≡ neg_ℤ (pos (greatest v))
    → unsigned_abs v.x < greatest v → k ≡ 2 * greatest v → v.y +ℤ pos k ≡ pos (greatest v)
    → IsPassed box (IsInRows v k) v (4 * (2 * greatest v) - 1) (row_end v k)
rows_of_ring box k v c l z f n q =
    let e : (v.y +ℤ pos k) ≤ℤ pos (greatest v) = omega (arith, ints) in
    lowest box (IsInRows v k) v (row_end v k) (4 * (2 * greatest v) - 1) z
    (whole_passed box (IsInRows v k) (greatest v) k v.x v.y (v.y +ℤ pos k) (slab_of box v c l) f (rows_of v k e)
    (omega (arith, ints)) q n (in_rows v k e))

pub row_end_in_rows : (v : WholeVector) (k : ℕ) → (v.y +ℤ pos k) ≤ℤ pos (greatest v) → IsInRows v k (row_end v k)
row_end_in_rows v k l =
    record { same = refl; after = omega (arith, ints); before = omega (arith, ints); within = omega (arith, ints) }

pub below_greatest : (v : WholeVector) → (unsigned_abs v.x ≡ greatest v → ⊥) → unsigned_abs v.x < greatest v
below_greatest v n = omega arith

-- ---- which rows these are, by the number of rows that are behind them in the slab

pub is_first_row : (v : WholeVector) (rest r : ℕ) → v.y +ℤ pos rest ≡ pos (greatest v) → r ≡ greatest v → rest ≡ 2 * r
    → v.y ≡ neg_ℤ (pos (greatest v))
is_first_row v rest r e f g = omega (arith, ints)

pub is_later_row : (v : WholeVector) (rest r : ℕ) → v.y +ℤ pos rest ≡ pos (greatest v) → r ≡ greatest v
    → (rest ≡ 2 * r → ⊥) → neg_ℤ (pos (greatest v)) <ℤ v.y
is_later_row v rest r e f n = omega (arith, ints)

pub is_last_row : (v : WholeVector) (rest k : ℕ) → v.y +ℤ pos rest ≡ pos (greatest v) → k ≡ rest
    → v.y +ℤ pos k ≡ pos (greatest v)
is_last_row v rest k e f = omega (arith, ints)

pub is_earlier_row : (v : WholeVector) (rest k : ℕ) → v.y +ℤ pos rest ≡ pos (greatest v)
    → (v.y +ℤ pos k) ≤ℤ pos (greatest v) → (k ≡ rest → ⊥) → (v.y +ℤ pos k) <ℤ pos (greatest v)
is_earlier_row v rest k e l n = omega (arith, ints)
