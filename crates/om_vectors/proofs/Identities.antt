-- Identities between triple products.
--
-- Main results: swap_first, swap_last, repeat_first; by_first, by_last; four_terms and three_terms.
use Rattle.std.proofs.Common.{◌≡◌, ◌∙◌, ap}
use Rattle.std.specs.Prelude.{ℤ, pos, ◌+ℤ◌, ◌-ℤ◌, ◌*ℤ◌, neg_ℤ}
use Rattle.std.proofs.Math.IntN.{*ℤ-zero, zero-*ℤ}
use Rattle.om_signs.proofs.Rings.{expanding, sums}
use Rattle.om_vectors.specs.WholeVectors.{WholeVector, vector_of, triple_product}

-- the product of vectors a and b that is orthogonal to both
abbrev pub cross : WholeVector → WholeVector → WholeVector
cross a b = vector_of (a.y *ℤ b.z -ℤ a.z *ℤ b.y) (a.z *ℤ b.x -ℤ a.x *ℤ b.z) (a.x *ℤ b.y -ℤ a.y *ℤ b.x)

-- the inner product
abbrev pub dot : WholeVector → WholeVector → ℤ
dot a b = a.x *ℤ b.x +ℤ a.y *ℤ b.y +ℤ a.z *ℤ b.z

-- a triple product is negated if its first two vectors change places
pub swap_first : (a b c : WholeVector) → triple_product b a c ≡ neg_ℤ (triple_product a b c)
swap_first a b c = simp expanding (omega sums)

-- a triple product is negated if its last two vectors change places
pub swap_last : (a b c : WholeVector) → triple_product a c b ≡ neg_ℤ (triple_product a b c)
swap_last a b c = simp expanding (omega sums)

pub repeat_first : (a b : WholeVector) → triple_product a a b ≡ pos 0
repeat_first a b = simp expanding (omega sums)

-- the triple product as an inner product with the cross product of the first two
pub by_first : (a b c : WholeVector) → triple_product a b c ≡ dot (cross a b) c
by_first a b c = simp expanding (omega sums)

-- the triple product as an inner product with the cross product of the last two
pub by_last : (a b c : WholeVector) → triple_product a b c ≡ dot a (cross b c)
by_last a b c = simp expanding (omega sums)

-- the two expansions of a vector triple product, in each coordinate
front_x : (a b d : WholeVector) → a.x *ℤ dot b d -ℤ b.x *ℤ dot a d ≡ (cross a b).z *ℤ d.y -ℤ (cross a b).y *ℤ d.z
front_x a b d = simp expanding (omega sums)

front_y : (a b d : WholeVector) → a.y *ℤ dot b d -ℤ b.y *ℤ dot a d ≡ (cross a b).x *ℤ d.z -ℤ (cross a b).z *ℤ d.x
front_y a b d = simp expanding (omega sums)

front_z : (a b d : WholeVector) → a.z *ℤ dot b d -ℤ b.z *ℤ dot a d ≡ (cross a b).y *ℤ d.x -ℤ (cross a b).x *ℤ d.y
front_z a b d = simp expanding (omega sums)

back_x : (q u v : WholeVector) → u.x *ℤ dot q v -ℤ v.x *ℤ dot q u ≡ q.y *ℤ (cross u v).z -ℤ q.z *ℤ (cross u v).y
back_x q u v = simp expanding (omega sums)

back_y : (q u v : WholeVector) → u.y *ℤ dot q v -ℤ v.y *ℤ dot q u ≡ q.z *ℤ (cross u v).x -ℤ q.x *ℤ (cross u v).z
back_y q u v = simp expanding (omega sums)

back_z : (q u v : WholeVector) → u.z *ℤ dot q v -ℤ v.z *ℤ dot q u ≡ q.x *ℤ (cross u v).y -ℤ q.y *ℤ (cross u v).x
back_z q u v = simp expanding (omega sums)

cancel : (a b c d p q : ℤ) → a -ℤ b ≡ p -ℤ q → c -ℤ d ≡ q -ℤ p → a -ℤ b +ℤ c -ℤ d ≡ pos 0
cancel a b c d p q e f = omega sums

-- one coordinate of the relation between four vectors: it is f that picks the coordinate
four_of : (f : WholeVector → ℤ) (s t u v : WholeVector) (p q : ℤ)
    → f s *ℤ dot t (cross u v) -ℤ f t *ℤ dot s (cross u v) ≡ p -ℤ q
    → f u *ℤ dot (cross s t) v -ℤ f v *ℤ dot (cross s t) u ≡ q -ℤ p
    → f s *ℤ triple_product t u v -ℤ f t *ℤ triple_product s u v +ℤ f u *ℤ triple_product s t v -ℤ f v
    *ℤ triple_product s t u ≡ pos 0
four_of f s t u v p q e g =
    let e1 = ap (λ (n : ℤ). f s *ℤ n) (by_last t u v) in
    let e2 = ap (λ (n : ℤ). f t *ℤ n) (by_last s u v) in
    let e3 = ap (λ (n : ℤ). f u *ℤ n) (by_first s t v) in
    let e4 = ap (λ (n : ℤ). f v *ℤ n) (by_first s t u) in
    same e1 e2 e3 e4
    (cancel (f s *ℤ dot t (cross u v)) (f t *ℤ dot s (cross u v)) (f u *ℤ dot (cross s t) v)
    (f v *ℤ dot (cross s t) u) p q e g)
  where
    same : {a b c d a' b' c' d' : ℤ} → a ≡ a' → b ≡ b' → c ≡ c' → d ≡ d' → a' -ℤ b' +ℤ c' -ℤ d' ≡ pos 0
        → a -ℤ b +ℤ c -ℤ d ≡ pos 0
    same e1 e2 e3 e4 h = omega sums

-- the inner product with m of a relation that holds in each coordinate
gather : (m s t u v : WholeVector) (p q r w : ℤ) → s.x *ℤ p -ℤ t.x *ℤ q +ℤ u.x *ℤ r -ℤ v.x *ℤ w ≡ pos 0
    → s.y *ℤ p -ℤ t.y *ℤ q +ℤ u.y *ℤ r -ℤ v.y *ℤ w ≡ pos 0 → s.z *ℤ p -ℤ t.z *ℤ q +ℤ u.z *ℤ r -ℤ v.z *ℤ w ≡ pos 0
    → dot m s *ℤ p -ℤ dot m t *ℤ q +ℤ dot m u *ℤ r -ℤ dot m v *ℤ w ≡ pos 0
gather m s t u v p q r w ex ey ez =
    let x = simp expanding at (ap (λ (n : ℤ). m.x *ℤ n) ex ∙ *ℤ-zero m.x) in
    let y = simp expanding at (ap (λ (n : ℤ). m.y *ℤ n) ey ∙ *ℤ-zero m.y) in
    let z = simp expanding at (ap (λ (n : ℤ). m.z *ℤ n) ez ∙ *ℤ-zero m.z) in
    simp expanding (omega sums)

pub four_terms : (a b s t u v : WholeVector) → triple_product a b s *ℤ triple_product t u v -ℤ triple_product a b t
    *ℤ triple_product s u v +ℤ triple_product a b u *ℤ triple_product s t v -ℤ triple_product a b v
    *ℤ triple_product s t u ≡ pos 0
four_terms a b s t u v =
    let m = cross a b in
    let k = cross s t in
    let l = cross u v in
    let x = four_of (λ (w : WholeVector). w.x) s t u v (k.z *ℤ l.y) (k.y *ℤ l.z) (front_x s t l) (back_x k u v) in
    let y = four_of (λ (w : WholeVector). w.y) s t u v (k.x *ℤ l.z) (k.z *ℤ l.x) (front_y s t l) (back_y k u v) in
    let z = four_of (λ (w : WholeVector). w.z) s t u v (k.y *ℤ l.x) (k.x *ℤ l.y) (front_z s t l) (back_z k u v) in
    same (triple_product t u v) (triple_product s u v) (triple_product s t v) (triple_product s t u) (by_first a b s)
    (by_first a b t) (by_first a b u) (by_first a b v)
    (gather m s t u v (triple_product t u v) (triple_product s u v) (triple_product s t v) (triple_product s t u) x
    y z)
  where
    same : {a b c d a' b' c' d' : ℤ} (p q r w : ℤ) → a ≡ a' → b ≡ b' → c ≡ c' → d ≡ d'
        → a' *ℤ p -ℤ b' *ℤ q +ℤ c' *ℤ r -ℤ d' *ℤ w ≡ pos 0 → a *ℤ p -ℤ b *ℤ q +ℤ c *ℤ r -ℤ d *ℤ w ≡ pos 0
    same p q r w e1 e2 e3 e4 h = cc

-- the three-term relation [abc][ade] - [abd][ace] + [abe][acd] = 0 of triple products
pub three_terms : (a b c d e : WholeVector) → triple_product a b c *ℤ triple_product a d e -ℤ triple_product a b d
    *ℤ triple_product a c e +ℤ triple_product a b e *ℤ triple_product a c d ≡ pos 0
three_terms a b c d e =
    drop _ _ _ _ (ap (λ (n : ℤ). n *ℤ triple_product c d e) (repeat_outer a b) ∙ zero-*ℤ (triple_product c d e))
    (four_terms a b a c d e)
  where
    repeat_outer : (a b : WholeVector) → triple_product a b a ≡ pos 0
    repeat_outer a b = simp expanding (omega sums)

    drop : (z p q r : ℤ) → z ≡ pos 0 → z -ℤ p +ℤ q -ℤ r ≡ pos 0 → p -ℤ q +ℤ r ≡ pos 0
    drop z p q r e f = omega sums
