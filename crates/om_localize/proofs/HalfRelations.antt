-- The relation at an element, from signs that are zero, or plus and minus on open halves, on its circle.
--
-- Main results: relation_on_halves, point_on_halves
-- Reference: Björner, Las Vergnas, Sturmfels, White and Ziegler, Oriented Matroids, chapter 7.
use Rattle.std.specs.Prelude.{ℕ, ◌≡◌, ◌⊎◌, refl}
use Rattle.std.proofs.Common.{ap, sym, ◌∙◌, subst, arith, inl, inr}
use Rattle.om_signs.specs.declared.sign.Sign.{Sign}
use Rattle.om_signs.specs.declared.sign.Sign.TheVariants.{Minus, Zero, Plus}
use Rattle.om_signs.specs.Sign.{opposite, product, first_nonzero}
use Rattle.om_signs.proofs.SignLaws.{product_comm, product_left_comm, product-opposite_right, product_zero_right}
use Rattle.om_signs.proofs.SignLaws.{opposite_zero, product-first_nonzero, right_factor_nonzero, nonzero_if_opposite}
use Rattle.om_laws.specs.Signs.{IsNonzero}
use Rattle.om_laws.specs.Vectors.{SignVector}
use Rattle.om_laws.specs.ThreeTerm.{AreBalanced}
use Rattle.om_laws.proofs.BalancedSigns.{balanced_same, balanced_zeros}
use Rattle.om_localize.specs.Circles.{Circle, IsPoint, IsOnHalves}
use Rattle.om_localize.proofs.BalanceLaws.{balanced_composition, balanced_opposites, balanced_reversed}

-- ---- and back: the relation at each element, from the halves

-- a factor that a sign has, outside the product and its opposite
product_outside : (k a b c : Sign) → c ≡ product k b → product a c ≡ product k (product a b)
product_outside k a b c q = ap (product a) q ∙ product_left_comm a k b

opposite_outside : (k a b c : Sign) → c ≡ product k b → opposite (product a c) ≡ product k (opposite (product a b))
opposite_outside k a b c q = ap opposite (product_outside k a b c q) ∙ sym (product-opposite_right k (product a b))

balanced_times : (k x y z : Sign) → AreBalanced x y z → AreBalanced (product k x) (product k y) (product k z)
balanced_times Minus x y z h = balanced_opposites x y z h
balanced_times Zero x y z h = tt
balanced_times Plus x y z h = h

times_relation : (k xy xz yz tx ty tz sx sy sz : Sign) → sx ≡ product k tx → sy ≡ product k ty → sz ≡ product k tz
    → AreBalanced (product xy tz) (opposite (product xz ty)) (product yz tx)
    → AreBalanced (product xy sz) (opposite (product xz sy)) (product yz sx)
times_relation k xy xz yz tx ty tz sx sy sz p q r h =
    balanced_same (product k (product xy tz)) (product k (opposite (product xz ty))) (product k (product yz tx))
    (product xy sz) (opposite (product xz sy)) (product yz sx) (product_outside k xy tz sz r)
    (opposite_outside k xz ty sy q) (product_outside k yz tx sx p)
    (balanced_times k (product xy tz) (opposite (product xz ty)) (product yz tx) h)

relation_of_halves : (xy xz yz fx fy fz sx sy sz k : Sign) → sx ≡ product k fx → sy ≡ product k fy → sz ≡ product k fz
    → AreBalanced (product fx yz) (opposite (product fy xz)) (product fz xy)
    → AreBalanced (product xy sz) (opposite (product xz sy)) (product yz sx)
relation_of_halves xy xz yz fx fy fz sx sy sz k p q r h =
    times_relation k xy xz yz fx fy fz sx sy sz p q r
    (balanced_same (product fz xy) (opposite (product fy xz)) (product fx yz) (product xy fz) (opposite (product xz fy))
    (product yz fx) (product_comm xy fz) (ap opposite (product_comm xz fy)) (product_comm yz fx)
    (balanced_reversed (product fx yz) (opposite (product fy xz)) (product fz xy) h))

opposite_first : (a b : Sign) → opposite (first_nonzero a b) ≡ first_nonzero (opposite a) (opposite b)
opposite_first a b = grind arith

-- of the composition of two sign vectors
composed_relation : (xy xz yz ax ay az bx by bz : Sign)
    → AreBalanced (product xy az) (opposite (product xz ay)) (product yz ax)
    → AreBalanced (product xy bz) (opposite (product xz by)) (product yz bx)
    → AreBalanced (product xy (first_nonzero az bz)) (opposite (product xz (first_nonzero ay by)))
    (product yz (first_nonzero ax bx))
composed_relation xy xz yz ax ay az bx by bz p q =
    rw (
      product-first_nonzero xy az bz,
      product-first_nonzero xz ay by,
      product-first_nonzero yz ax bx,
      opposite_first (product xz ay) (product xz by),
    )
    (balanced_composition (product xy az) (opposite (product xz ay)) (product yz ax) (product xy bz)
    (opposite (product xz by)) (product yz bx) p q)

zero_relation : (xy xz yz sx sy sz : Sign) → sx ≡ Zero → sy ≡ Zero → sz ≡ Zero
    → AreBalanced (product xy sz) (opposite (product xz sy)) (product yz sx)
zero_relation xy xz yz sx sy sz p q r =
    balanced_zeros (product xy sz) (opposite (product xz sy)) (product yz sx) (product_zero_right xy sz r)
    (opposite_zero (product xz sy) (product_zero_right xz sy q)) (product_zero_right yz sx p)

either_nonzero : (a b d : Sign) → IsNonzero (first_nonzero a (product b d)) → IsNonzero a ⊎ IsNonzero d
either_nonzero Minus b d n = inl n
either_nonzero Zero b d n = inr (right_factor_nonzero b d n)
either_nonzero Plus b d n = inl n

module _ (circle : Circle) (s : SignVector)
    (swap : (x y : ℕ) → circle y x ≡ opposite (circle x y))
    (three : (x y z w : ℕ) → AreBalanced (product (circle x y) (circle z w))
    (opposite (product (circle x z) (circle y w))) (product (circle x w) (circle y z)))
  where
    abbrev RelationOf : SignVector → ℕ → ℕ → ℕ → Type 0
    RelationOf t x y z = AreBalanced (product (circle x y) (t z)) (opposite (product (circle x z) (t y)))
        (product (circle y z) (t x))

    of_zeros : (f : ℕ) (k : Sign) (t : SignVector) → ((g : ℕ) → t g ≡ product k (circle f g)) → (x y z : ℕ)
        → RelationOf t x y z
    of_zeros f k t e x y z =
        relation_of_halves (circle x y) (circle x z) (circle y z) (circle f x) (circle f y) (circle f z) (t x) (t y)
        (t z) k (e x) (e y) (e z) (three f x y z)

    pub relation_on_halves : IsOnHalves circle s → (x y z : ℕ) → RelationOf s x y z
    relation_on_halves (inl none) x y z =
        zero_relation (circle x y) (circle x z) (circle y z) (s x) (s y) (s z) (none x) (none y) (none z)
    relation_on_halves (inr (f, k, inl h)) x y z = of_zeros f k s h.halves x y z
    relation_on_halves (inr (f, k, inr h)) x y z =
        let p = h.point.0 in
        let e = h.halves p h.point.1 in
        let t : SignVector = λ g. product (circle f p) (circle g p) in
        times_relation k (circle x y) (circle x z) (circle y z) (first_nonzero (circle f x) (t x))
        (first_nonzero (circle f y) (t y)) (first_nonzero (circle f z) (t z)) (s x) (s y) (s z) (e x) (e y) (e z)
        (composed_relation (circle x y) (circle x z) (circle y z) (circle f x) (circle f y) (circle f z) (t x) (t y)
        (t z)
        (of_zeros f Plus (circle f) (λ g. refl) x y z)
        (of_zeros p (opposite (circle f p)) t (λ g. turned (circle f p) (circle g p) (circle p g) (swap p g)) x y z))
      where
        turned : (a b d : Sign) → b ≡ opposite d → product a b ≡ product (opposite a) d
        turned a b d q = grind arith

    pub point_on_halves : IsOnHalves circle s → (x : ℕ) → IsNonzero (s x) → IsPoint circle x
    point_on_halves (inl none) x nz = absurd (nz (none x))
    point_on_halves (inr (f, k, inl h)) x nz = (
      f,
      nonzero_if_opposite (circle x f) (circle f x) (swap f x)
          (right_factor_nonzero k (circle f x) (subst IsNonzero (h.halves x) nz)),
    )
    point_on_halves (inr (f, k, inr h)) x nz =
        let p = h.point.0 in
        elim (either_nonzero (circle f x) (circle f p) (circle x p)
        (right_factor_nonzero k (first_nonzero (circle f x) (product (circle f p) (circle x p)))
        (subst IsNonzero (h.halves p h.point.1 x) nz))) [
          | inl a ↦ (f, nonzero_if_opposite (circle x f) (circle f x) (swap f x) a)
          | inr a ↦ (p, a)
        ]
