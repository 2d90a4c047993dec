-- Maps of rank 2 that have the three-term relations.
--
-- Main results: where the families of products of all elements have a plus exactly where they have a minus, each
-- element with a nonzero sign is parallel to x0 (each_parallel), and so is each element (no_other_direction).
-- Reference: Björner, Las Vergnas, Sturmfels, White and Ziegler, Oriented Matroids, chapter 3.
use Rattle.std.specs.Prelude.{◌≡◌, ◌≢◌, ◌⊎◌, ℕ, List, [], ◌∷◌, refl}
use Rattle.std.proofs.Common.{sym, ◌∙◌, subst, ⊎_elim, inl, inr, arith}
use Rattle.om_signs.specs.declared.sign.Sign.{Sign}
use Rattle.om_signs.specs.declared.sign.Sign.TheVariants.{Minus, Zero, Plus}
use Rattle.om_signs.specs.Sign.{opposite, product}
use Rattle.om_signs.proofs.SignLaws.{opposite_zero, product_nonzero, product_zero_left, product_zero_right}
use Rattle.om_signs.proofs.SignLaws.{zero_or_nonzero, right_factor_zero, square_times_own_opposite, minus_or_not}
use Rattle.om_signs.proofs.SignLaws.{same_or_different, left_nonzero, right_nonzero, plus_nonzero, opposite_nonzero}
use Rattle.om_laws.specs.Members.{IsMember}
use Rattle.om_laws.specs.Signs.{IsNonzero}
use Rattle.om_laws.specs.ThreeTerm.{AreBalanced}
use Rattle.om_laws.proofs.BalancedSigns.{balanced_alone}

balanced_without_first : (p q : Sign) → AreBalanced Zero (opposite p) q → p ≡ q
balanced_without_first p q b = grind arith

-- ---- facts about a few signs
step_a : (vh ah vx ax eh ex : Sign) → product ax eh ≡ product ah ex → product vh ah ≢ Minus → product vx ax ≡ Plus
    → product vh eh ≡ opposite (product vx ex) → IsNonzero ex → ⊥
step_a vh ah vx ax eh ex b p x0 f n = grind arith

trans_sign : (al be ga gh hm gm vg vh vm : Sign)
    → AreBalanced (product al hm) (opposite (product be gm)) (product ga gh) → product vg al ≡ Plus
    → product vh be ≡ Plus → product vm ga ≡ Plus → product (product vg vh) gh ≢ Minus
    → product (product vh vm) hm ≢ Minus → product (product vg vm) gm ≢ Minus
trans_sign al be ga gh hm gm vg vh vm b p q r h k e =
    let g1 : vg ≡ al = grind arith in
    let g2 : vh ≡ be = grind arith in
    let g3 : vm ≡ ga = grind arith in
    grind arith

anti_total : (vg vh s t : Sign) → t ≡ opposite s → (product (product vg vh) s ≢ Minus)
    ⊎ (product (product vh vg) t ≢ Minus)
anti_total vg vh s t e =
    ⊎_elim (λ m. inr (λ k. grind arith)) (λ n. inl n) (minus_or_not (product (product vg vh) s))

live_sign : (v a : Sign) → IsNonzero v → product v a ≢ Minus → (a ≡ Zero) ⊎ (product v a ≡ Plus)
live_sign Minus Minus n h = inr refl
live_sign Minus Zero n h = inl refl
live_sign Minus Plus n h = absurd (h refl)
live_sign Zero a n h = absurd (n refl)
live_sign Plus Minus n h = absurd (h refl)
live_sign Plus Zero n h = inl refl
live_sign Plus Plus n h = inr refl

least_clash : (vs vh sh t vx sx : Sign) → product (product vs vh) sh ≢ Minus → product (product vs vx) sx ≢ Minus
    → product vx sx ≡ t → IsNonzero t → product vh sh ≡ opposite t → IsNonzero vs → ⊥
least_clash vs vh sh t vx sx p q e n f u = grind arith

end_sign : (vh ah vx ax sh sx : Sign) → product ah sx ≡ product ax sh → product vh ah ≢ Minus → product vx ax ≡ Plus
    → product vh sh ≡ opposite (product vx sx) → IsNonzero sx → ⊥
end_sign vh ah vx ax sh sx b p x0 f n = grind arith

-- elements S with signs v, a map psi of rank 2 with the three-term relations, an element a that is on one side of all,
-- and x0 off it
module _ (psi : ℕ → ℕ → Sign)
    (anti : (g h : ℕ) → psi g h ≡ opposite (psi h g))
    (g3 : (a b c d : ℕ) → AreBalanced (product (psi a b) (psi c d)) (opposite (product (psi a c) (psi b d)))
    (product (psi a d) (psi b c)))
    (S : List ℕ) (v : ℕ → Sign) (a x0 : ℕ)
    (side : (e : ℕ) → IsMember e S → product (v e) (psi a e) ≢ Minus)
    (mx : IsMember x0 S) (off : product (v x0) (psi a x0) ≡ Plus)
  where
    -- the family of s is balanced
    abbrev pub Family : ℕ → Type 0
    Family s = (h : ℕ) → IsMember h S → (t : Sign) → IsNonzero t → product (v h) (psi s h) ≡ t → (k : ℕ) × IsMember k S
        × (product (v k) (psi s k) ≡ opposite t)

    abbrev pub Families : Type 0
    Families = (s : ℕ) → IsMember s S → Family s

    -- with psi a e = 0: one relation of two terms
    line : (e h : ℕ) → psi a e ≡ Zero → product (psi a x0) (psi e h) ≡ product (psi a h) (psi e x0)
    line e h z =
        let b = g3 a e x0 h in
        balanced_without_first _ _
        (subst (λ s. AreBalanced s (opposite (product (psi a x0) (psi e h))) (product (psi a h) (psi e x0)))
        (product_zero_left (psi a e) (psi x0 h) z) b)

    on_line : Families → (e : ℕ) → IsMember e S → IsNonzero (v e) → psi a e ≡ Zero → psi e x0 ≡ Zero
    on_line fam e m n z =
        ⊎_elim (λ q. q)
        (λ w.
        let t = product (v x0) (psi e x0) in
        let k = fam e m x0 mx t (product_nonzero (v x0) (psi e x0)
        (left_nonzero (v x0) (psi a x0) Plus off plus_nonzero) w) refl in
        absurd (step_a (v k.0) (psi a k.0) (v x0) (psi a x0) (psi e k.0) (psi e x0) (line e k.0 z) (side k.0 k.1) off
        k.2 w))
        (zero_or_nonzero (psi e x0))

    on_line_all : Families → (e : ℕ) → IsMember e S → IsNonzero (v e) → psi a e ≡ Zero → (h : ℕ) → psi e h ≡ Zero
    on_line_all fam e m n z h =
        right_factor_zero (psi a x0) (psi e h) (right_nonzero (v x0) (psi a x0) Plus off plus_nonzero)
        (line e h z ∙ product_zero_right (psi a h) (psi e x0) (on_line fam e m n z))

    abbrev Off : ℕ → Type 0
    Off h = product (v h) (psi a h) ≡ Plus

    abbrev Before : ℕ → ℕ → Type 0
    Before g h = product (product (v g) (v h)) (psi g h) ≢ Minus

    before_trans : (g h m : ℕ) → Off g → Off h → Off m → Before g h → Before h m → Before g m
    before_trans g h m og oh om p q =
        trans_sign (psi a g) (psi a h) (psi a m) (psi g h) (psi h m) (psi g m) (v g) (v h) (v m) (g3 a g h m) og oh om p
        q

    -- an outermost element off the line
    abbrev Outer : List ℕ → Type 0
    Outer l = (s : ℕ) × IsMember s S × Off s × ((h : ℕ) → IsMember h l → Off h → Before s h)

    outer_step : (y : ℕ) (l : List ℕ) → IsMember y S → Outer l → (Off y ⊎ (Off y → ⊥)) → Outer (y ∷ l)
    outer_step y l my o (inr n) =
        (o.0, o.1, o.2, λ h m oh. ⊎_elim (λ e. absurd (n (subst Off e oh))) (λ b. o.3 h b oh) m)
    outer_step y l my o (inl oy) =
        ⊎_elim
        (λ r. (o.0, o.1, o.2, λ h m oh. ⊎_elim (λ e. subst (λ z. Before o.0 z) (sym e) r) (λ b. o.3 h b oh) m))
        (λ r. (
          y,
          my,
          oy,
          λ h m oh. ⊎_elim
              (λ e. subst (λ z. Before y z) (sym e) (square_times_own_opposite (v y) (psi y y) (anti y y)))
              (λ b. before_trans y o.0 h oy o.2 oh r (o.3 h b oh)) m,
        ))
        (anti_total (v o.0) (v y) (psi o.0 y) (psi y o.0) (anti y o.0))

    outer : (l : List ℕ) → ((h : ℕ) → IsMember h l → IsMember h S) → Outer l
    outer [] w = (x0, mx, off, λ h m oh. absurd m)
    outer (y ∷ l) w = outer_step y l (w y (inl refl)) (outer l (λ h m. w h (inr m)))
        (same_or_different (product (v y) (psi a y)) Plus)

    -- all elements off the line are parallel to an outermost one
    outer_parallel : Families → (o : Outer S) → (h : ℕ) → IsMember h S → Off h → psi o.0 h ≡ Zero
    outer_parallel fam o h m oh =
        ⊎_elim (λ q. q)
        (λ w.
        let t = product (v h) (psi o.0 h) in
        let nt : IsNonzero t = product_nonzero (v h) (psi o.0 h)
        (left_nonzero (v h) (psi a h) Plus oh plus_nonzero) w in
        let k = fam o.0 o.1 h m t nt refl in
        let nv : IsNonzero (v k.0) = left_nonzero (v k.0) (psi o.0 k.0) (opposite t) k.2 (opposite_nonzero t nt) in
        let np : IsNonzero (psi o.0 k.0) =
        right_nonzero (v k.0) (psi o.0 k.0) (opposite t) k.2 (opposite_nonzero t nt) in
        absurd (⊎_elim
        (λ z. np
        (anti o.0 k.0 ∙ opposite_zero (psi k.0 o.0) (on_line_all fam k.0 k.1 nv z o.0)))
        (λ ok. least_clash (v o.0) (v k.0) (psi o.0 k.0) t (v h) (psi o.0 h) (o.3 k.0 k.1 ok) (o.3 h m oh) refl nt k.2
        (left_nonzero (v o.0) (psi a o.0) Plus o.2 plus_nonzero))
        (live_sign (v k.0) (psi a k.0) nv (side k.0 k.1))))
        (zero_or_nonzero (psi o.0 h))

    -- all of S where v isn't 0 is parallel to x0, or a loop of the picture
    pub each_parallel : Families → (e : ℕ) → IsMember e S → IsNonzero (v e) → psi e x0 ≡ Zero
    each_parallel fam e m n =
        ⊎_elim
        (λ z. on_line fam e m n z)
        (λ oe.
        let o = outer S (λ h k. k) in
        let p = outer_parallel fam o x0 mx off in
        let q = outer_parallel fam o e m oe in
        let b = g3 a o.0 e x0 in
        let b2 = subst (λ s. AreBalanced (product (psi a o.0) (psi e x0)) (opposite s) (product (psi a x0) (psi o.0 e)))
        (product_zero_right (psi a e) (psi o.0 x0) p) b in
        let b3 = subst (λ s. AreBalanced (product (psi a o.0) (psi e x0)) Zero s)
        (product_zero_right (psi a x0) (psi o.0 e) q) b2 in
        right_factor_zero (psi a o.0) (psi e x0) (right_nonzero (v o.0) (psi a o.0) Plus o.2 plus_nonzero)
        (balanced_alone (product (psi a o.0) (psi e x0)) b3))
        (live_sign (v e) (psi a e) n (side e m))

    -- the end: an element of S that isn't parallel to x0 contradicts
    pub no_other_direction : Families → (s : ℕ) → IsMember s S → IsNonzero (psi s x0) → ⊥
    no_other_direction fam s m n =
        let t = product (v x0) (psi s x0) in
        let nt : IsNonzero t = product_nonzero (v x0) (psi s x0)
        (left_nonzero (v x0) (psi a x0) Plus off plus_nonzero) n in
        let k = fam s m x0 mx t nt refl in
        let nv : IsNonzero (v k.0) = left_nonzero (v k.0) (psi s k.0) (opposite t) k.2 (opposite_nonzero t nt) in
        let z = each_parallel fam k.0 k.1 nv in
        let b = g3 a s k.0 x0 in
        let b2 = subst (λ r. AreBalanced r (opposite (product (psi a k.0) (psi s x0))) (product (psi a x0) (psi s k.0)))
        (product_zero_right (psi a s) (psi k.0 x0) z) b in
        let e : product (psi a k.0) (psi s x0) ≡ product (psi a x0) (psi s k.0) = balanced_without_first _ _ b2 in
        end_sign (v k.0) (psi a k.0) (v x0) (psi a x0) (psi s k.0) (psi s x0) e (side k.0 k.1) off k.2 n
