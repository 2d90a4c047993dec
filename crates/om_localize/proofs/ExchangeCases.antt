-- Exchange of bases in an extension, from the relations at each element, case by case.
--
-- Main results: inner_pair, pair_with_new, new_pair, new_with_new
-- Reference: Björner, Las Vergnas, Sturmfels, White and Ziegler, Oriented Matroids, chapter 7.
use Rattle.std.specs.Prelude.{ℕ, ◌≡◌, ◌⊎◌}
use Rattle.std.proofs.Common.{◌∙◌, ⊎_elim, arith, inl}
use Rattle.om_signs.specs.declared.sign.Sign.{Sign}
use Rattle.om_signs.specs.declared.sign.Sign.TheVariants.{Zero}
use Rattle.om_signs.specs.Sign.{opposite, product}
use Rattle.om_signs.proofs.SignLaws.{zero_if_opposite, nonzero_of_opposite, product_zero_right}
use Rattle.om_laws.specs.Signs.{IsNonzero}
use Rattle.om_laws.specs.ThreeTerm.{AreBalanced}
use Rattle.om_localize.proofs.BalanceLaws.{from_zero}
use Rattle.om_localize.proofs.RelationLaws.{third_alone, second_alone, turned_cycle, loop_at, loop_sign, line_last}

module _ (c : ℕ → ℕ → ℕ → Sign) (s : ℕ → ℕ → Sign)
    (swap_first : (x y z : ℕ) → c y x z ≡ opposite (c x y z))
    (swap_last : (x y z : ℕ) → c x z y ≡ opposite (c x y z))
    (turn : (x y : ℕ) → s y x ≡ opposite (s x y))
    (three : (e x y z w : ℕ)
    → AreBalanced (product (c e x y) (c e z w)) (opposite (product (c e x z) (c e y w)))
    (product (c e x w) (c e y z)))
    (last : (x y z w u v : ℕ) → c u v x ≡ Zero ⊎ (c y z w ≡ Zero) → c u v y ≡ Zero ⊎ (c x z w ≡ Zero) → c u v z ≡ Zero
    ⊎ (c x y w ≡ Zero) → IsNonzero (c x y z) → c u v w ≡ Zero)
    (relation : (e x y z : ℕ)
    → AreBalanced (product (c e x y) (s e z)) (opposite (product (c e x z) (s e y))) (product (c e y z) (s e x)))
    (spanned : (e x : ℕ) → IsNonzero (s e x) → (h : ℕ) × IsNonzero (c e x h))
    (point_or_not : (e x : ℕ) → ((h : ℕ) × IsNonzero (c e x h)) ⊎ ((h : ℕ) → c e x h ≡ Zero))
  where
    -- ---- exchange of bases, case by case: a base and a pair, such that no element of the base stands with the pair in
    -- a base

    -- a base and a pair of a base, all of the old elements
    pub inner_pair : (x y h a b d : ℕ) → IsNonzero (c x y h) → IsNonzero (c a b d) → c x y a ≡ Zero → c x y b ≡ Zero
        → c x y d ≡ Zero → ⊥
    inner_pair x y h a b d n m e f g = n (last a b d h x y (inl e) (inl f) (inl g) m)

    -- a base with the new element, and a pair of the old ones
    pub pair_with_new : (x y e a b : ℕ) → IsNonzero (c x y e) → IsNonzero (s a b) → c x y a ≡ Zero → c x y b ≡ Zero
        → s x y ≡ Zero → ⊥
    pair_with_new x y e a b n m ea eb z =
        let xab : c x a b ≡ Zero =
        third_alone (c x y a) (c x y b) (c x y e) (c x b e) (c x a e) (c x a b) ea eb n (three x y a b e) in
        let yab : c y a b ≡ Zero =
        third_alone (c y x a) (c y x b) (c y x e) (c y b e) (c y a e) (c y a b)
        (zero_if_opposite (c y x a) (c x y a) (swap_first x y a) ea)
        (zero_if_opposite (c y x b) (c x y b) (swap_first x y b) eb)
        (nonzero_of_opposite (c x y e) (c y x e) (swap_first y x e) n) (three y x a b e) in
        m (line_last c s swap_first swap_last turn three last relation spanned point_or_not x y a b e
        (record { xyz = ea; xyw = eb; xzw = xab; yzw = yab }) n
        ∙ none (s x y) (c x y e) (c a b e) z)
      where
        none : (t u v : Sign) → t ≡ Zero → product (product t u) v ≡ Zero
        none t u v e = grind arith

    -- the signs at x are those of the circle of x, where one of them is zero at a point
    of_zero : (x a h e : ℕ) → IsNonzero (c x a h) → s x a ≡ Zero → s x e ≡ product (product (c x a h) (s x h)) (c x a e)
    of_zero x a h e n z = from_zero (c x a e) (c x a h) (c x e h) (s x a) (s x e) (s x h) z n (relation x a e h)

    -- ... so that they vanish together with it, and it doesn't vanish where they don't
    same_zeros : (x a h e g : ℕ) → IsNonzero (c x a h) → s x a ≡ Zero → IsNonzero (s x e) → s x g ≡ Zero
        → c x a g ≡ Zero
    same_zeros x a h e g n z ne zg =
        lemma (product (c x a h) (s x h)) (c x a e) (c x a g) (s x e) (s x g) (of_zero x a h e n z)
        (of_zero x a h g n z) ne zg
      where
        lemma : (k u v p q : Sign) → p ≡ product k u → q ≡ product k v → IsNonzero p → q ≡ Zero → v ≡ Zero
        lemma k u v p q e f n z = grind arith

    nonzero_with : (x a h e : ℕ) → IsNonzero (c x a h) → s x a ≡ Zero → IsNonzero (s x e) → IsNonzero (c x a e)
    nonzero_with x a h e n z ne q =
        ne (of_zero x a h e n z ∙ product_zero_right (product (c x a h) (s x h)) (c x a e) q)

    -- a base of the old elements, and the new element with an old one
    pub new_pair : (x e a b d : ℕ) → IsNonzero (s x e) → IsNonzero (c a b d) → s x a ≡ Zero → s x b ≡ Zero
        → s x d ≡ Zero → ⊥
    new_pair x e a b d n m za zb zd = ⊎_elim
        (λ p. on a p.0 p.1 za)
        (λ na. ⊎_elim
        (λ p. on b p.0 p.1 zb)
        (λ nb. ⊎_elim
        (λ p. on d p.0 p.1 zd)
        (λ nd. (let h = spanned x e n in
        inner_pair x e h.0 a b d h.1 m (moved a (na e)) (moved b (nb e)) (moved d (nd e))))
        (point_or_not x d))
        (point_or_not x b))
        (point_or_not x a)
      where
        moved : (g : ℕ) → c x g e ≡ Zero → c x e g ≡ Zero
        moved g q = zero_if_opposite (c x e g) (c x g e) (swap_last x g e) q

        on : (f h : ℕ) → IsNonzero (c x f h) → s x f ≡ Zero → ⊥
        on f h p z = inner_pair x f h a b d p m (same_zeros x f h e a p z n za) (same_zeros x f h e b p z n zb)
            (same_zeros x f h e d p z n zd)

    -- a base with the new element, and the new element with an old one
    pub new_with_new : (x e a b : ℕ) → IsNonzero (s x e) → IsNonzero (s a b) → s x a ≡ Zero → s x b ≡ Zero → ⊥
    new_with_new x e a b n m za zb = ⊎_elim
        (λ p. on a b p.0 p.1 m za zb)
        (λ na. ⊎_elim
        (λ p. on b a p.0 p.1 (nonzero_of_opposite (s a b) (s b a) (turn b a) m) zb za)
        (λ nb.
        let h = spanned a b m in
        let loop =
        loop_at c s swap_first swap_last turn three last relation spanned point_or_not a b h.0 x h.1
        (turned_cycle c s swap_first swap_last turn three last relation spanned point_or_not x a b ∙ na b)
        (zero_if_opposite (c a h.0 x) (c a x h.0) (swap_last a x h.0)
        (zero_if_opposite (c a x h.0) (c x a h.0) (swap_first x a h.0) (na h.0)))
        (zero_if_opposite (c b h.0 x) (c b x h.0) (swap_last b x h.0)
        (zero_if_opposite (c b x h.0) (c x b h.0) (swap_first x b h.0) (nb h.0))) in
        n (loop_sign c s swap_first swap_last turn three last relation spanned point_or_not x e loop))
        (point_or_not x b))
        (point_or_not x a)
      where
        on : (f g h : ℕ) → IsNonzero (c x f h) → IsNonzero (s f g) → s x f ≡ Zero → s x g ≡ Zero → ⊥
        on f g h p nfg zf zg =
            let xfg = same_zeros x f h e g p zf n zg in
            let xfe = nonzero_with x f h e p zf n in
            nfg (second_alone (c f x g) (c f x e) (c f g e) (s f e) (s f g) (s f x)
            (zero_if_opposite (c f x g) (c x f g) (swap_first x f g) xfg)
            (zero_if_opposite (s f x) (s x f) (turn x f) zf)
            (nonzero_of_opposite (c x f e) (c f x e) (swap_first f x e) xfe) (relation f x g e))
