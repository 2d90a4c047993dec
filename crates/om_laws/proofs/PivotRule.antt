-- A map for a set of cocircuits over some elements, and its values at one element more by the pivot rule.
--
-- Main definitions: AreOver, IsPartialMap
-- Main results: psi
-- Reference: Björner, Las Vergnas, Sturmfels, White and Ziegler, Oriented Matroids, section 3.5.
use Rattle.std.specs.Prelude.{◌≡◌, ◌⊎◌, ℕ, List, [], ◌∷◌, ◌++◌, refl}
use Rattle.std.proofs.Common.{sym, ap, ◌∙◌, subst, ⊎_elim, inl, inr, arith, append_assoc, append-nil}
use Rattle.om_signs.specs.declared.sign.Sign.{Sign}
use Rattle.om_signs.specs.declared.sign.Sign.TheVariants.{Minus, Zero}
use Rattle.om_signs.specs.Sign.{opposite, product}
use Rattle.om_signs.proofs.SignLaws.{product-opposite_left, product_assoc, product_nonzero, product_zero_left}
use Rattle.om_signs.proofs.SignLaws.{product_zero_right, right_factor_nonzero, zero_not_nonzero, zero_or_nonzero}
use Rattle.om_laws.specs.Signs.{IsNonzero}
use Rattle.om_laws.specs.Members.{IsDistinct, IsMember}
use Rattle.om_laws.proofs.MemberLaws.{distinct_drop, distinct_last, member_last, member_left, member_middle}
use Rattle.om_laws.proofs.MemberLaws.{member_right}
use Rattle.om_laws.specs.Vectors.{SignVector}
use Rattle.om_laws.proofs.ExistenceHelpers.{Vanishes, same_nonzero}
use Rattle.om_laws.proofs.CocircuitBases.{ExtendsToBase, IsCocircuitBase, base_from_members, extending_base}
use Rattle.om_laws.proofs.CocircuitBases.{extending_member, extending_nonzero, extending_same, triangle}
use Rattle.om_laws.proofs.VectorLaws.{same_products}

-- value of psi, against the pivot rule
rule_sign : (gb gh yb yh yp s : Sign) → s ≡ product gb (product yb yp) → product gb yh ≡ product gh yb → IsNonzero yb
    → product s yh ≡ product gh yp
rule_sign gb gh yb yh yp s e h n = grind arith

alike : (y w1 w2 wp z1 z2 zk : Sign) → product (product y (product w1 wp)) (product z1 zk) ≡ Minus
    → product (product y (product w2 wp)) (product z2 zk) ≡ Minus → product w1 w2 ≡ product z1 z2
alike y w1 w2 wp z1 z2 zk a b = grind arith

pub psi_sign : (s t a b yb yp : Sign) → product s yb ≡ product a yp → product t yb ≡ product b yp → a ≡ opposite b
    → IsNonzero yb → s ≡ opposite t
psi_sign s t a b yb yp h k e n = grind arith

scaled_core : (d s t zh ze l r : Sign) → l ≡ product s zh → r ≡ product t ze → product s zh ≡ product t ze
    → product (opposite (product d s)) zh ≡ product (opposite (product d t)) ze
scaled_core d s t zh ze l r a b e =
    product-opposite_left (product d s) zh
    ∙ ap opposite (product_assoc d s zh ∙ ap (product d) e ∙ sym (product_assoc d t ze))
    ∙ sym (product-opposite_left (product d t) ze)

pub scaled : (d s t zh ze : Sign) → product s zh ≡ product t ze
    → product (opposite (product d s)) zh ≡ product (opposite (product d t)) ze
scaled d s t zh ze e = scaled_core d s t zh ze (product s zh) (product t ze) refl refl e

module _ (K : SignVector → Type 0)
    (neg_k : (X : SignVector) → K X → K (λ e. opposite (X e)))
    (elim_k : (X Y : SignVector) → K X → K Y → (e : ℕ) → IsNonzero (X e) → X e ≡ opposite (Y e) → (h : ℕ)
    → (X h ≡ opposite (Y h) → ⊥) → (Z : SignVector) × K Z × (Z e ≡ Zero)
    × ((g : ℕ) → IsNonzero (Z g) → (Z g ≡ X g) ⊎ (Z g ≡ Y g)))
    (extends_or_not : (a : List ℕ) → ExtendsToBase K neg_k elim_k a ⊎ (ExtendsToBase K neg_k elim_k a → ⊥))
    (b0 : List ℕ) (base0 : IsCocircuitBase K neg_k elim_k b0)
  where
    abbrev B : List ℕ → Type 0
    B = IsCocircuitBase K neg_k elim_k

    abbrev Ok : List ℕ → Type 0
    Ok = ExtendsToBase K neg_k elim_k

    abbrev pub AreOver : List ℕ → List ℕ → Type 0
    AreOver G t = (i : ℕ) → IsMember i t → IsMember i G

    -- what a map over G satisfies: it alternates, it is nonzero exactly at the bases, and members that vanish on a list
    -- are proportional to it
    abbrev pub IsPartialMap : List ℕ → (List ℕ → Sign) → Type 0
    IsPartialMap G g =
        ((u : List ℕ) (x y : ℕ) (v : List ℕ) → AreOver G (u ++ x ∷ y ∷ v)
        → g (u ++ x ∷ y ∷ v) ≡ opposite (g (u ++ y ∷ x ∷ v)))
        × ((t : List ℕ) → AreOver G t → IsNonzero (g t) → B t)
        × ((t : List ℕ) → AreOver G t → B t → IsNonzero (g t))
        × ((a : List ℕ) → AreOver G a → (Y : SignVector) → K Y → Vanishes Y a → (e h : ℕ) → IsMember e G → IsMember h G
        → product (g (a ++ e ∷ [])) (Y h) ≡ product (g (a ++ h ∷ [])) (Y e))

    pub over_last : (G a : List ℕ) (e : ℕ) → AreOver G a → IsMember e G → AreOver G (a ++ e ∷ [])
    over_last G a e o m i k = ⊎_elim (λ j. o i j) (λ q. subst (λ z. IsMember z G) (sym q) m) (member_last i e a k)

    turn : (a : List ℕ) (e h : ℕ) (g : ℕ) → IsMember g ((a ++ e ∷ []) ++ h ∷ []) → IsMember g ((a ++ h ∷ []) ++ e ∷ [])
    turn a e h g m =
        ⊎_elim
        (λ k. ⊎_elim (λ j. member_left g (a ++ h ∷ []) (e ∷ []) (member_left g a (h ∷ []) j))
        (λ q. member_right g (a ++ h ∷ []) (e ∷ []) (inl q)) (member_last g e a k))
        (λ q. member_left g (a ++ h ∷ []) (e ∷ []) (member_right g a (h ∷ []) (inl q)))
        (member_last g h (a ++ e ∷ []) m)

    -- (p, e) and (e, p) after a
    pub swap_last : (a : List ℕ) (e h : ℕ) → B ((a ++ e ∷ []) ++ h ∷ []) → B ((a ++ h ∷ []) ++ e ∷ [])
    swap_last a e h b =
        let r : IsDistinct ((a ++ e ∷ []) ++ h ∷ []) = b.0 in
        let dh = distinct_drop (a ++ e ∷ []) h [] r in
        let re : IsDistinct (a ++ e ∷ []) = subst IsDistinct (append-nil (a ++ e ∷ [])) dh.0 in
        let de = distinct_drop a e [] re in
        let ra : IsDistinct a = subst IsDistinct (append-nil a) de.0 in
        let hn : IsMember h (a ++ e ∷ []) → ⊥ = λ m. dh.1 (subst (IsMember h) (sym (append-nil (a ++ e ∷ []))) m) in
        let en : IsMember e a → ⊥ = λ m. de.1 (subst (IsMember e) (sym (append-nil a)) m) in
        let r2 : IsDistinct ((a ++ h ∷ []) ++ e ∷ []) =
        distinct_last (a ++ h ∷ []) e (distinct_last a h ra (λ m. hn (member_left h a (e ∷ []) m)))
        (λ m. ⊎_elim en (λ q. hn (subst (λ z. IsMember z (a ++ e ∷ [])) q (member_middle e a [])))
        (member_last e h a m)) in
        base_from_members K neg_k elim_k ((a ++ e ∷ []) ++ h ∷ []) ((a ++ h ∷ []) ++ e ∷ []) (turn a e h) (turn a h e)
        r2 b

    module _ (G : List ℕ) (g : List ℕ → Sign) (inv : IsPartialMap G g) (over0 : AreOver G b0) (p : ℕ)
        (pn : IsMember p G → ⊥) where
      psi_go : (a : List ℕ) → Ok a ⊎ (Ok a → ⊥) → Sign
      psi_go a (inr n) = Zero
      psi_go a (inl k) =
          let y = extending_member K neg_k elim_k a k in
          let b = base0.1 y.0 y.1 in
          product (g (a ++ b.0 ∷ [])) (product (y.0 b.0) (y.0 p))

      pub psi : List ℕ → Sign
      psi a = psi_go a (extends_or_not a)

      -- what is known of psi at a good list
      abbrev Told : List ℕ → Sign → Type 0
      Told a s = (Y : SignVector) × (b : ℕ) × K Y × Vanishes Y a × IsMember b b0 × IsNonzero (Y b)
          × (s ≡ product (g (a ++ b ∷ [])) (product (Y b) (Y p)))

      told_go : (a : List ℕ) (d : Ok a ⊎ (Ok a → ⊥)) → Ok a → Told a (psi_go a d)
      unfolding psi_go
      told_go a (inr n) k = absurd (n k)
      told_go a (inl k') k =
          let y = extending_member K neg_k elim_k a k' in
          let b = base0.1 y.0 y.1 in
          (y.0, b.0, y.1, y.2, b.1, b.2, refl)

      pub told : (a : List ℕ) → Ok a → Told a (psi a)
      unfolding psi
      told a k = told_go a (extends_or_not a) k

      bad_go : (a : List ℕ) (d : Ok a ⊎ (Ok a → ⊥)) → (Ok a → ⊥) → psi_go a d ≡ Zero
      unfolding psi_go
      bad_go a (inr n) k = refl
      bad_go a (inl k') k = absurd (k k')

      pub bad : (a : List ℕ) → (Ok a → ⊥) → psi a ≡ Zero
      unfolding psi
      bad a k = bad_go a (extends_or_not a) k

      pub psi_p : (a : List ℕ) → IsMember p a → psi a ≡ Zero
      psi_p a m =
          ⊎_elim
          (λ k. let t = told a k in t.6
          ∙ product_zero_right (g (a ++ t.1 ∷ [])) (product (t.0 t.1) (t.0 p))
          (product_zero_right (t.0 t.1) (t.0 p) (t.3 p m)))
          (λ n. bad a n)
          (extends_or_not a)

      -- the rule for members
      pub rule : (a : List ℕ) → AreOver G a → (Y : SignVector) → K Y → Vanishes Y a → (h : ℕ) → IsMember h G
          → product (psi a) (Y h) ≡ product (g (a ++ h ∷ [])) (Y p)
      rule a o Y ky vy h mh =
          ⊎_elim
          (λ k.
          let t = told a k in
          let s = extending_same K neg_k elim_k a k t.0 Y t.2 ky t.3 vy in
          let nb : IsNonzero (Y t.1) =
          same_nonzero Y t.0 (extending_same K neg_k elim_k a k Y t.0 ky t.2 vy t.3) t.1 t.5 in
          rule_sign (g (a ++ t.1 ∷ [])) (g (a ++ h ∷ [])) (Y t.1) (Y h) (Y p) (psi a)
          (t.6 ∙ ap (product (g (a ++ t.1 ∷ []))) (same_products t.0 Y s t.1 p))
          (inv.3 a o Y ky vy t.1 h (over0 t.1 t.4) mh) nb)
          (λ n.
          let z : g (a ++ h ∷ []) ≡ Zero =
          ⊎_elim (λ q. q) (λ w. absurd (n (h, inv.1 (a ++ h ∷ []) (over_last G a h o mh) w)))
          (zero_or_nonzero (g (a ++ h ∷ []))) in
          product_zero_left (psi a) (Y h) (bad a n) ∙ sym (product_zero_left (g (a ++ h ∷ [])) (Y p) z))
          (extends_or_not a)

      -- psi sees bases
      pub psi_base : (a : List ℕ) → IsNonzero (psi a) → B (a ++ p ∷ [])
      psi_base a n =
          ⊎_elim
          (λ k. let t = told a k in
          extending_base K neg_k elim_k a k t.0 t.2 t.3 p
          (right_factor_nonzero (t.0 t.1) (t.0 p)
          (right_factor_nonzero (g (a ++ t.1 ∷ [])) (product (t.0 t.1) (t.0 p)) (subst IsNonzero t.6 n))))
          (λ k. absurd (zero_not_nonzero (psi a) (bad a k) n))
          (extends_or_not a)

      pub base_psi : (a : List ℕ) → AreOver G a → B (a ++ p ∷ []) → IsNonzero (psi a)
      base_psi a o b =
          let k : Ok a = (p, b) in
          let t = told a k in
          let np = extending_nonzero K neg_k elim_k a p b t.0 t.2 t.3 in
          let bb = extending_base K neg_k elim_k a k t.0 t.2 t.3 t.1 t.5 in
          let ng = inv.2 (a ++ t.1 ∷ []) (over_last G a t.1 o (over0 t.1 t.4)) bb in
          subst IsNonzero (sym t.6)
          (product_nonzero (g (a ++ t.1 ∷ [])) (product (t.0 t.1) (t.0 p)) ng
          (product_nonzero (t.0 t.1) (t.0 p) t.5 np))

      -- parallel: w vanishes on a k, z on a p
      pub parallel : (a : List ℕ) (e h k : ℕ) (Y W Z : SignVector) → K Y → K W → K Z → Vanishes Y (a ++ e ∷ [])
          → Vanishes Y (a ++ h ∷ []) → Vanishes W (a ++ k ∷ []) → Vanishes Z (a ++ p ∷ [])
          → Ok (a ++ p ∷ []) → Ok (a ++ k ∷ []) → IsNonzero (Y k) → IsNonzero (Y p) → IsNonzero (W e) → IsNonzero (W h)
          → IsNonzero (Z e) → IsNonzero (Z h) → product (W e) (W h) ≡ product (Z e) (Z h)
      parallel a e h k Y W Z ky kw kz vye vyh vw vz okp okk yk yp we wh ze zh =
          ⊎_elim
          (λ wp.
          let vwp : Vanishes W (a ++ p ∷ []) =
          λ i m. ⊎_elim (λ j. vw i (member_left i a (k ∷ []) j)) (λ q. ap W q ∙ wp) (member_last i p a m) in
          same_products W Z (extending_same K neg_k elim_k (a ++ p ∷ []) okp W Z kw kz vwp vz) e h)
          (λ wp.
          let bkp = extending_base K neg_k elim_k (a ++ k ∷ []) okk W kw vw p wp in
          let zk : IsNonzero (Z k) = extending_nonzero K neg_k elim_k (a ++ p ∷ []) k (swap_last a k p bkp) Z kz vz in
          let t1 = triangle K neg_k elim_k a e k p Y W Z ky kw kz vye vw vz okp yk yp we wp ze zk in
          let t2 = triangle K neg_k elim_k a h k p Y W Z ky kw kz vyh vw vz okp yk yp wh wp zh zk in
          alike (product (Y k) (Y p)) (W e) (W h) (W p) (Z e) (Z h) (Z k) t1 t2)
          (zero_or_nonzero (W p))

      pub over_in : (a : List ℕ) (e : ℕ) → AreOver G a → IsMember e G → AreOver G (a ++ e ∷ [])
      over_in a e o m = over_last G a e o m

      pub alt_last : (a : List ℕ) (e h : ℕ) → AreOver G a → IsMember e G → IsMember h G
          → g ((a ++ e ∷ []) ++ h ∷ []) ≡ opposite (g ((a ++ h ∷ []) ++ e ∷ []))
      alt_last a e h o me mh =
          let q : (a ++ e ∷ []) ++ h ∷ [] ≡ a ++ e ∷ h ∷ [] = append_assoc a (e ∷ []) (h ∷ []) in
          let q2 : (a ++ h ∷ []) ++ e ∷ [] ≡ a ++ h ∷ e ∷ [] = append_assoc a (h ∷ []) (e ∷ []) in
          let ov : AreOver G (a ++ e ∷ h ∷ []) =
          subst (AreOver G) q (over_last G (a ++ e ∷ []) h (over_last G a e o me) mh) in
          ap g q ∙ inv.0 a e h [] ov ∙ ap (λ l. opposite (g l)) (sym q2)
