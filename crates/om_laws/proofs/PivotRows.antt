-- The values at one element more by the pivot rule alternate, and satisfy the pivot rule on lists with that element.
--
-- Main definitions: IsNewRow
-- Main results: pivot_across_new, new_row
-- Reference: Björner, Las Vergnas, Sturmfels, White and Ziegler, Oriented Matroids, section 3.5.
use Rattle.std.specs.Prelude.{◌≡◌, ◌⊎◌, ℕ, List, [], ◌∷◌, ◌++◌}
use Rattle.std.proofs.Common.{sym, ap, ◌∙◌, subst, ⊎_elim, inl, inr, arith, append_assoc, append-nil}
use Rattle.om_signs.specs.declared.sign.Sign.{Sign}
use Rattle.om_signs.specs.declared.sign.Sign.TheVariants.{Minus, Zero}
use Rattle.om_signs.specs.Sign.{opposite, product}
use Rattle.om_signs.proofs.SignLaws.{product_zero_left, product_zero_right, zero_not_nonzero, zero_or_nonzero}
use Rattle.om_signs.proofs.SignLaws.{zeros_opposite}
use Rattle.om_laws.specs.Signs.{IsNonzero}
use Rattle.om_laws.specs.Members.{IsDistinct, IsMember}
use Rattle.om_laws.proofs.MemberLaws.{distinct_drop, distinct_last, member_append, member_drop, member_insert}
use Rattle.om_laws.proofs.MemberLaws.{member_last, member_left, member_middle, member_or_not, member_right}
use Rattle.om_laws.proofs.ExistenceHelpers.{distinct_insert}
use Rattle.om_laws.specs.Vectors.{SignVector}
use Rattle.om_laws.proofs.ExistenceHelpers.{Vanishes}
use Rattle.om_laws.proofs.CocircuitBases.{ExtendsToBase, IsCocircuitBase, base_from_members, extending_base}
use Rattle.om_laws.proofs.CocircuitBases.{extending_member, extending_nonzero, triangle}
use Rattle.om_laws.proofs.PivotRule.{psi_sign, IsPartialMap, over_last, swap_last, psi, told, bad, psi_p, rule}
use Rattle.om_laws.proofs.PivotRule.{psi_base, base_psi, parallel, over_in, alt_last}

by_rule : (s gh yh yp : Sign) → product s yh ≡ product gh yp → IsNonzero yh → s ≡ product gh (product yp yh)
by_rule s gh yh yp e n = grind arith

cross : (s t a b : Sign) → product s t ≡ product a b → IsNonzero a → IsNonzero b → product s b ≡ product t a
cross s t a b e m n = grind arith

-- from the triangle
triangle_core : (q yh yp we wp ze zh : Sign) → IsNonzero q
    → product (product (product yh yp) (product we wp)) (product ze zh) ≡ Minus
    → product (product q (product yp yh)) (product (opposite q) (product wp we)) ≡ product ze zh
triangle_core q yh yp we wp ze zh nq h = grind arith

pair_of_triangle : (s t q yh yp we wp ze zh : Sign) → s ≡ product q (product yp yh)
    → t ≡ product (opposite q) (product wp we) → IsNonzero q
    → product (product (product yh yp) (product we wp)) (product ze zh) ≡ Minus → product s t ≡ product ze zh
pair_of_triangle s t q yh yp we wp ze zh es et nq h =
    ap (λ k. product k t) es ∙ ap (product (product q (product yp yh))) et ∙ triangle_core q yh yp we wp ze zh nq h

-- two values by one vector
one_core : (a b yp yk : Sign) → IsNonzero yp → IsNonzero yk
    → product (product a (product yp yk)) (product b (product yp yk)) ≡ product a b
one_core a b yp yk n m = grind arith

pair_of_one : (s t a b yp yk : Sign) → s ≡ product a (product yp yk) → t ≡ product b (product yp yk) → IsNonzero yp
    → IsNonzero yk → product s t ≡ product a b
pair_of_one s t a b yp yk es et n m = ap (λ k. product k t) es ∙ ap (product (product a (product yp yk))) et
    ∙ one_core a b yp yk n m

pair_of_rule : (a b a' b' we wh : Sign) → a ≡ opposite a' → b ≡ opposite b' → product a' wh ≡ product b' we
    → IsNonzero we → IsNonzero wh → IsNonzero a' → product a b ≡ product we wh
pair_of_rule a b a' b' we wh ea eb h n m k = grind arith

module _ (K : SignVector → Type 0)
    (neg_k : (X : SignVector) → K X → K (λ e. opposite (X e)))
    (elim_k : (X Y : SignVector) → K X → K Y → (e : ℕ) → IsNonzero (X e) → X e ≡ opposite (Y e) → (h : ℕ)
    → (X h ≡ opposite (Y h) → ⊥) → (Z : SignVector) × K Z × (Z e ≡ Zero)
    × ((g : ℕ) → IsNonzero (Z g) → (Z g ≡ X g) ⊎ (Z g ≡ Y g)))
    (extends_or_not : (a : List ℕ) → ExtendsToBase K neg_k elim_k a ⊎ (ExtendsToBase K neg_k elim_k a → ⊥))
    (b0 : List ℕ) (base0 : IsCocircuitBase K neg_k elim_k b0)
  where
    abbrev B : List ℕ → Type 0
    B = IsCocircuitBase K neg_k elim_k

    abbrev Ok : List ℕ → Type 0
    Ok = ExtendsToBase K neg_k elim_k

    abbrev AreOver : List ℕ → List ℕ → Type 0
    AreOver G t = (i : ℕ) → IsMember i t → IsMember i G

    module _ (G : List ℕ) (g : List ℕ → Sign) (inv : IsPartialMap K neg_k elim_k extends_or_not b0 base0 G g)
        (over0 : AreOver G b0) (p : ℕ)
        (pn : IsMember p G → ⊥) where
      -- the values at p
      abbrev row : List ℕ → Sign
      row = psi K neg_k elim_k extends_or_not b0 base0 G g inv over0 p pn

      -- both values at p aren't 0
      both : (a : List ℕ) → AreOver G a → (e h : ℕ) → IsMember e G → IsMember h G → (Z : SignVector) → K Z
          → Vanishes Z (a ++ p ∷ []) → Ok (a ++ p ∷ []) → IsNonzero (Z e) → IsNonzero (Z h)
          → product (row (a ++ e ∷ [])) (row (a ++ h ∷ [])) ≡ product (Z e) (Z h)
      both a o e h me mh Z kz vz okp ze zh =
          let bpe = extending_base K neg_k elim_k (a ++ p ∷ []) okp Z kz vz e ze in
          let bph = extending_base K neg_k elim_k (a ++ p ∷ []) okp Z kz vz h zh in
          let bep : B ((a ++ e ∷ []) ++ p ∷ []) = swap_last K neg_k elim_k extends_or_not b0 base0 a p e bpe in
          let bhp : B ((a ++ h ∷ []) ++ p ∷ []) = swap_last K neg_k elim_k extends_or_not b0 base0 a p h bph in
          let oke : Ok (a ++ e ∷ []) = (p, bep) in
          let okh : Ok (a ++ h ∷ []) = (p, bhp) in
          let y = extending_member K neg_k elim_k (a ++ e ∷ []) oke in
          let yp : IsNonzero (y.0 p) = extending_nonzero K neg_k elim_k (a ++ e ∷ []) p bep y.0 y.1 y.2 in
          ⊎_elim
          (λ yh.
          let vyh : Vanishes y.0 (a ++ h ∷ []) =
          λ i m. ⊎_elim (λ j. y.2 i (member_left i a (e ∷ []) j)) (λ q. ap y.0 q ∙ yh) (member_last i h a m) in
          let k = base0.1 y.0 y.1 in
          let mk : IsMember k.0 G = over0 k.0 k.1 in
          let bek = extending_base K neg_k elim_k (a ++ e ∷ []) oke y.0 y.1 y.2 k.0 k.2 in
          let bhk = extending_base K neg_k elim_k (a ++ h ∷ []) okh y.0 y.1 vyh k.0 k.2 in
          let bke = swap_last K neg_k elim_k extends_or_not b0 base0 a e k.0 bek in
          let bkh = swap_last K neg_k elim_k extends_or_not b0 base0 a h k.0 bhk in
          let okk : Ok (a ++ k.0 ∷ []) = (e, bke) in
          let w = extending_member K neg_k elim_k (a ++ k.0 ∷ []) okk in
          let we = extending_nonzero K neg_k elim_k (a ++ k.0 ∷ []) e bke w.0 w.1 w.2 in
          let wh = extending_nonzero K neg_k elim_k (a ++ k.0 ∷ []) h bkh w.0 w.1 w.2 in
          let re = by_rule (row (a ++ e ∷ [])) (g ((a ++ e ∷ []) ++ k.0 ∷ [])) (y.0 k.0) (y.0 p)
          (rule K neg_k elim_k extends_or_not b0 base0 G g inv over0 p pn (a ++ e ∷ [])
          (over_in K neg_k elim_k extends_or_not b0 base0 G g inv over0 p pn a e o me) y.0 y.1 y.2 k.0 mk) k.2 in
          let rh = by_rule (row (a ++ h ∷ [])) (g ((a ++ h ∷ []) ++ k.0 ∷ [])) (y.0 k.0) (y.0 p)
          (rule K neg_k elim_k extends_or_not b0 base0 G g inv over0 p pn (a ++ h ∷ [])
          (over_in K neg_k elim_k extends_or_not b0 base0 G g inv over0 p pn a h o mh) y.0 y.1 vyh k.0 mk) k.2 in
          let one = pair_of_one (row (a ++ e ∷ [])) (row (a ++ h ∷ [])) (g ((a ++ e ∷ []) ++ k.0 ∷ []))
          (g ((a ++ h ∷ []) ++ k.0 ∷ [])) (y.0 p) (y.0 k.0) re rh yp k.2 in
          let two = pair_of_rule (g ((a ++ e ∷ []) ++ k.0 ∷ [])) (g ((a ++ h ∷ []) ++ k.0 ∷ []))
          (g ((a ++ k.0 ∷ []) ++ e ∷ [])) (g ((a ++ k.0 ∷ []) ++ h ∷ [])) (w.0 e) (w.0 h)
          (alt_last K neg_k elim_k extends_or_not b0 base0 G g inv over0 p pn a e k.0 o me mk)
          (alt_last K neg_k elim_k extends_or_not b0 base0 G g inv over0 p pn a h k.0 o mh mk)
          (inv.3 (a ++ k.0 ∷ []) (over_in K neg_k elim_k extends_or_not b0 base0 G g inv over0 p pn a k.0 o mk) w.0 w.1
          w.2 e h me mh) we wh
          (inv.2 ((a ++ k.0 ∷ []) ++ e ∷ []) (over_last K neg_k elim_k extends_or_not b0 base0 G (a ++ k.0 ∷ []) e
          (over_in K neg_k elim_k extends_or_not b0 base0 G g inv over0 p pn a k.0 o mk) me) bke) in
          one ∙ two ∙ parallel K neg_k elim_k extends_or_not b0 base0 G g inv over0 p pn a e h k.0 y.0 w.0 Z y.1 w.1 kz
          y.2 vyh w.2 vz okp okk k.2 yp we wh ze zh)
          (λ yh.
          let beh = extending_base K neg_k elim_k (a ++ e ∷ []) oke y.0 y.1 y.2 h yh in
          let bhe = swap_last K neg_k elim_k extends_or_not b0 base0 a e h beh in
          let w = extending_member K neg_k elim_k (a ++ h ∷ []) okh in
          let we = extending_nonzero K neg_k elim_k (a ++ h ∷ []) e bhe w.0 w.1 w.2 in
          let wp = extending_nonzero K neg_k elim_k (a ++ h ∷ []) p bhp w.0 w.1 w.2 in
          let t = triangle K neg_k elim_k a e h p y.0 w.0 Z y.1 w.1 kz y.2 w.2 vz okp yh yp we wp ze zh in
          let q = g ((a ++ e ∷ []) ++ h ∷ []) in
          let nq =
          inv.2 ((a ++ e ∷ []) ++ h ∷ []) (over_last K neg_k elim_k extends_or_not b0 base0 G (a ++ e ∷ []) h
          (over_in K neg_k elim_k extends_or_not b0 base0 G g inv over0 p pn a e o me) mh) beh in
          let re = by_rule (row (a ++ e ∷ [])) q (y.0 h) (y.0 p)
          (rule K neg_k elim_k extends_or_not b0 base0 G g inv over0 p pn (a ++ e ∷ [])
          (over_in K neg_k elim_k extends_or_not b0 base0 G g inv over0 p pn a e o me) y.0 y.1 y.2 h mh) yh in
          let rh = by_rule (row (a ++ h ∷ [])) (g ((a ++ h ∷ []) ++ e ∷ [])) (w.0 e) (w.0 p)
          (rule K neg_k elim_k extends_or_not b0 base0 G g inv over0 p pn (a ++ h ∷ [])
          (over_in K neg_k elim_k extends_or_not b0 base0 G g inv over0 p pn a h o mh) w.0 w.1 w.2 e me) we in
          let rh2 : row (a ++ h ∷ []) ≡ product (opposite q) (product (w.0 p) (w.0 e)) = rh
          ∙ ap (λ i. product i (product (w.0 p) (w.0 e))) (alt_last K neg_k elim_k extends_or_not b0 base0 G g inv over0
          p pn a h e o mh me) in
          pair_of_triangle (row (a ++ e ∷ [])) (row (a ++ h ∷ [])) q (y.0 h) (y.0 p) (w.0 e) (w.0 p) (Z e) (Z h) re rh2
          nq t)
          (zero_or_nonzero (y.0 h))

      -- the pivot rule for lists with p: the pivot_across_new
      pub pivot_across_new : (a : List ℕ) → AreOver G a → (e h : ℕ) → IsMember e G → IsMember h G → (Z : SignVector)
          → K Z → Vanishes Z (a ++ p ∷ []) → product (row (a ++ e ∷ [])) (Z h) ≡ product (row (a ++ h ∷ [])) (Z e)
      pivot_across_new a o e h me mh Z kz vz =
          let low : (i : ℕ) → IsMember i G → (Ok (a ++ p ∷ []) → ⊥) → row (a ++ i ∷ []) ≡ Zero = λ i mi n.
          ⊎_elim (λ q. q) (λ w. absurd (n (
            i,
            swap_last K neg_k elim_k extends_or_not b0 base0 a i p
                (psi_base K neg_k elim_k extends_or_not b0 base0 G g inv over0 p pn (a ++ i ∷ []) w),
          )))
          (zero_or_nonzero (row (a ++ i ∷ []))) in
          let zero : (i : ℕ) → IsMember i G → Z i ≡ Zero → row (a ++ i ∷ []) ≡ Zero = λ i mi z.
          ⊎_elim (λ q. q)
          (λ w. absurd
          (zero_not_nonzero (Z i) z
          (extending_nonzero K neg_k elim_k (a ++ p ∷ []) i (swap_last K neg_k elim_k extends_or_not b0 base0 a i p
          (psi_base K neg_k elim_k extends_or_not b0 base0 G g inv over0 p pn (a ++ i ∷ []) w)) Z kz vz)))
          (zero_or_nonzero (row (a ++ i ∷ []))) in
          ⊎_elim
          (λ okp. ⊎_elim
          (λ z. product_zero_left (row (a ++ e ∷ [])) (Z h) (zero e me z)
          ∙ sym (product_zero_right (row (a ++ h ∷ [])) (Z e) z))
          (λ ze. ⊎_elim
          (λ z. product_zero_right (row (a ++ e ∷ [])) (Z h) z
          ∙ sym (product_zero_left (row (a ++ h ∷ [])) (Z e) (zero h mh z)))
          (λ zh. cross (row (a ++ e ∷ [])) (row (a ++ h ∷ [])) (Z e) (Z h) (both a o e h me mh Z kz vz okp ze zh) ze zh)
          (zero_or_nonzero (Z h)))
          (zero_or_nonzero (Z e)))
          (λ n. product_zero_left (row (a ++ e ∷ [])) (Z h) (low e me n)
          ∙ sym (product_zero_left (row (a ++ h ∷ [])) (Z e) (low h mh n)))
          (extends_or_not (a ++ p ∷ []))

      pub over_old : (t : List ℕ) → AreOver (p ∷ G) t → (IsMember p t → ⊥) → AreOver G t
      over_old t o n i m = ⊎_elim (λ q. absurd (n (subst (λ z. IsMember z t) q m))) (λ k. k) (o i m)

      mem_swap : (w : List ℕ) (x y : ℕ) (v : List ℕ) (i : ℕ) → IsMember i (w ++ x ∷ y ∷ v) → IsMember i (w ++ y ∷ x ∷ v)
      mem_swap w x y v i m =
          ⊎_elim (λ k. member_left i w (y ∷ x ∷ v) k)
          (λ k. member_right i w (y ∷ x ∷ v)
          (⊎_elim (λ q. inr (inl q)) (λ j. ⊎_elim (λ q. inl q) (λ l. inr (inr l)) j) k))
          (member_append i w (x ∷ y ∷ v) m)

      -- members alone matter, for a base with p at its end
      base_end : (s t : List ℕ) → ((i : ℕ) → IsMember i s → IsMember i t) → ((i : ℕ) → IsMember i t → IsMember i s)
          → IsDistinct t → (e : ℕ) → B (s ++ e ∷ []) → B (t ++ e ∷ [])
      base_end s t to from r e b =
          let d = distinct_drop s e [] b.0 in
          base_from_members K neg_k elim_k (s ++ e ∷ []) (t ++ e ∷ [])
          (λ i m. ⊎_elim (λ k. member_left i t (e ∷ []) (to i k)) (λ q. member_right i t (e ∷ []) (inl q))
          (member_last i e s m))
          (λ i m. ⊎_elim (λ k. member_left i s (e ∷ []) (from i k)) (λ q. member_right i s (e ∷ []) (inl q))
          (member_last i e t m))
          (distinct_last t e r (λ m. d.1 (member_left e s [] (from e m)))) b

      no_rep_swap : (w : List ℕ) (x y : ℕ) (v : List ℕ) → IsDistinct (w ++ x ∷ y ∷ v) → IsDistinct (w ++ y ∷ x ∷ v)
      no_rep_swap w x y v r =
          let d = distinct_drop w x (y ∷ v) r in
          let d2 = distinct_drop w y v d.0 in
          distinct_insert w y (x ∷ v)
          (distinct_insert w x v d2.0 (λ m. d.1 (member_insert x w y v m)))
          (λ m. ⊎_elim (λ q. d.1 (subst (λ z. IsMember z (w ++ y ∷ v)) q (member_middle y w v))) (λ k. d2.1 k)
          (member_drop y w x v m))

      psi_alt : (w : List ℕ) (x y : ℕ) (v : List ℕ) → AreOver (p ∷ G) (w ++ x ∷ y ∷ v)
          → row (w ++ x ∷ y ∷ v) ≡ opposite (row (w ++ y ∷ x ∷ v))
      psi_alt w x y v o =
          let a = w ++ x ∷ y ∷ v in
          let a' = w ++ y ∷ x ∷ v in
          ⊎_elim
          (λ m. zeros_opposite (row a) (row a') (psi_p K neg_k elim_k extends_or_not b0 base0 G g inv over0 p pn a m)
          (psi_p K neg_k elim_k extends_or_not b0 base0 G g inv over0 p pn a' (mem_swap w x y v p m)))
          (λ n.
          let og : AreOver G a = over_old a o n in
          let og' : AreOver G a' = λ i m. og i (mem_swap w y x v i m) in
          ⊎_elim
          (λ k.
          let t = told K neg_k elim_k extends_or_not b0 base0 G g inv over0 p pn a k in
          let mb : IsMember t.1 G = over0 t.1 t.4 in
          let e : g (a ++ t.1 ∷ []) ≡ opposite (g (a' ++ t.1 ∷ [])) =
          ap g (append_assoc w (x ∷ y ∷ v) (t.1 ∷ []))
          ∙ inv.0 w x y (v ++ t.1 ∷ [])
          (subst (AreOver G) (append_assoc w (x ∷ y ∷ v) (t.1 ∷ []))
          (over_last K neg_k elim_k extends_or_not b0 base0 G a t.1 og mb))
          ∙ ap (λ l. opposite (g l)) (sym (append_assoc w (y ∷ x ∷ v) (t.1 ∷ []))) in
          psi_sign (row a) (row a') (g (a ++ t.1 ∷ [])) (g (a' ++ t.1 ∷ [])) (t.0 t.1) (t.0 p)
          (rule K neg_k elim_k extends_or_not b0 base0 G g inv over0 p pn a og t.0 t.2 t.3 t.1 mb)
          (rule K neg_k elim_k extends_or_not b0 base0 G g inv over0 p pn a' og' t.0 t.2
          (λ i m. t.3 i (mem_swap w y x v i m)) t.1 mb) e t.5)
          (λ k.
          zeros_opposite (row a) (row a') (bad K neg_k elim_k extends_or_not b0 base0 G g inv over0 p pn a k)
          (⊎_elim (λ q. q)
          (λ z.
          let b = psi_base K neg_k elim_k extends_or_not b0 base0 G g inv over0 p pn a' z in
          let r = subst IsDistinct (append-nil a') (distinct_drop a' p [] b.0).0 in
          absurd (k (
            p,
            base_end a' a (λ i m. mem_swap w y x v i m) (λ i m. mem_swap w x y v i m) (no_rep_swap w y x v r) p
                b,
          )))
          (zero_or_nonzero (row a'))))
          (extends_or_not a))
          (member_or_not p a)

    -- values in front of p that fit a map over G
    pub record IsNewRow (G : List ℕ) (g : List ℕ → Sign) (p : ℕ) (row : List ℕ → Sign) : Type 0 where
      pub zero : (a : List ℕ) → IsMember p a → row a ≡ Zero
      pub alternates : (w : List ℕ) (x y : ℕ) (v : List ℕ) → AreOver (p ∷ G) (w ++ x ∷ y ∷ v)
          → row (w ++ x ∷ y ∷ v) ≡ opposite (row (w ++ y ∷ x ∷ v))
      pub rule : (a : List ℕ) → AreOver G a → (Y : SignVector) → K Y → Vanishes Y a → (h : ℕ) → IsMember h G
          → product (row a) (Y h) ≡ product (g (a ++ h ∷ [])) (Y p)
      pub base : (a : List ℕ) → IsNonzero (row a) → B (a ++ p ∷ [])
      pub nonzero : (a : List ℕ) → AreOver G a → B (a ++ p ∷ []) → IsNonzero (row a)
      pub across : (a : List ℕ) → AreOver G a → (e h : ℕ) → IsMember e G → IsMember h G → (Z : SignVector) → K Z
          → Vanishes Z (a ++ p ∷ []) → product (row (a ++ e ∷ [])) (Z h) ≡ product (row (a ++ h ∷ [])) (Z e)

    pub new_row : (G : List ℕ) (g : List ℕ → Sign) (inv : IsPartialMap K neg_k elim_k extends_or_not b0 base0 G g)
        (over0 : AreOver G b0) (p : ℕ)
        (pn : IsMember p G → ⊥) → IsNewRow G g p (psi K neg_k elim_k extends_or_not b0 base0 G g inv over0 p pn)
    new_row G g inv over0 p pn = record {
      zero = psi_p K neg_k elim_k extends_or_not b0 base0 G g inv over0 p pn;
      alternates = psi_alt G g inv over0 p pn;
      rule = rule K neg_k elim_k extends_or_not b0 base0 G g inv over0 p pn;
      base = psi_base K neg_k elim_k extends_or_not b0 base0 G g inv over0 p pn;
      nonzero = base_psi K neg_k elim_k extends_or_not b0 base0 G g inv over0 p pn;
      across = pivot_across_new G g inv over0 p pn;
    }
