-- A map for a set of cocircuits, grown by one element at a time. Such a map over some elements that include a base
-- gives one with one more element, so one over all.
--
-- Main results: grown_fits, grown_over_all
-- Reference: Björner, Las Vergnas, Sturmfels, White and Ziegler, Oriented Matroids, section 3.5.
use Rattle.std.specs.Prelude.{◌≡◌, ◌≢◌, ◌⊎◌, ℕ, List, [], ◌∷◌, ◌++◌}
use Rattle.std.proofs.Common.{sym, ap, ◌∙◌, subst, ⊎_elim, inl, inr, arith, append_assoc, append-nil}
use Rattle.std.proofs.lemmas.Bool.{cases_eq}
use Rattle.om_signs.specs.declared.sign.Sign.{Sign}
use Rattle.om_signs.specs.declared.sign.Sign.TheVariants.{Zero, Plus}
use Rattle.om_signs.specs.Sign.{opposite, product}
use Rattle.om_signs.proofs.SignLaws.{opposite-opposite, product_zero_left, zeros_opposite, products_zero}
use Rattle.om_laws.specs.Signs.{IsNonzero}
use Rattle.om_laws.specs.Members.{IsDistinct, IsMember}
use Rattle.om_laws.proofs.MemberLaws.{distinct_drop, distinct_last, member_append, member_insert, member_last}
use Rattle.om_laws.proofs.MemberLaws.{member_left, member_middle, member_or_not, member_right}
use Rattle.om_laws.proofs.ExistenceHelpers.{distinct_insert}
use Rattle.om_laws.specs.Vectors.{SignVector}
use Rattle.om_laws.proofs.ExistenceHelpers.{Vanishes}
use Rattle.om_laws.proofs.BlockLaws.{negated_for, negated_for_last, negated_for_nonzero, negated_for_opposite}
use Rattle.om_laws.proofs.BlockLaws.{negated_for_product, negated_for_zero}
use Rattle.om_laws.proofs.ExistenceHelpers.{negated_for_none, negated_for_one, negated_for_swap}
use Rattle.om_laws.proofs.ExistenceHelpers.{nonzero_from_negated_for}
use Rattle.om_laws.proofs.CocircuitBases.{ExtendsToBase, IsCocircuitBase, base_from_members}
use Rattle.om_laws.proofs.PivotRule.{scaled, IsPartialMap, over_last, psi}
use Rattle.om_laws.proofs.PivotRows.{over_old, IsNewRow, new_row}
use Rattle.om_laws.proofs.GrownMaps.{first_place, grown, grown_at, grown_no, to_back, from_back}

module _ (K : SignVector → Type 0)
    (neg_k : (X : SignVector) → K X → K (λ e. opposite (X e)))
    (elim_k : (X Y : SignVector) → K X → K Y → (e : ℕ) → IsNonzero (X e) → X e ≡ opposite (Y e) → (h : ℕ)
    → (X h ≡ opposite (Y h) → ⊥) → (Z : SignVector) × K Z × (Z e ≡ Zero)
    × ((g : ℕ) → IsNonzero (Z g) → (Z g ≡ X g) ⊎ (Z g ≡ Y g)))
    (extends_or_not : (a : List ℕ) → ExtendsToBase K neg_k elim_k a ⊎ (ExtendsToBase K neg_k elim_k a → ⊥))
    (b0 : List ℕ) (base0 : IsCocircuitBase K neg_k elim_k b0)
  where
    abbrev B : List ℕ → Type 0
    B = IsCocircuitBase K neg_k elim_k

    abbrev AreOver : List ℕ → List ℕ → Type 0
    AreOver G t = (i : ℕ) → IsMember i t → IsMember i G

    module _ (G : List ℕ) (g : List ℕ → Sign) (inv : IsPartialMap K neg_k elim_k extends_or_not b0 base0 G g)
        (over0 : AreOver G b0) (p : ℕ)
        (pn : IsMember p G → ⊥)
        (psi : List ℕ → Sign) (row : IsNewRow K neg_k elim_k extends_or_not b0 base0 G g p psi) where
      p_out : (a : List ℕ) → AreOver G a → IsMember p a → ⊥
      p_out a o m = pn (o p m)

      in_front : (u : List ℕ) (x y : ℕ) (v : List ℕ) → AreOver (p ∷ G) (u ++ x ∷ y ∷ v) → (u1 u2 : List ℕ)
          → u ≡ u1 ++ p ∷ u2 → (IsMember p u1 → ⊥) → grown g p psi (u ++ x ∷ y ∷ v)
          ≡ opposite (grown g p psi (u ++ y ∷ x ∷ v))
      in_front u x y v o u1 u2 e n =
          let at : (i j : ℕ) → grown g p psi (u ++ i ∷ j ∷ v)
          ≡ negated_for (u2 ++ i ∷ j ∷ v) (psi ((u1 ++ u2) ++ i ∷ j ∷ v)) =
          λ i j.
          ap (grown g p psi) (ap (λ l. l ++ i ∷ j ∷ v) e ∙ append_assoc u1 (p ∷ u2) (i ∷ j ∷ v))
          ∙ grown_at g p psi u1 (u2 ++ i ∷ j ∷ v) n
          ∙ ap (λ l. negated_for (u2 ++ i ∷ j ∷ v) (psi l)) (sym (append_assoc u1 u2 (i ∷ j ∷ v))) in
          let o2 : AreOver (p ∷ G) ((u1 ++ u2) ++ x ∷ y ∷ v) = λ i m. o i (⊎_elim
          (λ k. member_left i u (x ∷ y ∷ v) (subst (IsMember i) (sym e) (member_insert i u1 p u2 k)))
          (λ k. member_right i u (x ∷ y ∷ v) k) (member_append i (u1 ++ u2) (x ∷ y ∷ v) m)) in
          at x y ∙ ap (negated_for (u2 ++ x ∷ y ∷ v)) (row.alternates (u1 ++ u2) x y v o2)
          ∙ negated_for_opposite (u2 ++ x ∷ y ∷ v) (psi ((u1 ++ u2) ++ y ∷ x ∷ v))
          ∙ ap opposite (negated_for_swap u2 x y v (psi ((u1 ++ u2) ++ y ∷ x ∷ v)) ∙ sym (at y x))

      left_p : (u : List ℕ) (x y : ℕ) (v : List ℕ) → (IsMember p u → ⊥) → x ≡ p → y ≢ p
          → grown g p psi (u ++ x ∷ y ∷ v) ≡ opposite (grown g p psi (u ++ y ∷ x ∷ v))
      left_p u x y v n q ny =
          let l : grown g p psi (u ++ x ∷ y ∷ v) ≡ negated_for (y ∷ v) (psi (u ++ y ∷ v)) =
          ap (λ z. grown g p psi (u ++ z ∷ y ∷ v)) q
          ∙ grown_at g p psi u (y ∷ v) n in
          let nuy : IsMember p (u ++ y ∷ []) → ⊥ = λ m. ⊎_elim n (λ k. ny (sym k)) (member_last p y u m) in
          let r : grown g p psi (u ++ y ∷ x ∷ v) ≡ negated_for v (psi (u ++ y ∷ v)) =
          ap (λ z. grown g p psi (u ++ y ∷ z ∷ v)) q ∙ ap (grown g p psi) (sym (append_assoc u (y ∷ []) (p ∷ v)))
          ∙ grown_at g p psi (u ++ y ∷ []) v nuy ∙ ap (λ z. negated_for v (psi z)) (append_assoc u (y ∷ []) v) in
          l ∙ negated_for_one y v (psi (u ++ y ∷ v)) ∙ ap opposite (sym r)

      right_p : (u : List ℕ) (x y : ℕ) (v : List ℕ) → (IsMember p u → ⊥) → x ≢ p → y ≡ p
          → grown g p psi (u ++ x ∷ y ∷ v) ≡ opposite (grown g p psi (u ++ y ∷ x ∷ v))
      right_p u x y v n nx q = sym (opposite-opposite (grown g p psi (u ++ x ∷ y ∷ v)))
          ∙ ap opposite (sym (left_p u y x v n q nx))

      twice : (u : List ℕ) (x y : ℕ) (v : List ℕ) → (IsMember p u → ⊥) → x ≡ p → y ≡ p
          → grown g p psi (u ++ x ∷ y ∷ v) ≡ opposite (grown g p psi (u ++ y ∷ x ∷ v))
      twice u x y v n qx qy =
          let z : (i j : ℕ) → i ≡ p → j ≡ p → grown g p psi (u ++ i ∷ j ∷ v) ≡ Zero = λ i j qi qj.
          ap (λ k. grown g p psi (u ++ k ∷ j ∷ v)) qi ∙ grown_at g p psi u (j ∷ v) n
          ∙ ap (negated_for (j ∷ v)) (row.zero (u ++ j ∷ v) (member_right p u (j ∷ v) (inl (sym qj))))
          ∙ negated_for_zero (j ∷ v) in
          zeros_opposite (grown g p psi (u ++ x ∷ y ∷ v)) (grown g p psi (u ++ y ∷ x ∷ v)) (z x y qx qy) (z y x qy qx)

      old_pair : (u : List ℕ) (x y : ℕ) (v : List ℕ) → AreOver (p ∷ G) (u ++ x ∷ y ∷ v) → (IsMember p u → ⊥) → x ≢ p
          → y ≢ p → (IsMember p v → ⊥) ⊎ ((v1 : List ℕ) × (v2 : List ℕ) × (v ≡ v1 ++ p ∷ v2) × (IsMember p v1 → ⊥))
          → grown g p psi (u ++ x ∷ y ∷ v) ≡ opposite (grown g p psi (u ++ y ∷ x ∷ v))
      old_pair u x y v o nu nx ny (inl nv) =
          let out : (i j : ℕ) → i ≢ p → j ≢ p → IsMember p (u ++ i ∷ j ∷ v) → ⊥ = λ i j ni nj m.
          ⊎_elim nu (λ k. ⊎_elim (λ q. ni (sym q)) (λ l. ⊎_elim (λ q. nj (sym q)) nv l) k)
          (member_append p u (i ∷ j ∷ v) m) in
          grown_no g p psi (u ++ x ∷ y ∷ v) (out x y nx ny) ∙ inv.0 u x y v
          (over_old K neg_k elim_k extends_or_not b0 base0 G g inv over0 p pn (u ++ x ∷ y ∷ v) o (out x y nx ny))
          ∙ ap opposite (sym (grown_no g p psi (u ++ y ∷ x ∷ v) (out y x ny nx)))
      old_pair u x y v o nu nx ny (inr k) =
          let v1 = k.0 in
          let v2 = k.1 in
          let out : (i j : ℕ) → i ≢ p → j ≢ p → IsMember p (u ++ i ∷ j ∷ v1) → ⊥ = λ i j ni nj m.
          ⊎_elim nu (λ h. ⊎_elim (λ q. ni (sym q)) (λ l. ⊎_elim (λ q. nj (sym q)) k.3 l) h)
          (member_append p u (i ∷ j ∷ v1) m) in
          let at : (i j : ℕ) → i ≢ p → j ≢ p → grown g p psi (u ++ i ∷ j ∷ v)
          ≡ negated_for v2 (psi (u ++ i ∷ j ∷ (v1 ++ v2))) =
          λ i j ni nj.
          ap (λ l. grown g p psi (u ++ i ∷ j ∷ l)) k.2 ∙ ap (grown g p psi) (sym (append_assoc u (i ∷ j ∷ v1) (p ∷ v2)))
          ∙ grown_at g p psi (u ++ i ∷ j ∷ v1) v2 (out i j ni nj)
          ∙ ap (λ l. negated_for v2 (psi l)) (append_assoc u (i ∷ j ∷ v1) v2) in
          let o2 : AreOver (p ∷ G) (u ++ x ∷ y ∷ (v1 ++ v2)) = λ i m. o i (⊎_elim
          (λ h. member_left i u (x ∷ y ∷ v) h)
          (λ h. member_right i u (x ∷ y ∷ v)
          (⊎_elim (λ q. inl q)
          (λ l. inr (⊎_elim (λ q. inl q) (λ j. inr (subst (IsMember i) (sym k.2) (member_insert i v1 p v2 j))) l))
          h))
          (member_append i u (x ∷ y ∷ (v1 ++ v2)) m)) in
          at x y nx ny ∙ ap (negated_for v2) (row.alternates u x y (v1 ++ v2) o2)
          ∙ negated_for_opposite v2 (psi (u ++ y ∷ x ∷ (v1 ++ v2))) ∙ ap opposite (sym (at y x ny nx))

      grown_alt : (u : List ℕ) (x y : ℕ) (v : List ℕ) → AreOver (p ∷ G) (u ++ x ∷ y ∷ v)
          → grown g p psi (u ++ x ∷ y ∷ v) ≡ opposite (grown g p psi (u ++ y ∷ x ∷ v))
      grown_alt u x y v o =
          ⊎_elim
          (λ nu. ⊎_elim
          (λ qx. ⊎_elim
          (λ qy. twice u x y v nu qx qy)
          (λ ny. left_p u x y v nu qx ny)
          (cases_eq y p))
          (λ nx. ⊎_elim
          (λ qy. right_p u x y v nu nx qy)
          (λ ny. old_pair u x y v o nu nx ny (first_place p v))
          (cases_eq y p))
          (cases_eq x p))
          (λ k. in_front u x y v o k.0 k.1 k.2 k.3)
          (first_place p u)

      grown_base_go : (t : List ℕ) → AreOver (p ∷ G) t → IsNonzero (grown g p psi t) → (IsMember p t → ⊥)
          ⊎ ((u : List ℕ) × (v : List ℕ) × (t ≡ u ++ p ∷ v) × (IsMember p u → ⊥)) → B t
      grown_base_go t o n (inl k) = inv.1 t (over_old K neg_k elim_k extends_or_not b0 base0 G g inv over0 p pn t o k)
          (subst IsNonzero (grown_no g p psi t k) n)
      grown_base_go t o n (inr k) =
          let u = k.0 in
          let v = k.1 in
          let np : IsNonzero (psi (u ++ v)) =
          nonzero_from_negated_for v (psi (u ++ v)) (subst IsNonzero (ap (grown g p psi) k.2 ∙ grown_at g p psi u v k.3)
          n) in
          let b = row.base (u ++ v) np in
          let d = distinct_drop (u ++ v) p [] b.0 in
          let r : IsDistinct (u ++ p ∷ v) =
          distinct_insert u p v (subst IsDistinct (append-nil (u ++ v)) d.0)
          (λ m. d.1 (member_left p (u ++ v) [] m)) in
          subst B (sym k.2)
          (base_from_members K neg_k elim_k ((u ++ v) ++ p ∷ []) (u ++ p ∷ v) (from_back p u v) (to_back p u v) r b)

      base_grown_go : (t : List ℕ) → AreOver (p ∷ G) t → B t → (IsMember p t → ⊥)
          ⊎ ((u : List ℕ) × (v : List ℕ) × (t ≡ u ++ p ∷ v) × (IsMember p u → ⊥)) → IsNonzero (grown g p psi t)
      base_grown_go t o b (inl k) = subst IsNonzero (sym (grown_no g p psi t k))
          (inv.2 t (over_old K neg_k elim_k extends_or_not b0 base0 G g inv over0 p pn t o k) b)
      base_grown_go t o b (inr k) =
          let u = k.0 in
          let v = k.1 in
          let b2 : B (u ++ p ∷ v) = subst B k.2 b in
          let d = distinct_drop u p v b2.0 in
          let b3 : B ((u ++ v) ++ p ∷ []) =
          base_from_members K neg_k elim_k (u ++ p ∷ v) ((u ++ v) ++ p ∷ []) (to_back p u v) (from_back p u v)
          (distinct_last (u ++ v) p d.0 d.1) b2 in
          let ov : AreOver G (u ++ v) =
          over_old K neg_k elim_k extends_or_not b0 base0 G g inv over0 p pn (u ++ v)
          (λ i m. o i (subst (IsMember i) (sym k.2) (member_insert i u p v m))) d.1 in
          subst IsNonzero (sym (ap (grown g p psi) k.2 ∙ grown_at g p psi u v k.3))
          (negated_for_nonzero v (psi (u ++ v)) (row.nonzero (u ++ v) ov b3))

      grown_end : (u v : List ℕ) (i : ℕ) → (IsMember p u → ⊥)
          → grown g p psi ((u ++ p ∷ v) ++ i ∷ []) ≡ opposite (product (negated_for v Plus) (psi ((u ++ v) ++ i ∷ [])))
      grown_end u v i n =
          ap (grown g p psi) (append_assoc u (p ∷ v) (i ∷ [])) ∙ grown_at g p psi u (v ++ i ∷ []) n
          ∙ negated_for_last v i (psi (u ++ (v ++ i ∷ [])))
          ∙ ap (λ l. opposite (negated_for v (psi l))) (sym (append_assoc u v (i ∷ [])))
          ∙ ap opposite (negated_for_product v (psi ((u ++ v) ++ i ∷ [])))

      zero_if_opposite_product : (d s : Sign) → s ≡ Zero → opposite (product d s) ≡ Zero
      zero_if_opposite_product d s e = grind arith

      both_zero' : (s t y z : Sign) → s ≡ Zero → t ≡ Zero → product s y ≡ product t z
      both_zero' s t y z a b = product_zero_left s y a ∙ sym (product_zero_left t z b)

      grown_pivot_old : (a : List ℕ) → AreOver G a → (Y : SignVector) → K Y → Vanishes Y a → (e h : ℕ)
          → IsMember e (p ∷ G) → IsMember h (p ∷ G) → product (grown g p psi (a ++ e ∷ [])) (Y h)
          ≡ product (grown g p psi (a ++ h ∷ [])) (Y e)
      grown_pivot_old a o Y ky vy e h me mh =
          let at_p : (i : ℕ) → i ≡ p → grown g p psi (a ++ i ∷ []) ≡ psi a = λ i q.
          ap (λ z. grown g p psi (a ++ z ∷ [])) q ∙ grown_at g p psi a [] (p_out a o) ∙ negated_for_none (psi (a ++ []))
          ∙ ap psi (append-nil a) in
          let at_g : (i : ℕ) → IsMember i G → grown g p psi (a ++ i ∷ []) ≡ g (a ++ i ∷ []) = λ i m.
          grown_no g p psi (a ++ i ∷ []) (p_out (a ++ i ∷ [])
          (over_last K neg_k elim_k extends_or_not b0 base0 G a i o m)) in
          let mixed : (i j : ℕ) → i ≡ p → IsMember j G
          → product (grown g p psi (a ++ i ∷ [])) (Y j) ≡ product (grown g p psi (a ++ j ∷ [])) (Y i) = λ i j q m.
          ap (λ z. product z (Y j)) (at_p i q) ∙ row.rule a o Y ky vy j m
          ∙ ap (product (g (a ++ j ∷ []))) (ap Y (sym q))
          ∙ ap (λ z. product z (Y i)) (sym (at_g j m)) in
          ⊎_elim
          (λ qe. ⊎_elim
          (λ qh. ap (λ z. product (grown g p psi (a ++ z ∷ [])) (Y h)) (qe ∙ sym qh)
          ∙ ap (λ z. product (grown g p psi (a ++ h ∷ [])) (Y z)) (qh ∙ sym qe))
          (λ gh. mixed e h qe gh) mh)
          (λ ge. ⊎_elim
          (λ qh. sym (mixed h e qh ge))
          (λ gh. ap (λ z. product z (Y h)) (at_g e ge) ∙ inv.3 a o Y ky vy e h ge gh
          ∙ ap (λ z. product z (Y e)) (sym (at_g h gh))) mh)
          me

      grown_pivot_new : (u v : List ℕ) → AreOver (p ∷ G) (u ++ p ∷ v) → (IsMember p u → ⊥) → (Y : SignVector) → K Y
          → Vanishes Y (u ++ p ∷ v) → (e h : ℕ) → IsMember e (p ∷ G) → IsMember h (p ∷ G)
          → product (grown g p psi ((u ++ p ∷ v) ++ e ∷ [])) (Y h)
          ≡ product (grown g p psi ((u ++ p ∷ v) ++ h ∷ [])) (Y e)
      grown_pivot_new u v o n Y ky vy e h me mh =
          let d : Sign = negated_for v Plus in
          let yp : Y p ≡ Zero = vy p (member_middle p u v) in
          let zero_p : (i : ℕ) → i ≡ p → grown g p psi ((u ++ p ∷ v) ++ i ∷ []) ≡ Zero = λ i q.
          grown_end u v i n ∙ zero_if_opposite_product d (psi ((u ++ v) ++ i ∷ []))
          (row.zero ((u ++ v) ++ i ∷ []) (member_right p (u ++ v) (i ∷ []) (inl (sym q)))) in
          ⊎_elim
          (λ qe. products_zero (grown g p psi ((u ++ p ∷ v) ++ e ∷ [])) (grown g p psi ((u ++ p ∷ v) ++ h ∷ [])) (Y h)
          (Y e)
          (zero_p e qe)
          (ap Y qe ∙ yp))
          (λ ge. ⊎_elim
          (λ qh. sym
          (products_zero (grown g p psi ((u ++ p ∷ v) ++ h ∷ [])) (grown g p psi ((u ++ p ∷ v) ++ e ∷ [])) (Y e) (Y h)
          (zero_p h qh)
          (ap Y qh ∙ yp)))
          (λ gh. ⊎_elim
          (λ m.
          let z : (i : ℕ) → grown g p psi ((u ++ p ∷ v) ++ i ∷ []) ≡ Zero = λ i. grown_end u v i n
          ∙ zero_if_opposite_product d (psi ((u ++ v) ++ i ∷ []))
          (row.zero ((u ++ v) ++ i ∷ []) (member_left p (u ++ v) (i ∷ []) m)) in
          both_zero' (grown g p psi ((u ++ p ∷ v) ++ e ∷ [])) (grown g p psi ((u ++ p ∷ v) ++ h ∷ [])) (Y h) (Y e) (z e)
          (z h))
          (λ m.
          let ov : AreOver G (u ++ v) =
          over_old K neg_k elim_k extends_or_not b0 base0 G g inv over0 p pn (u ++ v)
          (λ i k. o i (member_insert i u p v k)) m in
          let vz : Vanishes Y ((u ++ v) ++ p ∷ []) = λ i k. vy i (from_back p u v i k) in
          ap (λ z. product z (Y h)) (grown_end u v e n)
          ∙ scaled d (psi ((u ++ v) ++ e ∷ [])) (psi ((u ++ v) ++ h ∷ [])) (Y h) (Y e)
          (row.across (u ++ v) ov e h ge gh Y ky vz) ∙ ap (λ z. product z (Y e)) (sym (grown_end u v h n)))
          (member_or_not p (u ++ v)))
          mh)
          me

      grown_pivot_go : (a : List ℕ) → AreOver (p ∷ G) a → (IsMember p a → ⊥)
          ⊎ ((u : List ℕ) × (v : List ℕ) × (a ≡ u ++ p ∷ v) × (IsMember p u → ⊥)) → (Y : SignVector) → K Y
          → Vanishes Y a → (e h : ℕ) → IsMember e (p ∷ G) → IsMember h (p ∷ G)
          → product (grown g p psi (a ++ e ∷ [])) (Y h) ≡ product (grown g p psi (a ++ h ∷ [])) (Y e)
      grown_pivot_go a o (inl k) Y ky vy e h me mh = grown_pivot_old a
          (over_old K neg_k elim_k extends_or_not b0 base0 G g inv over0 p pn a o k) Y ky vy e h me mh
      grown_pivot_go a o (inr k) Y ky vy e h me mh =
          subst (λ l. product (grown g p psi (l ++ e ∷ [])) (Y h) ≡ product (grown g p psi (l ++ h ∷ [])) (Y e))
          (sym k.2)
          (grown_pivot_new k.0 k.1 (subst (AreOver (p ∷ G)) k.2 o) k.3 Y ky (subst (Vanishes Y) k.2 vy) e h me mh)

      pub grown_fits : IsPartialMap K neg_k elim_k extends_or_not b0 base0 (p ∷ G) (grown g p psi)
      grown_fits = (
        grown_alt,
        (λ t o n. grown_base_go t o n (first_place p t)),
        (λ t o b. base_grown_go t o b (first_place p t)),
        (λ a o Y ky vy e h me mh. grown_pivot_go a o (first_place p a) Y ky vy e h me mh),
      )

    -- all elements of a list are added, one after another
    pub grown_over_all : (l G : List ℕ) (g : List ℕ → Sign) → IsPartialMap K neg_k elim_k extends_or_not b0 base0 G g
        → AreOver G b0 → (G' : List ℕ)
        × (g' : List ℕ → Sign) × IsPartialMap K neg_k elim_k extends_or_not b0 base0 G' g' × AreOver G' b0
        × ((i : ℕ) → IsMember i l → IsMember i G')
        × ((i : ℕ) → IsMember i G → IsMember i G')
    grown_over_all [] G g inv o = (G, g, inv, o, (λ i m. absurd m), λ i m. m)
    grown_over_all (p ∷ l) G g inv o =
        ⊎_elim
        (λ m.
        let k = grown_over_all l G g inv o in
        (k.0, k.1, k.2, k.3, (λ i j. ⊎_elim (λ q. k.5 i (subst (λ z. IsMember z G) (sym q) m)) (λ h. k.4 i h) j), k.5))
        (λ n.
        let values = psi K neg_k elim_k extends_or_not b0 base0 G g inv o p n in
        let row = new_row K neg_k elim_k extends_or_not b0 base0 G g inv o p n in
        let i2 = grown_fits G g inv o p n values row in
        let o2 : AreOver (p ∷ G) b0 = λ i m. inr (o i m) in
        let k = grown_over_all l (p ∷ G) (grown g p values) i2 o2 in
        (k.0, k.1, k.2, k.3, (λ i j. ⊎_elim (λ q. k.5 i (inl q)) (λ h. k.4 i h) j), λ i j. k.5 i (inr j)))
        (member_or_not p G)
