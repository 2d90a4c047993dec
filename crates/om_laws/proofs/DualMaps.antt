-- The dual of an alternating map: any listing of the complement serves, and what is around a tuple of the dual is along
-- its complement.
--
-- Main results: dual_among, dual_off, dual_nonzero_among, dual_alternating, dual_listing, around_dual_same,
-- along_dual_same
-- Reference: Björner, Las Vergnas, Sturmfels, White and Ziegler, Oriented Matroids, chapter 3.
use Rattle.std.specs.Prelude.{ℕ, ◌≡◌, refl, List, [], ◌∷◌, ◌++◌}
use Rattle.std.proofs.Common.{inl, inr, sym, ◌∙◌, ap, subst, ⊎_elim, append_assoc, append-nil}
use Rattle.om_signs.specs.declared.sign.Sign.{Sign}
use Rattle.om_signs.specs.declared.sign.Sign.TheVariants.{Zero}
use Rattle.om_signs.specs.Sign.{opposite, product}
use Rattle.om_signs.proofs.SignLaws.{zero_or_nonzero, product_zero_right, product_opposites, product-opposite_left}
use Rattle.om_signs.proofs.SignLaws.{opposite_nonzero, plus_or_minus}
use Rattle.om_laws.specs.Dual.{complement, dual_map}
use Rattle.om_laws.specs.Members.{IsDistinct, IsMember, AreAmong}
use Rattle.om_laws.specs.Relations.{around, along}
use Rattle.om_laws.specs.Signs.{IsNonzero}
use Rattle.om_laws.specs.Tuples.{IsAlternating, sort_sign}
use Rattle.om_laws.specs.Vectors.{AreEqualUpToSign, SignVector}
use Rattle.om_laws.proofs.BlockLaws.{same_members, negated_for, negated_for_append, negated_for_nonzero}
use Rattle.om_laws.proofs.BlockLaws.{negated_for_opposite, negated_for_times, negated_for_times_right}
use Rattle.om_laws.proofs.BlockLaws.{negated_for_twice, sort_sign_nonzero}
use Rattle.om_laws.proofs.Complements.{IsComplement, among_swap, complement_less, complement_more, complement_swap}
use Rattle.om_laws.proofs.Complements.{are_members_cases, complement_is_complement, complement_joined}
use Rattle.om_laws.proofs.MemberLaws.{member_insert, member_last, member_middle, member_or_not, split_at}
use Rattle.om_laws.proofs.RelationLaws.{around_at, around_zero}
use Rattle.om_laws.proofs.TupleLaws.{last_repeat_zero, moved_over, sort_sign_swap}

same_from_factor : (X Y : SignVector) (s : Sign) → IsNonzero s → ((e : ℕ) → X e ≡ product s (Y e))
    → AreEqualUpToSign X Y
same_from_factor X Y s n h = ⊎_elim
    (λ p. inl (λ e. h e ∙ ap (λ k. product k (Y e)) p))
    (λ p. inr (λ e. h e ∙ ap (λ k. product k (Y e)) p))
    (plus_or_minus s n)

-- ---- the dual map

module _ (E : List ℕ) (de : IsDistinct E) (chi : List ℕ → Sign) (alt : IsAlternating chi) where
  abbrev dual : List ℕ → Sign
  dual = dual_map E chi

  pub dual_among : (a : List ℕ) → AreAmong E a
      → dual_map E chi a ≡ product (sort_sign (a ++ complement E a)) (chi (complement E a))
  dual_among a i = elim (are_members_cases E a) [ inl k ↦ rw k.1 refl | inr k ↦ absurd (k.0 i) ]

  pub dual_off : (a : List ℕ) → (AreAmong E a → ⊥) → dual_map E chi a ≡ Zero
  dual_off a n = elim (are_members_cases E a) [ inl k ↦ absurd (n k.0) | inr k ↦ rw k.1 refl ]

  pub dual_nonzero_among : (a : List ℕ) → IsNonzero (dual_map E chi a) → AreAmong E a
  dual_nonzero_among a n = elim (are_members_cases E a) [ inl k ↦ k.0 | inr k ↦ absurd (n (rw k.1 refl)) ]

  pub dual_alternating : IsAlternating (dual_map E chi)
  dual_alternating x y cs bs = elim (are_members_cases E (cs ++ y ∷ x ∷ bs)) [
    | inl k ↦ dual_among (cs ++ y ∷ x ∷ bs) k.0
        ∙ ap (λ l. product (sort_sign ((cs ++ y ∷ x ∷ bs) ++ l)) (chi l)) (complement_swap E x y cs bs)
        ∙ ap (λ s. product s (chi (complement E (cs ++ x ∷ y ∷ bs)))) (turned (complement E (cs ++ x ∷ y ∷ bs)))
        ∙ product-opposite_left (sort_sign ((cs ++ x ∷ y ∷ bs) ++ complement E (cs ++ x ∷ y ∷ bs)))
        (chi (complement E (cs ++ x ∷ y ∷ bs)))
        ∙ ap opposite (sym (dual_among (cs ++ x ∷ y ∷ bs) (among_swap E x y cs bs k.0)))
    | inr k ↦ dual_off (cs ++ y ∷ x ∷ bs) k.0
        ∙ ap opposite (sym (dual_off (cs ++ x ∷ y ∷ bs) (λ h. k.0 (among_swap E y x cs bs h))))
  ]
    where
      turned : (l : List ℕ) → sort_sign ((cs ++ y ∷ x ∷ bs) ++ l) ≡ opposite (sort_sign ((cs ++ x ∷ y ∷ bs) ++ l))
      turned l = ap sort_sign (append_assoc cs (y ∷ x ∷ bs) l) ∙ sort_sign_swap x y cs (bs ++ l)
          ∙ ap (λ k. opposite (sort_sign k)) (sym (append_assoc cs (x ∷ y ∷ bs) l))

  -- the complement may be listed in any order
  pub dual_listing : (a b : List ℕ) → AreAmong E a → IsComplement E a b
      → dual_map E chi a ≡ product (sort_sign (a ++ b)) (chi b)
  dual_listing a b i c =
      let k = complement_is_complement E a de in
      same_members (λ l. dual_map E chi a ≡ product (sort_sign (a ++ l)) (chi l))
      (λ u x y v q. q ∙ sym (product_opposites (sort_sign (a ++ (u ++ x ∷ y ∷ v))) (chi (u ++ x ∷ y ∷ v)))
      ∙ ap (λ s. product s (opposite (chi (u ++ x ∷ y ∷ v)))) (sym (turned u x y v))
      ∙ ap (product (sort_sign (a ++ (u ++ y ∷ x ∷ v)))) (sym (alt x y u v)))
      (complement E a) [] b k.distinct c.distinct
      (λ g m. c.all g (k.among g m) (k.apart g m))
      (λ g m. k.all g (c.among g m) (c.apart g m))
      (dual_among a i)
    where
      turned : (u : List ℕ) (x y : ℕ) (v : List ℕ) → sort_sign (a ++ (u ++ y ∷ x ∷ v))
          ≡ opposite (sort_sign (a ++ (u ++ x ∷ y ∷ v)))
      turned u x y v = ap sort_sign (sym (append_assoc a u (y ∷ x ∷ v))) ∙ sort_sign_swap x y (a ++ u) v
          ∙ ap (λ k. opposite (sort_sign k)) (append_assoc a u (x ∷ y ∷ v))

  -- ---- around a tuple of the dual: along its complement

  around_dual_at : (u v y : List ℕ) (e : ℕ) → IsDistinct (u ++ e ∷ v) → AreAmong E (u ++ e ∷ v)
      → IsComplement E (u ++ e ∷ v) y
      → around (dual_map E chi) (u ++ e ∷ v) e
      ≡ product (negated_for ((u ++ e ∷ v) ++ y) (sort_sign ((u ++ e ∷ v) ++ y))) (along chi y e)
  around_dual_at u v y e d i c =
      around_at (dual_map E chi) u e v d
      ∙ ap (negated_for (e ∷ u))
      (dual_listing (u ++ v) (y ++ e ∷ []) (λ g m. i g (member_insert g u e v m)) (complement_more E u v y e d i c))
      ∙ signs (sort_sign ((u ++ v) ++ (y ++ e ∷ []))) (chi (y ++ e ∷ [])) (sort_sign ((u ++ e ∷ v) ++ y)) moved
    where
      moved : sort_sign ((u ++ e ∷ v) ++ y) ≡ negated_for (v ++ y) (sort_sign ((u ++ v) ++ (y ++ e ∷ [])))
      moved = ap sort_sign (append_assoc u (e ∷ v) y ∙ ap (λ l. u ++ e ∷ l) (sym (append-nil (v ++ y))))
          ∙ moved_over sort_sign sort_sign_swap (v ++ y) u e []
          ∙ ap (λ l. negated_for (v ++ y) (sort_sign l))
          (ap (λ l. u ++ l) (append_assoc v y (e ∷ [])) ∙ sym (append_assoc u v (y ++ e ∷ [])))

      signs : (s a t : Sign) → t ≡ negated_for (v ++ y) s
          → negated_for (e ∷ u) (product s a) ≡ product (negated_for ((u ++ e ∷ v) ++ y) t) a
      signs s a t q = negated_for_times (e ∷ u) s a
          ∙ ap (λ k. product k a) (sym (negated_for_opposite u s)
          ∙ ap (λ k. negated_for u (opposite k)) (sym (ap (negated_for (v ++ y)) q ∙ negated_for_twice (v ++ y) s))
          ∙ sym (negated_for_append u (e ∷ (v ++ y)) t)
          ∙ ap (λ l. negated_for l t) (sym (append_assoc u (e ∷ v) y)))

  module _ (within : (t : List ℕ) → IsNonzero (chi t) → (e : ℕ) → IsMember e t → IsMember e E) where
    around_dual : (x y : List ℕ) → IsDistinct x → AreAmong E x → IsComplement E x y → (e : ℕ)
        → around (dual_map E chi) x e ≡ product (negated_for (x ++ y) (sort_sign (x ++ y))) (along chi y e)
    around_dual x y d i c e = ⊎_elim
        (λ m.
        let s = split_at e x m in
        let P : List ℕ → Type 0 = λ z. around (dual_map E chi) z e
        ≡ product (negated_for (z ++ y) (sort_sign (z ++ y))) (along chi y e) in
        subst P (sym s.2)
        (around_dual_at s.0 s.1 y e (subst IsDistinct s.2 d) (subst (AreAmong E) s.2 i)
        (subst (λ z. IsComplement E z y) s.2 c)))
        (λ n. around_zero (dual_map E chi) x e n
        ∙ sym (product_zero_right (negated_for (x ++ y) (sort_sign (x ++ y))) (along chi y e) (⊎_elim (λ z. z)
        (λ nz.
        let ie : IsMember e E = within (y ++ e ∷ []) nz e (member_middle e y []) in
        last_repeat_zero chi alt y e (c.all e ie n))
        (zero_or_nonzero (along chi y e)))))
        (member_or_not e x)

    pub around_dual_same : (x y : List ℕ) → IsDistinct x → AreAmong E x → IsComplement E x y
        → AreEqualUpToSign (around (dual_map E chi) x) (along chi y)
    around_dual_same x y d i c =
        same_from_factor (around (dual_map E chi) x) (along chi y) (negated_for (x ++ y) (sort_sign (x ++ y)))
        (negated_for_nonzero (x ++ y) (sort_sign (x ++ y)) (sort_sign_nonzero (x ++ y) (complement_joined E x y d c)))
        (around_dual x y d i c)

    -- ---- along a tuple of the dual: around its complement

    along_dual_at : (y u v : List ℕ) (e : ℕ) → AreAmong E y → IsComplement E y (u ++ e ∷ v)
        → along (dual_map E chi) y e ≡ product (opposite (sort_sign (y ++ (u ++ e ∷ v)))) (around chi (u ++ e ∷ v) e)
    along_dual_at y u v e i c =
        dual_listing (y ++ e ∷ []) (u ++ v)
        (λ g m. ⊎_elim (λ k. i g k) (λ q. subst (λ z. IsMember z E) (sym q) (c.among e (member_middle e u v)))
        (member_last g e y m))
        (complement_less E y u v e c)
        ∙ ap (λ s. product s (chi (u ++ v)))
        (ap sort_sign (append_assoc y (e ∷ []) (u ++ v)) ∙ moved_over sort_sign sort_sign_swap u y e v)
        ∙ sym (negated_for_times_right u (sort_sign (y ++ (u ++ e ∷ v))) (chi (u ++ v)))
        ∙ sym (product_opposites (sort_sign (y ++ (u ++ e ∷ v))) (negated_for u (chi (u ++ v))))
        ∙ ap (product (opposite (sort_sign (y ++ (u ++ e ∷ v))))) (sym (around_at chi u e v c.distinct))

    along_dual : (y x : List ℕ) → AreAmong E y → IsComplement E y x → (e : ℕ)
        → along (dual_map E chi) y e ≡ product (opposite (sort_sign (y ++ x))) (around chi x e)
    along_dual y x i c e = ⊎_elim
        (λ m.
        let s = split_at e x m in
        let P : List ℕ → Type 0 = λ z. along (dual_map E chi) y e
        ≡ product (opposite (sort_sign (y ++ z))) (around chi z e) in
        subst P (sym s.2) (along_dual_at y s.0 s.1 e i (subst (IsComplement E y) s.2 c)))
        (λ n. ⊎_elim (λ z. z) (λ nz.
        let ie : IsMember e E = dual_nonzero_among (y ++ e ∷ []) nz e (member_middle e y []) in
        ⊎_elim (λ k. last_repeat_zero (dual_map E chi) dual_alternating y e k) (λ o. absurd (n (c.all e ie o)))
        (member_or_not e y))
        (zero_or_nonzero (along (dual_map E chi) y e))
        ∙ sym (product_zero_right (opposite (sort_sign (y ++ x))) (around chi x e) (around_zero chi x e n)))
        (member_or_not e x)

    pub along_dual_same : (y x : List ℕ) → IsDistinct y → AreAmong E y → IsComplement E y x
        → AreEqualUpToSign (along (dual_map E chi) y) (around chi x)
    along_dual_same y x d i c =
        same_from_factor (along (dual_map E chi) y) (around chi x) (opposite (sort_sign (y ++ x)))
        (opposite_nonzero (sort_sign (y ++ x)) (sort_sign_nonzero (y ++ x) (complement_joined E y x d c)))
        (along_dual y x i c)
