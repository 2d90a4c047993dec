-- The lexicographic extension of a chirotope as a map on all lists: the new element stands for the listed ones, and the
-- first value that isn't zero counts. Its values, and its relations where the new element stands in one list at most.
--
-- Main definitions: value_at, extension
-- Main results: extension_none, extension_once, extension_more, extension_alternating
-- Reference: Björner, Las Vergnas, Sturmfels, White and Ziegler, Oriented Matroids, chapter 7.
use Rattle.std.specs.Prelude.{◌≡◌, ◌≢◌, ◌⊎◌, ℕ, ◌<◌, ◌≤◌, List, [], ◌∷◌, ◌++◌, length, cond, nat_eq, get_or, refl}
use Rattle.std.specs.List.{remove}
use Rattle.std.proofs.Common.{suc, sym, ap, ◌∙◌, subst, ⊎_elim, inl, inr, arith}
use Rattle.std.proofs.lemmas.Bool.{cases_eq, eq-eqb, ne_eqb}
use Rattle.std.proofs.lemmas.List.{length-map}
use Rattle.om_signs.specs.declared.sign.Sign.{Sign}
use Rattle.om_signs.specs.declared.sign.Sign.TheVariants.{Minus, Zero}
use Rattle.om_signs.specs.Sign.{opposite, product}
use Rattle.om_signs.proofs.SignLaws.{product-opposite_right, product_left_comm, product_comm, product_assoc}
use Rattle.om_laws.specs.Members.{IsMember, IsDistinct}
use Rattle.om_laws.specs.Relations.{along, IsBalanced, HasRelations}
use Rattle.om_laws.specs.Tuples.{IsAlternating}
use Rattle.om_laws.proofs.MemberLaws.{member_at}
use Rattle.om_lexext.proofs.Leads.{lead, lead_scaled, lead_same}
use Rattle.om_lexext.proofs.PlaceTerms.{turn, term, AreBalanced, balanced_from, balanced_to, balanced_same}
use Rattle.om_lexext.proofs.PlaceTerms.{balanced_times, lead_family}
use Rattle.om_lexext.proofs.ReplacedPlaces.{swap_in, instead, swap_at, swap_off, instead_off, instead_append}
use Rattle.om_lexext.proofs.ReplacedPlaces.{instead_remove, instead_at, removed_member, at_or_left, not_left}
use Rattle.om_lexext.proofs.ReplacedPlaces.{distinct_removed, count, count_none, count_once, count_last, count_not_last}
use Rattle.om_lexext.proofs.ReplacedPlaces.{count_swap}

-- ---- the extension

module _ (p m : ℕ) (el : ℕ → ℕ) (sg : ℕ → Sign) (chi : List ℕ → Sign) where
  abbrev pub value_at : ℕ → List ℕ → Sign
  value_at j t = product (sg j) (chi (instead p (el j) t))

  -- chi where p isn't there; where it stands once, the first nonzero one of the values with a listed element in its
  -- place; and else zero
  abbrev pub extension : List ℕ → Sign
  extension t = cond (nat_eq (count p t) 0) (chi t) (cond (nat_eq (count p t) 1) (lead (λ j. value_at j t) 0 m) Zero)

  pub extension_none : (t : List ℕ) → count p t ≡ 0 → extension t ≡ chi t
  extension_none t c = rw (eq-eqb (count p t) 0 c) refl

  pub extension_once : (t : List ℕ) → count p t ≡ 1 → extension t ≡ lead (λ j. value_at j t) 0 m
  extension_once t c = let n : count p t ≢ 0 = (λ z. omega (arith, c, z)) in
      rw (ne_eqb (count p t) 0 n, eq-eqb (count p t) 1 c) refl

  pub extension_more : (t : List ℕ) → 2 ≤ count p t → extension t ≡ Zero
  extension_more t c =
      let n : count p t ≢ 0 = (λ z. omega (arith, c, z)) in
      let o : count p t ≢ 1 = (λ z. omega (arith, c, z)) in
      rw (ne_eqb (count p t) 0 n, ne_eqb (count p t) 1 o) refl

  pub none_once_more : (t : List ℕ) → (count p t ≡ 0) ⊎ (count p t ≡ 1) ⊎ (2 ≤ count p t)
  none_once_more t = elim (cases_eq (count p t) 0) [
    | inl a ↦ inl a
    | inr a ↦ elim (cases_eq (count p t) 1) [
      | inl b ↦ inr (inl b)
      | inr b ↦ (let a' : count p t ≢ 0 = a in let b' : count p t ≢ 1 = b in inr (inr (omega (arith, a', b'))))
    ]
  ]

  module _ (alt : IsAlternating chi) where
    value_swapped : (j x y : ℕ) (cs bs : List ℕ) → value_at j (cs ++ y ∷ x ∷ bs)
        ≡ product Minus (value_at j (cs ++ x ∷ y ∷ bs))
    value_swapped j x y cs bs =
        ap (λ l. product (sg j) (chi l)) (instead_append p (el j) cs (y ∷ x ∷ bs))
        ∙ ap (product (sg j))
        (alt (swap_in p (el j) x) (swap_in p (el j) y) (instead p (el j) cs) (instead p (el j) bs))
        ∙ product-opposite_right (sg j)
        (chi (instead p (el j) cs ++ swap_in p (el j) x ∷ swap_in p (el j) y ∷ instead p (el j) bs))
        ∙ ap opposite (ap (λ l. product (sg j) (chi l)) (sym (instead_append p (el j) cs (x ∷ y ∷ bs))))

    pub extension_alternating : IsAlternating extension
    extension_alternating x y cs bs = by (none_once_more (cs ++ x ∷ y ∷ bs))
      where
        c : count p (cs ++ y ∷ x ∷ bs) ≡ count p (cs ++ x ∷ y ∷ bs)
        c = count_swap p x y cs bs

        by : (count p (cs ++ x ∷ y ∷ bs) ≡ 0) ⊎ (count p (cs ++ x ∷ y ∷ bs) ≡ 1) ⊎ (2 ≤ count p (cs ++ x ∷ y ∷ bs))
            → extension (cs ++ y ∷ x ∷ bs) ≡ opposite (extension (cs ++ x ∷ y ∷ bs))
        by (inl a) = extension_none (cs ++ y ∷ x ∷ bs) (c ∙ a) ∙ alt x y cs bs
            ∙ ap opposite (sym (extension_none (cs ++ x ∷ y ∷ bs) a))
        by (inr (inl a)) =
            extension_once (cs ++ y ∷ x ∷ bs) (c ∙ a)
            ∙ lead_same (λ j. value_at j (cs ++ y ∷ x ∷ bs)) (λ j. product Minus (value_at j (cs ++ x ∷ y ∷ bs))) m 0
            (λ j l u. value_swapped j x y cs bs)
            ∙ sym (lead_scaled Minus (λ j. value_at j (cs ++ x ∷ y ∷ bs)) m 0)
            ∙ ap opposite (sym (extension_once (cs ++ x ∷ y ∷ bs) a))
        by (inr (inr a)) = extension_more (cs ++ y ∷ x ∷ bs) (subst (λ k. 2 ≤ k) (sym c) a)
            ∙ ap opposite (sym (extension_more (cs ++ x ∷ y ∷ bs) a))

    -- ---- relations

    module _ (rel : HasRelations chi) (s a : List ℕ) (ds : IsDistinct s) (da : IsDistinct a) where
      T : ℕ → Sign
      T i = product (turn i) (product (extension (remove s i)) (extension (a ++ get_or s i 0 ∷ [])))

      -- p in neither
      pub neither : (IsMember p s → ⊥) → (IsMember p a → ⊥) → IsBalanced extension s (along extension a)
      neither ns na =
          balanced_from extension s (along extension a)
          (balanced_same (length s) (term extension s (along extension a)) (term chi s (along chi a))
          (λ i l. ap (product (turn i)) (
          ap (λ k. product k (extension (a ++ get_or s i 0 ∷ [])))
          (extension_none (remove s i) (count_none p (remove s i) (λ k. ns (removed_member s i p k))))
          ∙ ap (product (chi (remove s i)))
          (extension_none (a ++ get_or s i 0 ∷ [])
          (count_not_last p a (get_or s i 0) (λ q. ns (subst (λ g. IsMember g s) q (member_at s i l)))
          ∙ count_none p a na))))
          (balanced_to chi s (along chi a) (rel s a)))

      shuffle : (t c u d : Sign) → product t (product c (product u d)) ≡ product u (product t (product c d))
      shuffle t c u d = ap (product t) (product_left_comm c u d) ∙ product_left_comm t u (product c d)

      -- p in a alone
      pub second : (IsMember p s → ⊥) → IsMember p a → IsBalanced extension s (along extension a)
      second ns ma =
          balanced_from extension s (along extension a)
          (balanced_same (length s) (term extension s (along extension a)) (λ i. lead (λ j. F j i) 0 m) same
          (lead_family (length s) m F
          (λ j l. balanced_times (length s) (sg j) (term chi s (along chi (instead p (el j) a)))
          (balanced_to chi s (along chi (instead p (el j) a)) (rel s (instead p (el j) a))))))
        where
          F : ℕ → ℕ → Sign
          F j i = product (sg j) (term chi s (along chi (instead p (el j) a)) i)

          value_last : (i j : ℕ) → i < length s → value_at j (a ++ get_or s i 0 ∷ [])
              ≡ product (sg j) (chi (instead p (el j) a ++ get_or s i 0 ∷ []))
          value_last i j l =
              ap (λ k. product (sg j) (chi k))
              (instead_append p (el j) a (get_or s i 0 ∷ [])
              ∙ ap (λ g. instead p (el j) a ++ g ∷ [])
              (swap_off p (el j) (get_or s i 0) (λ q. ns (subst (λ g. IsMember g s) q (member_at s i l)))))

          same : (i : ℕ) → i < length s → term extension s (along extension a) i ≡ lead (λ j. F j i) 0 m
          same i l =
              let other : get_or s i 0 ≢ p = (λ q. ns (subst (λ g. IsMember g s) q (member_at s i l))) in
              ap (λ k. product (turn i) (product k (extension (a ++ get_or s i 0 ∷ []))))
              (extension_none (remove s i) (count_none p (remove s i) (λ k. ns (removed_member s i p k))))
              ∙ ap (λ k. product (turn i) (product (chi (remove s i)) k))
              (extension_once (a ++ get_or s i 0 ∷ [])
              (count_not_last p a (get_or s i 0) other ∙ count_once p a da ma))
              ∙ ap (product (turn i)) (lead_scaled (chi (remove s i)) (λ j. value_at j (a ++ get_or s i 0 ∷ [])) m 0)
              ∙ lead_scaled (turn i) (λ j. product (chi (remove s i)) (value_at j (a ++ get_or s i 0 ∷ []))) m 0
              ∙ lead_same (λ j. product (turn i) (product (chi (remove s i)) (value_at j (a ++ get_or s i 0 ∷ []))))
              (λ j. F j i) m 0 (λ j k u.
              ap (λ v. product (turn i) (product (chi (remove s i)) v)) (value_last i j l)
              ∙ shuffle (turn i) (chi (remove s i)) (sg j) (chi (instead p (el j) a ++ get_or s i 0 ∷ [])))

      -- p in s: the values at the places
      pub removed_once : IsMember p s → (i : ℕ) → i < length s → get_or s i 0 ≢ p → count p (remove s i) ≡ 1
      removed_once ms i l n =
          count_once p (remove s i) (distinct_removed s i ds)
          (⊎_elim (λ q. absurd (n q)) (λ k. k) (at_or_left s i p l ms))

      pub removed_none : (i : ℕ) → i < length s → get_or s i 0 ≡ p → (IsMember p (remove s i) → ⊥)
      removed_none i l q k = not_left s i l ds (subst (λ g. IsMember g (remove s i)) (sym q) k)

      shuffle_left : (t u c d : Sign) → product t (product (product u c) d) ≡ product u (product t (product c d))
      shuffle_left t u c d = ap (product t) (product_assoc u c d) ∙ product_left_comm t u (product c d)

      lead_times : (f : ℕ → Sign) (d : Sign) → product (lead f 0 m) d ≡ lead (λ j. product (f j) d) 0 m
      lead_times f d = product_comm (lead f 0 m) d ∙ lead_scaled d f m 0
          ∙ lead_same (λ j. product d (f j)) (λ j. product (f j) d) m 0 (λ j l u. product_comm d (f j))

      -- p in s alone
      pub first : IsMember p s → (IsMember p a → ⊥) → IsBalanced extension s (along extension a)
      first ms na =
          balanced_from extension s (along extension a)
          (balanced_same (length s) (term extension s (along extension a)) (λ i. lead (λ j. F j i) 0 m) same
          (lead_family (length s) m F
          (λ j l. balanced_times (length s) (sg j) (term chi (instead p (el j) s) (along chi a))
          (subst (λ n. AreBalanced n (term chi (instead p (el j) s) (along chi a))) (length-map s (swap_in p (el j)))
          (balanced_to chi (instead p (el j) s) (along chi a) (rel (instead p (el j) s) a))))))
        where
          F : ℕ → ℕ → Sign
          F j i = product (sg j) (term chi (instead p (el j) s) (along chi a) i)

          F_other : (j i : ℕ) → i < length s → get_or s i 0 ≢ p
              → F j i ≡ product (sg j)
              (product (turn i) (product (chi (instead p (el j) (remove s i))) (chi (a ++ get_or s i 0 ∷ []))))
          F_other j i l n = ap (λ k. product (sg j) (product (turn i) k)) (
              ap (λ k. product (chi k) (chi (a ++ get_or (instead p (el j) s) i 0 ∷ [])))
              (instead_remove p (el j) s i l)
              ∙ ap (λ g. product (chi (instead p (el j) (remove s i))) (chi (a ++ g ∷ [])))
              (instead_at p (el j) s i l ∙ swap_off p (el j) (get_or s i 0) n))

          F_here : (j i : ℕ) → i < length s → get_or s i 0 ≡ p
              → F j i ≡ product (sg j) (product (turn i) (product (chi (remove s i)) (chi (a ++ el j ∷ []))))
          F_here j i l q = ap (λ k. product (sg j) (product (turn i) k)) (
              ap (λ k. product (chi k) (chi (a ++ get_or (instead p (el j) s) i 0 ∷ [])))
              (instead_remove p (el j) s i l ∙ instead_off p (el j) (remove s i) (removed_none i l q))
              ∙ ap (λ g. product (chi (remove s i)) (chi (a ++ g ∷ [])))
              (instead_at p (el j) s i l ∙ swap_at p (el j) (get_or s i 0) q))

          value_here : (i j : ℕ) → get_or s i 0 ≡ p → value_at j (a ++ get_or s i 0 ∷ [])
              ≡ product (sg j) (chi (a ++ el j ∷ []))
          value_here i j q =
              ap (λ k. product (sg j) (chi k))
              (instead_append p (el j) a (get_or s i 0 ∷ [])
              ∙ ap (λ g. instead p (el j) a ++ g ∷ []) (swap_at p (el j) (get_or s i 0) q)
              ∙ ap (λ k. k ++ el j ∷ []) (instead_off p (el j) a na))

          other : (i : ℕ) → i < length s → get_or s i 0 ≢ p
              → term extension s (along extension a) i ≡ lead (λ j. F j i) 0 m
          other i l n =
              ap (λ k. product (turn i) (product k (extension (a ++ get_or s i 0 ∷ []))))
              (extension_once (remove s i) (removed_once ms i l n))
              ∙ ap (λ k. product (turn i) (product (lead (λ j. value_at j (remove s i)) 0 m) k))
              (extension_none (a ++ get_or s i 0 ∷ []) (count_not_last p a (get_or s i 0) n ∙ count_none p a na))
              ∙ ap (product (turn i)) (lead_times (λ j. value_at j (remove s i)) (chi (a ++ get_or s i 0 ∷ [])))
              ∙ lead_scaled (turn i) (λ j. product (value_at j (remove s i)) (chi (a ++ get_or s i 0 ∷ []))) m 0
              ∙ lead_same (λ j. product (turn i) (product (value_at j (remove s i)) (chi (a ++ get_or s i 0 ∷ []))))
              (λ j. F j i) m 0 (λ j k u.
              shuffle_left (turn i) (sg j) (chi (instead p (el j) (remove s i))) (chi (a ++ get_or s i 0 ∷ []))
              ∙ sym (F_other j i l n))

          here : (i : ℕ) → i < length s → get_or s i 0 ≡ p
              → term extension s (along extension a) i ≡ lead (λ j. F j i) 0 m
          here i l q =
              ap (λ k. product (turn i) (product k (extension (a ++ get_or s i 0 ∷ []))))
              (extension_none (remove s i) (count_none p (remove s i) (removed_none i l q)))
              ∙ ap (λ k. product (turn i) (product (chi (remove s i)) k))
              (extension_once (a ++ get_or s i 0 ∷ [])
              (count_last p a (get_or s i 0) q ∙ ap suc (count_none p a na)))
              ∙ ap (product (turn i)) (lead_scaled (chi (remove s i)) (λ j. value_at j (a ++ get_or s i 0 ∷ [])) m 0)
              ∙ lead_scaled (turn i) (λ j. product (chi (remove s i)) (value_at j (a ++ get_or s i 0 ∷ []))) m 0
              ∙ lead_same (λ j. product (turn i) (product (chi (remove s i)) (value_at j (a ++ get_or s i 0 ∷ []))))
              (λ j. F j i) m 0 (λ j k u.
              ap (λ v. product (turn i) (product (chi (remove s i)) v)) (value_here i j q)
              ∙ shuffle (turn i) (chi (remove s i)) (sg j) (chi (a ++ el j ∷ [])) ∙ sym (F_here j i l q))

          same : (i : ℕ) → i < length s → term extension s (along extension a) i ≡ lead (λ j. F j i) 0 m
          same i l = elim (cases_eq (get_or s i 0) p) [ inl q ↦ here i l q | inr n ↦ other i l n ]
