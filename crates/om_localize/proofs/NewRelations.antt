-- A map of rank 3 on one element more: the relation at each element where the map has the relations, and the three-term
-- relations where it has that one.
--
-- Main results: relation_of_extension, spanned_in_extension
-- Reference: Björner, Las Vergnas, Sturmfels, White and Ziegler, Oriented Matroids, chapter 7.
use Rattle.std.specs.Prelude.{ℕ, ◌≡◌, ◌≢◌, ◌<◌, ◌≤◌, ◌⊎◌, List, [], ◌∷◌, ◌++◌, length, refl}
use Rattle.std.proofs.Common.{suc, sym, ◌∙◌, subst, ⊎_elim, arith, inl, inr}
use Rattle.std.proofs.lemmas.Bool.{cases_eq}
use Rattle.om_signs.specs.declared.sign.Sign.{Sign}
use Rattle.om_signs.specs.declared.sign.Sign.TheVariants.{Zero}
use Rattle.om_signs.specs.Sign.{opposite, product}
use Rattle.om_signs.proofs.SignLaws.{zero_or_nonzero, product_comm}
use Rattle.om_laws.specs.Signs.{IsNonzero}
use Rattle.om_laws.specs.ThreeTerm.{AreBalanced, HasThreeTermRelations}
use Rattle.om_laws.specs.Relations.{HasRelations}
use Rattle.om_laws.specs.Sorting.{IsTuple, IsIncreasing, on_tuples}
use Rattle.om_laws.specs.Chirotope.{elements_to}
use Rattle.om_laws.proofs.MemberLaws.{search_members}
use Rattle.om_laws.proofs.TupleSizes.{on_tuples_off, on_tuples_tuple, on_tuples_alternating}
use Rattle.om_laws.proofs.ChirotopeLaws.{member_from_element}
use Rattle.om_localize.proofs.BalanceLaws.{relation_reversed}
use Rattle.om_localize.proofs.RelationLaws as relation_laws
use Rattle.om_localize.proofs.RelationLaws.{last_two_swapped, second_moved_back, first_moved_back}
use Rattle.om_localize.proofs.NewElement.{three_terms, last_of_four, old_values, new_alternates, new_swap_last, turn}
use Rattle.om_localize.proofs.NewElement.{swap_first, swap_last, new_repeat, new_values, new_in_middle, new_in_front}
use Rattle.om_localize.proofs.NewElement.{c_first, c_second, c_third, s_second, first_old, all_zero}

module _ (n : ℕ) (f g k : List ℕ → Sign)
    (agrees : (t : List ℕ) → IsTuple n 3 t → IsIncreasing t → k t ≡ f t)
    (signs : (x y : ℕ) → 1 ≤ x → x < y → y ≤ n → k (x ∷ y ∷ suc n ∷ []) ≡ g (x ∷ y ∷ []))
  where
    abbrev old : List ℕ → Sign
    old = on_tuples n 3 f

    abbrev pairs : List ℕ → Sign
    pairs = on_tuples n 2 g

    abbrev new : List ℕ → Sign
    new = on_tuples (suc n) 3 k

    abbrev c : ℕ → ℕ → ℕ → Sign
    c x y z = old (x ∷ y ∷ z ∷ [])

    abbrev s : ℕ → ℕ → Sign
    s x y = pairs (x ∷ y ∷ [])

    abbrev new_at : ℕ → ℕ → ℕ → Sign
    new_at x y z = new (x ∷ y ∷ z ∷ [])

    abbrev RelationAt : ℕ → ℕ → ℕ → ℕ → Type 0
    RelationAt e x y z = AreBalanced (product (c e x y) (s e z)) (opposite (product (c e x z) (s e y)))
        (product (c e y z) (s e x))

    pub relation_of_extension : HasRelations new → (e x y z : ℕ) → RelationAt e x y z
    relation_of_extension rel e x y z = elim (cases_eq e (suc n)) [
      | inl q ↦ all_zero n f g k agrees signs (c e x y) (s e z) (c e x z) (s e y) (c e y z) (s e x)
          (inl (c_first n f g k agrees signs e x y q))
          (inl (c_first n f g k agrees signs e x z q)) (inl (c_first n f g k agrees signs e y z q))
      | inr ne ↦ elim (cases_eq x (suc n)) [
        | inl q ↦ all_zero n f g k agrees signs (c e x y) (s e z) (c e x z) (s e y) (c e y z) (s e x)
            (inl (c_second n f g k agrees signs e x y q))
            (inl (c_second n f g k agrees signs e x z q)) (inr (s_second n f g k agrees signs e x q))
        | inr nx ↦ elim (cases_eq y (suc n)) [
          | inl q ↦ all_zero n f g k agrees signs (c e x y) (s e z) (c e x z) (s e y) (c e y z) (s e x)
              (inl (c_third n f g k agrees signs e x y q))
              (inr (s_second n f g k agrees signs e y q)) (inl (c_second n f g k agrees signs e y z q))
          | inr ny ↦ elim (cases_eq z (suc n)) [
            | inl q ↦ all_zero n f g k agrees signs (c e x y) (s e z) (c e x z) (s e y) (c e y z) (s e x)
                (inr (s_second n f g k agrees signs e z q))
                (inl (c_third n f g k agrees signs e x z q)) (inl (c_third n f g k agrees signs e y z q))
            | inr nz ↦ rearranged (new_at e (suc n) x) (new_at e y z) (new_at e (suc n) y) (new_at e x z)
                (new_at e (suc n) z) (new_at e x y) (s e x) (s e y) (s e z) (c e y z) (c e x z) (c e x y)
                (new_in_middle n f g k agrees signs e x) (new_in_middle n f g k agrees signs e y)
                (new_in_middle n f g k agrees signs e z) (old_values n f g k agrees signs e y z ne ny nz)
                (old_values n f g k agrees signs e x z ne nx nz) (old_values n f g k agrees signs e x y ne nx ny)
                (three_terms new (new_alternates n f g k agrees signs) rel e (suc n) x y z)
          ]
        ]
      ]
    ]
      where
        rearranged : (a yz' b xz' d xy' sx sy sz yz xz xy : Sign) → a ≡ opposite sx → b ≡ opposite sy → d ≡ opposite sz
            → yz' ≡ yz → xz' ≡ xz → xy' ≡ xy
            → AreBalanced (product a yz') (opposite (product b xz')) (product d xy')
            → AreBalanced (product xy sz) (opposite (product xz sy)) (product yz sx)
        rearranged a yz' b xz' d xy' sx sy sz yz xz xy p q r u v w h =
            relation_reversed sx sy sz yz xz xy (rw (← p, ← q, ← r, ← u, ← v, ← w) h)

    -- an element of a base of old elements
    in_base : (x1 x2 x3 e x : ℕ) → HasRelations new → IsNonzero (c x1 x2 x3) → IsNonzero (s e x) → (y : ℕ) × (z : ℕ)
        × IsNonzero (c e y z)
    in_base x1 x2 x3 e x rel nb ns =
        let ne = first_old n f g k agrees signs e x ns in
        let n1 : x1 ≢ suc n = λ q. nb (c_first n f g k agrees signs x1 x2 x3 q) in
        let n2 : x2 ≢ suc n = λ q. nb (c_second n f g k agrees signs x1 x2 x3 q) in
        let n3 : x3 ≢ suc n = λ q. nb (c_third n f g k agrees signs x1 x2 x3 q) in
        ⊎_elim
        (λ a. ⊎_elim
        (λ b. ⊎_elim
        (λ d. absurd (ns (opposite_zero_back (s x e) (s e x) (new_at x (suc n) e) (turn n f g k agrees signs e x)
        (new_in_middle n f g k agrees signs x e)
        (last_of_four new (new_alternates n f g k agrees signs) rel x1 x2 x3 e x (suc n)
        (inr (old_values n f g k agrees signs x2 x3 e n2 n3 ne ∙ to_front x2 x3 e a))
        (inr (old_values n f g k agrees signs x1 x3 e n1 n3 ne ∙ to_front x1 x3 e b))
        (inr (old_values n f g k agrees signs x1 x2 e n1 n2 ne ∙ to_front x1 x2 e d))
        (subst IsNonzero (sym (old_values n f g k agrees signs x1 x2 x3 n1 n2 n3)) nb)))))
        (λ m. (x1, x2, m))
        (zero_or_nonzero (c e x1 x2)))
        (λ m. (x1, x3, m))
        (zero_or_nonzero (c e x1 x3)))
        (λ m. (x2, x3, m))
        (zero_or_nonzero (c e x2 x3))
      where
        opposite_zero_back : (u v w : Sign) → u ≡ opposite v → w ≡ opposite u → w ≡ Zero → v ≡ Zero
        opposite_zero_back u v w e f z = grind arith

        to_front : (x y e : ℕ) → c e x y ≡ Zero → c x y e ≡ Zero
        to_front x y e z = two (c x y e) (c x e y) (c e x y) (swap_last n f g k agrees signs x e y)
            (swap_first n f g k agrees signs e x y) z
          where
            two : (u v w : Sign) → u ≡ opposite v → v ≡ opposite w → w ≡ Zero → u ≡ Zero
            two u v w e f z = grind arith

    pub spanned_in_extension : HasRelations new → (x1 x2 x3 : ℕ) → IsNonzero (c x1 x2 x3) → (e x : ℕ)
        → IsNonzero (s e x) → (h : ℕ) × IsNonzero (c e x h)
    spanned_in_extension rel x1 x2 x3 nb e x ns =
        let b = in_base x1 x2 x3 e x rel nb ns in
        ⊎_elim
        (λ p. ⊎_elim
        (λ q. absurd
        (ns (relation_laws.third_alone (c e x b.0) (c e x b.1) (c e b.0 b.1) (s e b.1) (s e b.0) (s e x) p q b.2
        (relation_of_extension rel e x b.0 b.1))))
        (λ m. (b.1, m))
        (zero_or_nonzero (c e x b.1)))
        (λ m. (b.0, m))
        (zero_or_nonzero (c e x b.0))

    -- ---- and back

    module _ (rel : HasRelations old) (relation : (e x y z : ℕ) → RelationAt e x y z)
        (spanned : (e x : ℕ) → IsNonzero (s e x) → (h : ℕ) × IsNonzero (c e x h)) where
      pub three : (e x y z w : ℕ)
          → AreBalanced (product (c e x y) (c e z w)) (opposite (product (c e x z) (c e y w)))
          (product (c e x w) (c e y z))
      three = three_terms old (on_tuples_alternating n 3 f) rel

      pub last : (x y z w u v : ℕ) → c u v x ≡ Zero ⊎ (c y z w ≡ Zero) → c u v y ≡ Zero ⊎ (c x z w ≡ Zero) → c u v z
          ≡ Zero
          ⊎ (c x y w ≡ Zero) → IsNonzero (c x y z) → c u v w ≡ Zero
      last = last_of_four old (on_tuples_alternating n 3 f) rel

      pub point_or_not : (e x : ℕ) → ((h : ℕ) × IsNonzero (c e x h)) ⊎ ((h : ℕ) → c e x h ≡ Zero)
      point_or_not e x = ⊎_elim
          (λ p. inl (p.0, p.2))
          (λ none. inr
          (λ h. ⊎_elim (λ z. z)
          (λ m. none h (member_from_element n h (on_tuples_tuple n 3 f (e ∷ x ∷ h ∷ []) m).within.1.1.0))
          (zero_or_nonzero (c e x h))))
          (search_members (λ h. IsNonzero (c e x h)) (λ h. c e x h ≡ Zero)
          (λ h. ⊎_elim (λ z. inr z) (λ m. inl m) (zero_or_nonzero (c e x h))) (elements_to n))

      -- the three-term relations
      abbrev ThreeTerm : ℕ → ℕ → ℕ → ℕ → ℕ → Type 0
      ThreeTerm e x y z w = AreBalanced (product (new_at e x y) (new_at e z w))
          (opposite (product (new_at e x z) (new_at e y w))) (product (new_at e x w) (new_at e y z))

      at_new : (x y z w : ℕ) → ThreeTerm (suc n) x y z w
      at_new x y z w =
          rw (
            new_in_front n f g k agrees signs x y,
            new_in_front n f g k agrees signs z w,
            new_in_front n f g k agrees signs x z,
            new_in_front n f g k agrees signs y w,
            new_in_front n f g k agrees signs x w,
            new_in_front n f g k agrees signs y z,
          )
          (relation_laws.new_relation c s (swap_first n f g k agrees signs) (swap_last n f g k agrees signs)
          (turn n f g k agrees signs) three last relation spanned point_or_not x y z w)

      with_last : (e x y z : ℕ) → e ≢ suc n → ThreeTerm e x y z (suc n)
      with_last e x y z ne = elim (cases_eq x (suc n)) [
        | inl q ↦
            subst (λ t. ThreeTerm e t y z (suc n)) (sym q)
            (first_two (new_at e (suc n) y) (new_at e z (suc n)) (new_at e (suc n) z) (new_at e y (suc n))
            (new_at e (suc n) (suc n)) (new_at e y z) (s e y) (s e z) (new_in_middle n f g k agrees signs e y)
            (new_values n f g k agrees signs e z)
            (new_in_middle n f g k agrees signs e z) (new_values n f g k agrees signs e y)
            (new_repeat n f g k agrees signs e (suc n)))
        | inr nx ↦ elim (cases_eq y (suc n)) [
          | inl q ↦
              subst (λ t. ThreeTerm e x t z (suc n)) (sym q)
              (second_new (new_at e x (suc n)) (new_at e z (suc n)) (new_at e x z) (new_at e (suc n) (suc n))
              (new_at e x (suc n)) (new_at e (suc n) z) (s e x) (s e z) (new_values n f g k agrees signs e x)
              (new_values n f g k agrees signs e z)
              (new_repeat n f g k agrees signs e (suc n)) (new_in_middle n f g k agrees signs e z))
          | inr ny ↦ elim (cases_eq z (suc n)) [
            | inl q ↦
                subst (λ t. ThreeTerm e x y t (suc n)) (sym q)
                (third_new (new_at e x y) (new_at e (suc n) (suc n)) (new_at e x (suc n)) (new_at e y (suc n))
                (new_repeat n f g k agrees signs e (suc n)))
            | inr nz ↦
                rw (
                  old_values n f g k agrees signs e x y ne nx ny,
                  new_values n f g k agrees signs e z,
                  old_values n f g k agrees signs e x z ne nx nz,
                  new_values n f g k agrees signs e y,
                  new_values n f g k agrees signs e x,
                  old_values n f g k agrees signs e y z ne ny nz,
                )
                (last_commuted (c e x y) (s e z) (c e x z) (s e y) (c e y z) (s e x) (relation e x y z))
          ]
        ]
      ]
        where
          first_two : (a b d e f g sy sz : Sign) → a ≡ opposite sy → b ≡ sz → d ≡ opposite sz → e ≡ sy → f ≡ Zero
              → AreBalanced (product a b) (opposite (product d e)) (product f g)
          first_two a b d e f g sy sz p q r t u = rw (p, q, r, t, u) (lemma sy sz)
            where
              lemma : (sy sz : Sign) → AreBalanced (product (opposite sy) sz) (opposite (product (opposite sz) sy)) Zero
              lemma sy sz = grind arith

          second_new : (a b d e f g sx sz : Sign) → a ≡ sx → b ≡ sz → e ≡ Zero → g ≡ opposite sz
              → AreBalanced (product a b) (opposite (product d e)) (product a g)
          second_new a b d e f g sx sz p q r t = rw (p, q, r, t) (lemma sx sz d)
            where
              lemma : (sx sz d : Sign)
                  → AreBalanced (product sx sz) (opposite (product d Zero)) (product sx (opposite sz))
              lemma sx sz d = grind arith

          third_new : (a b d e : Sign) → b ≡ Zero → AreBalanced (product a b) (opposite (product d e)) (product d e)
          third_new a b d e p = rw p (lemma a (product d e))
            where
              lemma : (a t : Sign) → AreBalanced (product a Zero) (opposite t) t
              lemma a t = grind arith

          last_commuted : (a b d e f g : Sign) → AreBalanced (product a b) (opposite (product d e)) (product f g)
              → AreBalanced (product a b) (opposite (product d e)) (product g f)
          last_commuted a b d e f g h = rw (product_comm g f) h

      at_element : (e x y z w : ℕ) → ThreeTerm e x y z w
      at_element e x y z w = elim (cases_eq e (suc n)) [
        | inl q ↦ subst (λ t. ThreeTerm t x y z w) (sym q) (at_new x y z w)
        | inr ne ↦ elim (cases_eq w (suc n)) [
          | inl q ↦ subst (λ t. ThreeTerm e x y z t) (sym q) (with_last e x y z ne)
          | inr nw ↦ elim (cases_eq z (suc n)) [
            | inl q ↦ last_two_swapped (new_at e x y) (new_at e w z) (new_at e x w) (new_at e y z) (new_at e x z)
                (new_at e y w) (new_at e z w) (new_swap_last n f g k agrees signs e z w)
                (subst (λ t. ThreeTerm e x y w t) (sym q) (with_last e x y w ne))
            | inr nz ↦ elim (cases_eq y (suc n)) [
              | inl q ↦ second_moved_back (new_at e x z) (new_at e w y) (new_at e x w) (new_at e z y) (new_at e x y)
                  (new_at e z w) (new_at e y w) (new_at e y z) (new_swap_last n f g k agrees signs e y w)
                  (new_swap_last n f g k agrees signs e y z)
                  (subst (λ t. ThreeTerm e x z w t) (sym q) (with_last e x z w ne))
              | inr ny ↦ elim (cases_eq x (suc n)) [
                | inl q ↦ first_moved_back (new_at e y z) (new_at e w x) (new_at e y w) (new_at e z x) (new_at e y x)
                    (new_at e z w) (new_at e x y) (new_at e x z) (new_at e x w)
                    (new_swap_last n f g k agrees signs e x w)
                    (new_swap_last n f g k agrees signs e x z) (new_swap_last n f g k agrees signs e x y)
                    (subst (λ t. ThreeTerm e y z w t) (sym q) (with_last e y z w ne))
                | inr nx ↦
                    rw (
                      old_values n f g k agrees signs e x y ne nx ny,
                      old_values n f g k agrees signs e z w ne nz nw,
                      old_values n f g k agrees signs e x z ne nx nz,
                      old_values n f g k agrees signs e y w ne ny nw,
                      old_values n f g k agrees signs e x w ne nx nw,
                      old_values n f g k agrees signs e y z ne ny nz,
                    ) (three e x y z w)
              ]
            ]
          ]
        ]
      ]

      pub three_term_new : HasThreeTermRelations new
      three_term_new [] x y z w = tt
      three_term_new (e ∷ []) x y z w = at_element e x y z w
      three_term_new (e ∷ d ∷ q) x y z w = rw (long x y, long x z, long x w) tt
        where
          long : (x y : ℕ) → new ((e ∷ d ∷ q) ++ x ∷ y ∷ []) ≡ Zero
          long x y = on_tuples_off (suc n) 3 k ((e ∷ d ∷ q) ++ x ∷ y ∷ [])
              (λ t. let l = t.size in absurd (grown q (x ∷ y ∷ []) refl l))
            where
              grown : (q r : List ℕ) → length r ≡ 2 → length ((e ∷ d ∷ q) ++ r) ≡ 3 → ⊥
              grown [] r a b = omega arith
              grown (p ∷ q) r a b = omega (arith, more q r)
                where
                  more : (q r : List ℕ) → length r ≤ length (q ++ r)
                  more [] r = omega arith
                  more (p ∷ q) r = let i = more q r in omega arith
