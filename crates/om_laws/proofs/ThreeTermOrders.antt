-- The three-term relations of increasing tuples are those of tuples in any order.
--
-- Main results: three_terms_in_order.
-- Reference: Björner, Las Vergnas, Sturmfels, White and Ziegler, Oriented Matroids, chapter 3.
use Rattle.std.specs.Prelude.{ℕ, ◌≡◌, List, [], ◌∷◌, ◌++◌, refl}
use Rattle.std.proofs.Common.{ap, ◌∙◌, ⊎_elim, arith, append_assoc}
use Rattle.om_signs.specs.declared.sign.Sign.{Sign}
use Rattle.om_signs.specs.declared.sign.Sign.TheVariants.{Zero}
use Rattle.om_signs.specs.Sign.{opposite, product}
use Rattle.om_signs.proofs.SignLaws.{product_zero_left, product_zero_right, opposite_zero, product_turned_left}
use Rattle.om_signs.proofs.SignLaws.{product_turned_right, product_turned_both, product_comm, zero_if_opposite}
use Rattle.om_laws.specs.Members.{IsMember}
use Rattle.om_laws.specs.Tuples.{IsAlternating}
use Rattle.om_laws.specs.Sorting.{IsIncreasing}
use Rattle.om_laws.specs.ThreeTerm.{AreBalanced, HasThreeTermRelations}
use Rattle.om_laws.proofs.MemberLaws.{distinct_drop, member_left, member_or_not}
use Rattle.om_laws.proofs.TupleLaws.{neighbours_zero, zero_at_repeat}
use Rattle.om_laws.proofs.SortingLaws.{by_sorting}
use Rattle.om_laws.proofs.BalancedSigns.{balanced_same, balanced_zeros, balanced_last_two, balanced_first_two}
use Rattle.om_laws.proofs.BalancedSigns.{balanced_first_exchanged, balanced_last_exchanged}

-- ---- three signs

twice : (s t : Sign) → product s t ≡ opposite (opposite (product t s))
twice s t = grind arith

-- ---- a map that alternates

module _ (chi : List ℕ → Sign) (alt : IsAlternating chi) where
  abbrev psi : List ℕ → ℕ → ℕ → Sign
  psi p x y = chi (p ++ x ∷ y ∷ [])

  abbrev pub IsRelation : List ℕ → ℕ → ℕ → ℕ → ℕ → Type 0
  IsRelation p a b c d = AreBalanced (product (psi p a b) (psi p c d)) (opposite (product (psi p a c) (psi p b d)))
      (product (psi p a d) (psi p b c))

  psi_swap : (p : List ℕ) (x y : ℕ) → psi p y x ≡ opposite (psi p x y)
  psi_swap p x y = alt x y p []

  psi_same : (p : List ℕ) (x : ℕ) → psi p x x ≡ Zero
  psi_same p x = neighbours_zero chi alt x p []

  psi_first : (p : List ℕ) (x y : ℕ) → IsMember x p → psi p x y ≡ Zero
  psi_first p x y m =
      zero_at_repeat chi alt (p ++ x ∷ y ∷ []) (λ r. (distinct_drop p x (y ∷ []) r).1 (member_left x p (y ∷ []) m))

  psi_second : (p : List ℕ) (x y : ℕ) → IsMember y p → psi p x y ≡ Zero
  psi_second p x y m = zero_if_opposite (psi p x y) (psi p y x) (psi_swap p y x) (psi_first p y x m)

  swap_first : (p : List ℕ) (a b c d : ℕ) → IsRelation p a b c d → IsRelation p b a c d
  swap_first p a b c d h = balanced_same _ _ _ _ _ _
      (product_turned_left (psi p a b) (psi p b a) (psi p c d) (psi_swap p a b))
      (ap opposite (product_comm (psi p b c) (psi p a d)))
      (twice (psi p b d) (psi p a c))
      (balanced_last_exchanged (product (psi p a b) (psi p c d)) (opposite (product (psi p a c) (psi p b d)))
      (product (psi p a d) (psi p b c)) h)

  swap_middle : (p : List ℕ) (a b c d : ℕ) → IsRelation p a b c d → IsRelation p a c b d
  swap_middle p a b c d h = balanced_same _ _ _ _ _ _
      (twice (psi p a c) (psi p b d) ∙ ap (λ s. opposite (opposite s)) (product_comm (psi p b d) (psi p a c)))
      refl
      (product_turned_right (psi p a d) (psi p b c) (psi p c b) (psi_swap p b c))
      (balanced_first_exchanged (product (psi p a b) (psi p c d)) (opposite (product (psi p a c) (psi p b d)))
      (product (psi p a d) (psi p b c)) h)

  swap_last : (p : List ℕ) (a b c d : ℕ) → IsRelation p a b c d → IsRelation p a b d c
  swap_last p a b c d h = balanced_same _ _ _ _ _ _
      (product_turned_right (psi p a b) (psi p c d) (psi p d c) (psi_swap p c d))
      refl
      (twice (psi p a c) (psi p b d) ∙ ap (λ s. opposite (opposite s)) (product_comm (psi p b d) (psi p a c)))
      (balanced_last_exchanged (product (psi p a b) (psi p c d)) (opposite (product (psi p a c) (psi p b d)))
      (product (psi p a d) (psi p b c)) h)

  repeat_first : (p : List ℕ) (a c d : ℕ) → IsRelation p a a c d
  repeat_first p a c d = balanced_same Zero (opposite (product (psi p a c) (psi p a d)))
      (product (psi p a c) (psi p a d)) _ _ _
      (product_zero_left (psi p a a) (psi p c d) (psi_same p a)) refl (product_comm (psi p a d) (psi p a c))
      (balanced_last_two (product (psi p a c) (psi p a d)))

  repeat_middle : (p : List ℕ) (a b d : ℕ) → IsRelation p a b b d
  repeat_middle p a b d = balanced_same (product (psi p a b) (psi p b d)) (opposite (product (psi p a b) (psi p b d)))
      Zero _ _ _
      refl refl (product_zero_right (psi p a d) (psi p b b) (psi_same p b))
      (balanced_first_two (product (psi p a b) (psi p b d)))

  repeat_last : (p : List ℕ) (a b c : ℕ) → IsRelation p a b c c
  repeat_last p a b c = balanced_same Zero (opposite (product (psi p a c) (psi p b c)))
      (product (psi p a c) (psi p b c)) _ _ _
      (product_zero_right (psi p a b) (psi p c c) (psi_same p c)) refl refl
      (balanced_last_two (product (psi p a c) (psi p b c)))

  -- the relation of the four elements of a list
  abbrev OfList : List ℕ → List ℕ → Type 0
  OfList p (a ∷ b ∷ c ∷ d ∷ []) = IsRelation p a b c d
  OfList p _ = Unit {0}

  list_swap : (p : List ℕ) (x y : ℕ) (cs bs : List ℕ) → OfList p (cs ++ x ∷ y ∷ bs) → OfList p (cs ++ y ∷ x ∷ bs)
  list_swap p x y [] [] h = tt
  list_swap p x y [] (c ∷ []) h = tt
  list_swap p x y [] (c ∷ d ∷ []) h = swap_first p x y c d h
  list_swap p x y [] (c ∷ d ∷ e ∷ bs) h = tt
  list_swap p x y (a ∷ []) [] h = tt
  list_swap p x y (a ∷ []) (d ∷ []) h = swap_middle p a x y d h
  list_swap p x y (a ∷ []) (d ∷ e ∷ bs) h = tt
  list_swap p x y (a ∷ b ∷ []) [] h = swap_last p a b x y h
  list_swap p x y (a ∷ b ∷ []) (e ∷ bs) h = tt
  list_swap p x y (a ∷ b ∷ c ∷ []) bs h = tt
  list_swap p x y (a ∷ b ∷ c ∷ e ∷ []) bs h = tt
  list_swap p x y (a ∷ b ∷ c ∷ e ∷ f ∷ cs) bs h = tt

  list_repeat : (p : List ℕ) (x : ℕ) (cs bs : List ℕ) → OfList p (cs ++ x ∷ x ∷ bs)
  list_repeat p x [] [] = tt
  list_repeat p x [] (c ∷ []) = tt
  list_repeat p x [] (c ∷ d ∷ []) = repeat_first p x c d
  list_repeat p x [] (c ∷ d ∷ e ∷ bs) = tt
  list_repeat p x (a ∷ []) [] = tt
  list_repeat p x (a ∷ []) (d ∷ []) = repeat_middle p a x d
  list_repeat p x (a ∷ []) (d ∷ e ∷ bs) = tt
  list_repeat p x (a ∷ b ∷ []) [] = repeat_last p a b x
  list_repeat p x (a ∷ b ∷ []) (e ∷ bs) = tt
  list_repeat p x (a ∷ b ∷ c ∷ []) bs = tt
  list_repeat p x (a ∷ b ∷ c ∷ e ∷ []) bs = tt
  list_repeat p x (a ∷ b ∷ c ∷ e ∷ f ∷ cs) bs = tt

  -- the relations of D increasing: of an increasing tuple p, and four increasing elements off it
  abbrev pub HasIncreasingThreeTerms : Type 0
  HasIncreasingThreeTerms = (p : List ℕ) (a b c d : ℕ) → IsIncreasing p → IsIncreasing (a ∷ b ∷ c ∷ d ∷ [])
      → (IsMember a p → ⊥) → (IsMember b p → ⊥) → (IsMember c p → ⊥) → (IsMember d p → ⊥) → IsRelation p a b c d

  inside_a : (p : List ℕ) (a b c d : ℕ) → IsMember a p → IsRelation p a b c d
  inside_a p a b c d m = balanced_zeros _ _ _ (product_zero_left _ _ (psi_first p a b m))
      (opposite_zero _ (product_zero_left _ _ (psi_first p a c m))) (product_zero_left _ _ (psi_first p a d m))

  inside_b : (p : List ℕ) (a b c d : ℕ) → IsMember b p → IsRelation p a b c d
  inside_b p a b c d m = balanced_zeros _ _ _ (product_zero_left _ _ (psi_second p a b m))
      (opposite_zero _ (product_zero_right _ _ (psi_first p b d m))) (product_zero_right _ _ (psi_first p b c m))

  inside_c : (p : List ℕ) (a b c d : ℕ) → IsMember c p → IsRelation p a b c d
  inside_c p a b c d m = balanced_zeros _ _ _ (product_zero_right _ _ (psi_first p c d m))
      (opposite_zero _ (product_zero_left _ _ (psi_second p a c m))) (product_zero_right _ _ (psi_second p b c m))

  inside_d : (p : List ℕ) (a b c d : ℕ) → IsMember d p → IsRelation p a b c d
  inside_d p a b c d m = balanced_zeros _ _ _ (product_zero_right _ _ (psi_second p c d m))
      (opposite_zero _ (product_zero_right _ _ (psi_second p b d m))) (product_zero_left _ _ (psi_second p a d m))

  module _ (rel : HasIncreasingThreeTerms) where
    four : (p : List ℕ) → IsIncreasing p → (a b c d : ℕ) → IsIncreasing (a ∷ b ∷ c ∷ d ∷ []) → IsRelation p a b c d
    four p i a b c d j =
        ⊎_elim (λ m. inside_a p a b c d m) (λ na.
        ⊎_elim (λ m. inside_b p a b c d m) (λ nb.
        ⊎_elim (λ m. inside_c p a b c d m) (λ nc.
        ⊎_elim (λ m. inside_d p a b c d m) (λ nd. rel p a b c d i j na nb nc nd)
        (member_or_not d p)) (member_or_not c p)) (member_or_not b p)) (member_or_not a p)

    list_increasing : (p : List ℕ) → IsIncreasing p → (xs : List ℕ) → IsIncreasing xs → OfList p xs
    list_increasing p i [] j = tt
    list_increasing p i (a ∷ []) j = tt
    list_increasing p i (a ∷ b ∷ []) j = tt
    list_increasing p i (a ∷ b ∷ c ∷ []) j = tt
    list_increasing p i (a ∷ b ∷ c ∷ d ∷ []) j = four p i a b c d j
    list_increasing p i (a ∷ b ∷ c ∷ d ∷ e ∷ xs) j = tt

    of_increasing : (p : List ℕ) → IsIncreasing p → (a b c d : ℕ) → IsRelation p a b c d
    of_increasing p i a b c d =
        by_sorting (OfList p) (list_swap p) (list_repeat p) (list_increasing p i) (a ∷ b ∷ c ∷ d ∷ [])

    tuple_turned : (x y : ℕ) (cs bs : List ℕ) (u v : ℕ)
        → psi (cs ++ y ∷ x ∷ bs) u v ≡ opposite (psi (cs ++ x ∷ y ∷ bs) u v)
    tuple_turned x y cs bs u v =
        rw (append_assoc cs (y ∷ x ∷ bs) (u ∷ v ∷ []), append_assoc cs (x ∷ y ∷ bs) (u ∷ v ∷ []))
        (alt x y cs (bs ++ u ∷ v ∷ []))

    tuple_repeat : (x : ℕ) (cs bs : List ℕ) (u v : ℕ) → psi (cs ++ x ∷ x ∷ bs) u v ≡ Zero
    tuple_repeat x cs bs u v =
        rw (append_assoc cs (x ∷ x ∷ bs) (u ∷ v ∷ [])) (neighbours_zero chi alt x cs (bs ++ u ∷ v ∷ []))

    -- an alternating map with the three-term relations of increasing tuples has those of all tuples
    pub three_terms_in_order : HasThreeTermRelations chi
    three_terms_in_order p = by_sorting (λ p. (a b c d : ℕ) → IsRelation p a b c d)
        (λ x y cs bs h a b c d. balanced_same _ _ _ _ _ _
        (product_turned_both _ _ _ _ (tuple_turned x y cs bs a b) (tuple_turned x y cs bs c d))
        (ap opposite (product_turned_both _ _ _ _ (tuple_turned x y cs bs a c) (tuple_turned x y cs bs b d)))
        (product_turned_both _ _ _ _ (tuple_turned x y cs bs a d) (tuple_turned x y cs bs b c))
        (h a b c d))
        (λ x cs bs a b c d. balanced_zeros _ _ _
        (product_zero_left _ _ (tuple_repeat x cs bs a b))
        (opposite_zero _ (product_zero_left _ _ (tuple_repeat x cs bs a c)))
        (product_zero_left _ _ (tuple_repeat x cs bs a d)))
        of_increasing p
