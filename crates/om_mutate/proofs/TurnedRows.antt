-- The three-term relations of an element with two others, by its rows with these two, each turned at the place of the
-- other.
--
-- Main results: balanced_rows, the relations with z from those of the rows; rows_balanced, and back; turned_size, the
-- length of a turned row. The relations with x and y themselves hold in any case: always_balanced.
use Rattle.std.specs.Prelude.{ℕ, ◌≡◌, ◌≢◌, ◌+◌, ◌-◌, ◌<◌, List, [], ◌∷◌, length}
use Rattle.std.proofs.Common.{refl, sym, ap, ◌∙◌, subst, inl, inr, arith}
use Rattle.std.proofs.lemmas.Bool.{cases_eq}
use Rattle.std.proofs.lemmas.List.{get_or-set_same, get_or-set_other, length-set}
use Rattle.om_signs.specs.declared.sign.Sign.{Sign}
use Rattle.om_signs.specs.declared.sign.Sign.TheVariants.{Minus, Zero, Plus}
use Rattle.om_signs.specs.Sign.{opposite, product}
use Rattle.om_signs.specs.SignVec.{at, at_element}
use Rattle.om_signs.proofs.SignLaws.{product_zero_left, product-zero, opposite-opposite, product-same}
use Rattle.om_laws.specs.Sorting.{IsElement}
use Rattle.om_laws.specs.Relations.{along}
use Rattle.om_laws.specs.ThreeTerm.{AreBalanced}
use Rattle.om_laws.proofs.TupleLaws.{value_alternating}
use Rattle.om_laws.proofs.BridgeLaws.{length-as_list}
use Rattle.om_laws.proofs.BalancedSigns.{balanced_same}
use Rattle.om_chirotope.specs.Map.{SignMap, chi_of, value_of, cocircuit_vector}
use Rattle.om_chirotope.proofs.Places.{cocircuit_place}
use Rattle.om_wiring.proofs.ListedMaps.{swap_last, last_equal}
use Rattle.om_mutate.specs.Turns.{StaysBalanced, StaysBalancedWith, turned_row}

-- ---- the relations with x and y themselves

-- no relation is asked of x and of y
pub always_balanced : (m : SignMap) (p x y z : ℕ) → (z ≢ x → z ≢ y → ⊥) → StaysBalancedWith m p x y z
always_balanced m p x y z h w i = record { signs = λ zx zy wx wy. absurd (h zx zy) }

opposite_pair : (s t : Sign) → AreBalanced (product (opposite s) (opposite t)) (opposite (product t s)) Zero
opposite_pair Minus Minus = tt
opposite_pair Minus Zero = tt
opposite_pair Minus Plus = tt
opposite_pair Zero Minus = tt
opposite_pair Zero Zero = tt
opposite_pair Zero Plus = tt
opposite_pair Plus Minus = tt
opposite_pair Plus Zero = tt
opposite_pair Plus Plus = tt

opposite_ends : (s t : Sign) → AreBalanced (product (opposite s) (opposite t)) Zero (product (opposite s) t)
opposite_ends Minus Minus = tt
opposite_ends Minus Zero = tt
opposite_ends Minus Plus = tt
opposite_ends Zero Minus = tt
opposite_ends Zero Zero = tt
opposite_ends Zero Plus = tt
opposite_ends Plus Minus = tt
opposite_ends Plus Zero = tt
opposite_ends Plus Plus = tt

module _ (m : SignMap) (p : ℕ) where
  abbrev chi : ℕ → ℕ → Sign
  chi x y = value_of m (p ∷ x ∷ y ∷ [])

  swapped : (x y : ℕ) → value_of m (p ∷ y ∷ x ∷ []) ≡ opposite (value_of m (p ∷ x ∷ y ∷ []))
  swapped x y = swap_last (value_of m) (value_alternating (chi_of m)) p x y

  repeated : (x : ℕ) → value_of m (p ∷ x ∷ x ∷ []) ≡ Zero
  repeated x = last_equal (value_of m) (value_alternating (chi_of m)) p x

  -- the row of x at e
  in_row : (x e : ℕ) → IsElement m.elements e → at_element (cocircuit_vector m (p ∷ x ∷ [])) e
      ≡ value_of m (p ∷ x ∷ e ∷ [])
  in_row x e i = cocircuit_place m (p ∷ x ∷ []) e i.0 i.1

  row_size : (x : ℕ) → length (cocircuit_vector m (p ∷ x ∷ [])) ≡ m.elements
  row_size x = length-as_list m.elements (along (value_of m) (p ∷ x ∷ []))

  -- a turned row has a place for each element
  pub turned_size : (x y : ℕ) (row : List Sign) → row ≡ turned_row (cocircuit_vector m (p ∷ x ∷ [])) y
      → length row ≡ m.elements
  turned_size x y row e = ap length e ∙ length-set _ _ _ ∙ row_size x

  -- the turned row of x at y, and elsewhere
  turned_here : (x y : ℕ) → IsElement m.elements y → at_element (turned_row (cocircuit_vector m (p ∷ x ∷ [])) y) y
      ≡ opposite (value_of m (p ∷ x ∷ y ∷ []))
  turned_here x y i =
      let row = cocircuit_vector m (p ∷ x ∷ []) in
      let s = row_size x in
      let l = i.0 in
      let h = i.1 in
      get_or-set_same row (y - 1) (opposite (at_element row y)) Zero (omega (arith, s, l, h))
      ∙ ap opposite (in_row x y i)

  turned_else : (x y e : ℕ) → IsElement m.elements y → IsElement m.elements e → e ≢ y
      → at_element (turned_row (cocircuit_vector m (p ∷ x ∷ [])) y) e ≡ value_of m (p ∷ x ∷ e ∷ [])
  turned_else x y e iy i ne =
      let row = cocircuit_vector m (p ∷ x ∷ []) in
      let l = i.0 in
      let k = iy.0 in
      let apart : e - 1 ≢ y - 1 = omega (arith, ne, l, k) in
      get_or-set_other row (y - 1) (e - 1) (opposite (at_element row y)) Zero apart ∙ in_row x e i

  module _ (x y z : ℕ) (ix : IsElement m.elements x) (iy : IsElement m.elements y) (iz : IsElement m.elements z)
      (zx : z ≢ x) (zy : z ≢ y) where
    abbrev Turned : ℕ → Type 0
    Turned w =
        AreBalanced
        (product (at_element (turned_row (cocircuit_vector m (p ∷ x ∷ [])) y) y)
        (at_element (cocircuit_vector m (p ∷ z ∷ [])) w))
        (opposite
        (product (at_element (turned_row (cocircuit_vector m (p ∷ x ∷ [])) y) z)
        (at_element (turned_row (cocircuit_vector m (p ∷ y ∷ [])) x) w)))
        (product (at_element (turned_row (cocircuit_vector m (p ∷ x ∷ [])) y) w)
        (at_element (turned_row (cocircuit_vector m (p ∷ y ∷ [])) x) z))

    -- at another element the terms are those of the relation
    first_term : (w : ℕ) → IsElement m.elements w
        → product (at_element (turned_row (cocircuit_vector m (p ∷ x ∷ [])) y) y)
        (at_element (cocircuit_vector m (p ∷ z ∷ [])) w)
        ≡ product (opposite (value_of m (p ∷ x ∷ y ∷ []))) (value_of m (p ∷ z ∷ w ∷ []))
    first_term w iw = product-same (turned_here x y iy) (in_row z w iw)

    second_term : (w : ℕ) → IsElement m.elements w → w ≢ x
        → opposite
        (product (at_element (turned_row (cocircuit_vector m (p ∷ x ∷ [])) y) z)
        (at_element (turned_row (cocircuit_vector m (p ∷ y ∷ [])) x) w))
        ≡ opposite (product (value_of m (p ∷ x ∷ z ∷ [])) (value_of m (p ∷ y ∷ w ∷ [])))
    second_term w iw wx = ap opposite (product-same (turned_else x y z iy iz zy) (turned_else y x w ix iw wx))

    third_term : (w : ℕ) → IsElement m.elements w → w ≢ y
        → product (at_element (turned_row (cocircuit_vector m (p ∷ x ∷ [])) y) w)
        (at_element (turned_row (cocircuit_vector m (p ∷ y ∷ [])) x) z)
        ≡ product (value_of m (p ∷ x ∷ w ∷ [])) (value_of m (p ∷ y ∷ z ∷ []))
    third_term w iw wy = product-same (turned_else x y w iy iw wy) (turned_else y x z ix iz zx)

    balanced_at : (w : ℕ) → IsElement m.elements w → Turned w → StaysBalanced m p x y z w
    balanced_at w iw h =
        record {
          signs = λ _ _ wx wy. balanced_same _ _ _ _ _ _ (sym (first_term w iw)) (sym (second_term w iw wx))
              (sym (third_term w iw wy)) h;
        }

    -- the turned row of one of the two is zero at itself
    own_zero : (u v : ℕ) → IsElement m.elements u → IsElement m.elements v
        → at_element (turned_row (cocircuit_vector m (p ∷ u ∷ [])) v) u ≡ Zero
    own_zero u v iu iv = elim (cases_eq u v) [
      | inl e ↦ ap (at_element (turned_row (cocircuit_vector m (p ∷ u ∷ [])) v)) e ∙ turned_here u v iv
          ∙ ap opposite (ap (λ k. value_of m (p ∷ u ∷ k ∷ [])) (sym e) ∙ repeated u)
      | inr ne ↦ turned_else u v u iv iu ne ∙ repeated u
    ]

    turned_at_y : Turned y
    turned_at_y =
        balanced_same _ _ _ _ _ _
        (product-same (turned_here x y iy) (in_row z y iy ∙ swapped y z))
        (ap opposite
        (product-same refl (own_zero y x iy ix)
        ∙ product-zero (at_element (turned_row (cocircuit_vector m (p ∷ x ∷ [])) y) z)))
        (product-same (turned_here x y iy) (turned_else y x z ix iz zx))
        (opposite_ends (value_of m (p ∷ x ∷ y ∷ [])) (value_of m (p ∷ y ∷ z ∷ [])))

    turned_at_x : Turned x
    turned_at_x =
        balanced_same _ _ _ _ _ _
        (product-same (turned_here x y iy) (in_row z x ix ∙ swapped x z))
        (ap opposite
        (product-same (turned_else x y z iy iz zy)
        (turned_here y x ix ∙ ap opposite (swapped x y) ∙ opposite-opposite (value_of m (p ∷ x ∷ y ∷ [])))))
        (product-same (own_zero x y ix iy) refl ∙ product_zero_left Zero
        (at_element (turned_row (cocircuit_vector m (p ∷ y ∷ [])) x) z) refl)
        (opposite_pair (value_of m (p ∷ x ∷ y ∷ [])) (value_of m (p ∷ x ∷ z ∷ [])))

    turned_at : StaysBalancedWith m p x y z → (w : ℕ) → IsElement m.elements w → Turned w
    turned_at h w iw = elim (cases_eq w y) [
      | inl e ↦ subst Turned (sym e) turned_at_y
      | inr wy ↦ elim (cases_eq w x) [
        | inl e ↦ subst Turned (sym e) turned_at_x
        | inr wx ↦ balanced_same _ _ _ _ _ _ (first_term w iw) (second_term w iw wx) (third_term w iw wy)
            ((h w iw).signs zx zy wx wy)
      ]
    ]

    -- as the code has the rows, and their places counted from 0
    module _ (first second third : List Sign) (e1 : first ≡ turned_row (cocircuit_vector m (p ∷ x ∷ [])) y)
        (e2 : second ≡ turned_row (cocircuit_vector m (p ∷ y ∷ [])) x)
        (e3 : third ≡ cocircuit_vector m (p ∷ z ∷ [])) where
      abbrev Balanced : ℕ → Type 0
      Balanced i = AreBalanced (product (at_element first y) (at third i))
          (opposite (product (at_element first z) (at second i))) (product (at first i) (at_element second z))

      first_size : length first ≡ m.elements
      first_size = turned_size x y first e1

      to_code : (i : ℕ) → Turned (i + 1) → Balanced i
      to_code i h =
          let back : i + 1 - 1 ≡ i = omega arith in
          balanced_same _ _ _ _ _ _
          (product-same (ap (λ r. at_element r y) e1)
          (ap (λ r. at r i) e3 ∙ ap (at (cocircuit_vector m (p ∷ z ∷ []))) (sym back)))
          (ap opposite
          (product-same (ap (λ r. at_element r z) e1)
          (ap (λ r. at r i) e2 ∙ ap (at (turned_row (cocircuit_vector m (p ∷ y ∷ [])) x)) (sym back))))
          (product-same (ap (λ r. at r i) e1 ∙ ap (at (turned_row (cocircuit_vector m (p ∷ x ∷ [])) y)) (sym back))
          (ap (λ r. at_element r z) e2))
          h

      of_code : (i : ℕ) → Balanced i → Turned (i + 1)
      of_code i h =
          let back : i + 1 - 1 ≡ i = omega arith in
          balanced_same _ _ _ _ _ _
          (sym (product-same (ap (λ r. at_element r y) e1)
          (ap (λ r. at r i) e3 ∙ ap (at (cocircuit_vector m (p ∷ z ∷ []))) (sym back))))
          (ap opposite
          (sym (product-same (ap (λ r. at_element r z) e1)
          (ap (λ r. at r i) e2 ∙ ap (at (turned_row (cocircuit_vector m (p ∷ y ∷ [])) x)) (sym back)))))
          (sym (product-same (ap (λ r. at r i) e1 ∙ ap (at (turned_row (cocircuit_vector m (p ∷ x ∷ [])) y)) (sym back))
          (ap (λ r. at_element r z) e2)))
          h

      pub rows_balanced : StaysBalancedWith m p x y z → (i : ℕ) → i < length first → Balanced i
      rows_balanced h i l = let s = first_size in to_code i (turned_at h (i + 1) (omega arith, omega (arith, l, s)))

      pub balanced_rows : ((i : ℕ) → i < length first → Balanced i) → StaysBalancedWith m p x y z
      balanced_rows h w iw =
          let s = first_size in
          let low = iw.0 in
          let high = iw.1 in
          let back : w - 1 + 1 ≡ w = omega (arith, low) in
          balanced_at w iw (subst Turned back (of_code (w - 1) (h (w - 1) (omega (arith, low, high, s)))))
