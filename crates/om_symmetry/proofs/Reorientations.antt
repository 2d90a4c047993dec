-- Reorientations as images, and the negation of all elements.
--
-- Main results: the image under the negation of a set of elements is the reorientation (acted_reorientation); the
-- negation of all elements takes a map of odd rank to its negative (acted_odd), and leaves one of even rank
-- (acted_even).
use Rattle.std.proofs.Common.{ℕ, ◌≡◌, ◌≢◌, ◌%◌, List, [], ◌∷◌, length, map, refl, sym, ap, ◌∙◌, Bool, true}
use Rattle.om_signs.specs.Sign.{opposite, product}
use Rattle.om_subsets.specs.Subsets.{all_subsets}
use Rattle.om_laws.specs.Reorientation.{turning, signs_product, reoriented}
use Rattle.om_laws.specs.Sorting.{IsElement, Each}
use Rattle.om_chirotope.specs.Map.{SignMap, IsMap, chi_of, value_of, negated, parity_sign}
use Rattle.om_chirotope.proofs.Circuits.{parity_sign-suc}
use Rattle.om_chirotope.proofs.InOrder.{value_in_order}
use Rattle.om_chirotope.proofs.Theory.{to_tuple}
use Rattle.om_denotation.specs.Maps.{map_by}
use Rattle.om_denotation.proofs.ListingSigns.{even_parity, odd_parity}
use Rattle.om_symmetry.specs.declared.signed_element.SignedElement.{SignedElement}
use Rattle.om_symmetry.specs.Permutations.{element_at, is_negated_at, image_value, acted, negated_on, all_negated}
use Rattle.om_symmetry.specs.Permutations.{AreIsomorphic}
use Rattle.om_symmetry.proofs.Products.{stays, reorientation_permutation}
use Rattle.om_symmetry.proofs.Images.{same_by, own_signs, by_own_signs}

-- ---- reorientations

module _ (n : ℕ) (set : ℕ → Bool) where
  stays_tuple : (t : List ℕ) → Each (IsElement n) t → map (element_at (negated_on n set)) t ≡ t
  stays_tuple [] h = refl
  stays_tuple (x ∷ t) h =
      ap (λ (a : SignedElement). a.element ∷ map (element_at (negated_on n set)) t) (stays n set x h.0)
      ∙ ap (λ l. x ∷ l) (stays_tuple t h.1)

  stays_signs : (t : List ℕ) → Each (IsElement n) t
      → signs_product (turning (is_negated_at (negated_on n set))) t ≡ signs_product (turning set) t
  stays_signs [] h = refl
  stays_signs (x ∷ t) h =
      ap (λ b. product (turning (λ e. b) x) (signs_product (turning (is_negated_at (negated_on n set))) t))
      (ap (λ (a : SignedElement). a.negated) (stays n set x h.0))
      ∙ ap (product (turning set x)) (stays_signs t h.1)

-- the image of a map under the reorientation of a set is the map by its signs, reoriented on the set
pub acted_reorientation : (m : SignMap) (set : ℕ → Bool)
    → acted (negated_on m.elements set) m ≡ map_by m.rank m.elements (reoriented set (chi_of m))
acted_reorientation m set = same_by m.rank m.elements (image_value (negated_on m.elements set) (value_of m))
    (reoriented set (chi_of m)) (λ xs h l.
    let t = to_tuple m.elements m.rank xs h l in
    ap (λ s. product s (value_of m (map (element_at (negated_on m.elements set)) xs)))
    (stays_signs m.elements set xs t.within)
    ∙ ap (λ l. product (signs_product (turning set) xs) (value_of m l)) (stays_tuple m.elements set xs t.within)
    ∙ ap (product (signs_product (turning set) xs)) (value_in_order 1 m.elements (chi_of m) xs h))

-- ---- all elements

all_signs : (t : List ℕ) → signs_product (turning (λ i. true)) t ≡ parity_sign (length t)
all_signs [] = refl
all_signs (x ∷ t) = ap opposite (all_signs t) ∙ sym (parity_sign-suc (length t))

module _ (m : SignMap) where
  pub acted_even : IsMap m → m.rank % 2 ≢ 1 → acted (all_negated m.elements) m ≡ m
  acted_even whole even = acted_reorientation m (λ i. true)
      ∙ same_by m.rank m.elements (reoriented (λ i. true) (chi_of m)) (chi_of m)
      (λ xs h l. ap (λ s. product s (chi_of m xs)) (all_signs xs ∙ ap parity_sign l ∙ even_parity m.rank even))
      ∙ by_own_signs m whole

  pub acted_odd : IsMap m → m.rank % 2 ≡ 1 → acted (all_negated m.elements) m ≡ negated m
  acted_odd whole odd = acted_reorientation m (λ i. true)
      ∙ same_by m.rank m.elements (reoriented (λ i. true) (chi_of m)) (λ xs. opposite (chi_of m xs))
      (λ xs h l. ap (λ s. product s (chi_of m xs)) (all_signs xs ∙ ap parity_sign l ∙ odd_parity m.rank odd))
      ∙ (λ i. record { rank = m.rank; elements = m.elements; signs = signs i })
    where
      fused : (xss : List (List ℕ)) → map (λ xs. opposite (chi_of m xs)) xss ≡ map opposite (map (chi_of m) xss)
      fused [] = refl
      fused (xs ∷ xss) = ap (λ l. opposite (chi_of m xs) ∷ l) (fused xss)

      signs : map (λ xs. opposite (chi_of m xs)) (all_subsets m.elements m.rank) ≡ map opposite m.signs
      signs = fused (all_subsets m.elements m.rank) ∙ ap (map opposite) (own_signs m whole)

  -- a map of odd rank is isomorphic to its negative
  pub isomorphic_negative : IsMap m → m.rank % 2 ≡ 1 → AreIsomorphic m (negated m)
  isomorphic_negative whole odd =
      (all_negated m.elements, reorientation_permutation m.elements (λ i. true), acted_odd whole odd)
