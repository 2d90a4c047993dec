-- The values of an image on tuples.
--
-- Main results: the image of a map on all tuples (acted_tuples), its value on a tuple (acted_value) and its sign at an
-- increasing list (acted_sign); rules that agree on increasing lists give the same signs and maps (same_listed,
-- same_by); a map is that of its own signs (by_own_signs).
use Rattle.std.proofs.Common.{ℕ, ◌≡◌, ◌<◌, List, [], ◌∷◌, ◌++◌, length, map, sym, ap}
use Rattle.std.proofs.Common.{◌∙◌, inl, inr, arith}
use Rattle.std.proofs.lemmas.List.{length-map, get_or-map, ext_get_or}
use Rattle.om_signs.specs.declared.sign.Sign.{Sign}
use Rattle.om_signs.specs.declared.sign.Sign.TheVariants.{Zero}
use Rattle.om_signs.specs.Sign.{product}
use Rattle.om_signs.specs.SignVec.{at}
use Rattle.om_signs.proofs.SignLaws.{product-zero, product-opposite_right}
use Rattle.om_subsets.specs.Subsets.{IsSubsetFrom, all_subsets, subset_at, choose}
use Rattle.om_subsets.proofs.Order.{length-subsets_from, listed}
use Rattle.om_laws.specs.Reorientation.{turning, signs_product}
use Rattle.om_laws.specs.Sorting.{IsElement, Each, IsTuple, IsIncreasing, on_tuples}
use Rattle.om_laws.specs.Tuples.{IsAlternating, value}
use Rattle.om_laws.proofs.SortingLaws.{value_increasing, alternating_equal}
use Rattle.om_laws.proofs.TupleSizes.{is_tuple_cases, element_or_not, on_tuples_at, on_tuples_off}
use Rattle.om_laws.proofs.TupleSizes.{on_tuples_alternating}
use Rattle.om_laws.proofs.TurnedVectors.{signs_product_swap}
use Rattle.om_chirotope.specs.Map.{SignMap, IsMap, chi_of, value_of}
use Rattle.om_denotation.specs.Maps.{map_by}
use Rattle.om_denotation.proofs.ChirotopeBridge.{tuples_of}
use Rattle.om_denotation.proofs.Rules.{rule_at, tuples_by}
use Rattle.om_symmetry.specs.declared.signed_element.SignedElement.{SignedElement}
use Rattle.om_symmetry.specs.Permutations.{IsSignedPermutation, element_at, is_negated_at, relabelled, image_value}
use Rattle.om_symmetry.specs.Permutations.{acted}
use Rattle.om_symmetry.proofs.Places.{element_within, element_off}

-- ---- alternating maps

relabelled_alternating : (rename : ℕ → ℕ) (chi : List ℕ → Sign) → IsAlternating chi
    → IsAlternating (relabelled rename chi)
relabelled_alternating rename chi alt x y [] bs = alt (rename x) (rename y) [] (map rename bs)
relabelled_alternating rename chi alt x y (c ∷ cs) bs =
    relabelled_alternating rename (λ t. chi (rename c ∷ t)) (λ x y cs bs. alt x y (rename c ∷ cs) bs) x y cs bs

image_alternating : (w : List SignedElement) (chi : List ℕ → Sign) → IsAlternating chi
    → IsAlternating (image_value w chi)
image_alternating w chi alt x y cs bs =
    let sigma = turning (is_negated_at w) in
    let psi = relabelled (element_at w) chi in
    ap (λ s. product s (psi (cs ++ y ∷ x ∷ bs))) (signs_product_swap sigma cs bs x y)
    ∙ ap (product (signs_product sigma (cs ++ x ∷ y ∷ bs))) (relabelled_alternating (element_at w) chi alt x y cs bs)
    ∙ product-opposite_right (signs_product sigma (cs ++ x ∷ y ∷ bs)) (psi (cs ++ x ∷ y ∷ bs))

-- ---- tuples of 1 to n

module _ (n : ℕ) (w : List SignedElement) (p : IsSignedPermutation n w) where
  -- the elements that are sent to some of 1 to n are some of 1 to n
  pub element_back : (i : ℕ) → IsElement n (element_at w i) → IsElement n i
  element_back i h = elim (element_or_not n i) [
    | inl k ↦ k
    | inr off ↦ let z = element_off n w p i off in let low = h.0 in absurd (omega arith)
  ]

  pub each_image : (t : List ℕ) → Each (IsElement n) t → Each (IsElement n) (map (element_at w) t)
  each_image [] h = tt
  each_image (x ∷ t) h = (element_within n w p x h.0, each_image t h.1)

  each_back : (t : List ℕ) → Each (IsElement n) (map (element_at w) t) → Each (IsElement n) t
  each_back [] h = tt
  each_back (x ∷ t) h = (element_back x h.0, each_back t h.1)

  -- the old elements of a tuple of 1 to n are a tuple of 1 to n
  pub tuple_image : (r : ℕ) (t : List ℕ) → IsTuple n r t → IsTuple n r (map (element_at w) t)
  tuple_image r t h = record { size = length-map t (element_at w) ∙ h.size; within = each_image t h.within }

  tuple_back : (r : ℕ) (t : List ℕ) → IsTuple n r (map (element_at w) t) → IsTuple n r t
  tuple_back r t h = record { size = sym (length-map t (element_at w)) ∙ h.size; within = each_back t h.within }

  image_tuples : (r : ℕ) (f : List ℕ → Sign) (t : List ℕ)
      → on_tuples n r (image_value w (value f)) t ≡ image_value w (on_tuples n r f) t
  image_tuples r f = alternating_equal (on_tuples n r (image_value w (value f))) (image_value w (on_tuples n r f))
      (on_tuples_alternating n r (image_value w (value f)))
      (image_alternating w (on_tuples n r f) (on_tuples_alternating n r f)) increasing
    where
      increasing : (t : List ℕ) → IsIncreasing t → on_tuples n r (image_value w (value f)) t
          ≡ image_value w (on_tuples n r f) t
      increasing t i = elim (is_tuple_cases n r t) [
        | inl h ↦ on_tuples_at n r (image_value w (value f)) t h.0 ∙ value_increasing (image_value w (value f)) t i
            ∙ sym (ap (product (signs_product (turning (is_negated_at w)) t))
            (on_tuples_at n r f (map (element_at w) t) (tuple_image r t h.0)))
        | inr h ↦ on_tuples_off n r (image_value w (value f)) t h.0
            ∙ sym (ap (product (signs_product (turning (is_negated_at w)) t))
            (on_tuples_off n r f (map (element_at w) t) (λ b. h.0 (tuple_back r t b)))
            ∙ product-zero (signs_product (turning (is_negated_at w)) t))
      ]

-- ---- the image of a map

module _ (m : SignMap) (w : List SignedElement) where
  -- at a set, the sign of the image is the value at the old elements, negated once for each negative among them
  pub acted_sign : (xs : List ℕ) → IsSubsetFrom 1 m.elements xs → length xs ≡ m.rank
      → chi_of (acted w m) xs ≡ image_value w (value_of m) xs
  acted_sign xs h l = rule_at m.rank m.elements (image_value w (value_of m)) xs h l

  module _ (p : IsSignedPermutation m.elements w) where
    pub acted_tuples : (t : List ℕ) → tuples_of (acted w m) t ≡ image_value w (tuples_of m) t
    acted_tuples t = tuples_by m.rank m.elements (image_value w (value_of m)) t
        ∙ image_tuples m.elements w p m.rank (chi_of m) t

    pub acted_value : (t : List ℕ) → IsTuple m.elements m.rank t
        → value_of (acted w m) t ≡ image_value w (value_of m) t
    acted_value t h = sym (on_tuples_at m.elements m.rank (chi_of (acted w m)) t h) ∙ acted_tuples t
        ∙ ap (product (signs_product (turning (is_negated_at w)) t))
        (on_tuples_at m.elements m.rank (chi_of m) (map (element_at w) t) (tuple_image m.elements w p m.rank t h))

-- ---- maps by rules

-- rules that agree on all sets of r of 1 to n give the same list of signs
pub same_listed : (r n : ℕ) (f g : List ℕ → Sign)
    → ((xs : List ℕ) → IsSubsetFrom 1 n xs → length xs ≡ r → f xs ≡ g xs)
    → map f (all_subsets n r) ≡ map g (all_subsets n r)
same_listed r n f g h = ext_get_or Zero (map f (all_subsets n r)) (map g (all_subsets n r))
    (length-map (all_subsets n r) f ∙ sym (length-map (all_subsets n r) g)) (λ j lt.
    let whole = length-map (all_subsets n r) f in
    let size = length-subsets_from 1 n r in
    let few : j < length (all_subsets n r) = omega arith in
    let small : j < choose n r = omega arith in
    let t = listed 1 n r j small in
    get_or-map f (all_subsets n r) j [] Zero few ∙ h (subset_at n r j) t.lawful t.size
    ∙ sym (get_or-map g (all_subsets n r) j [] Zero few))

-- rules that agree on all sets of r of 1 to n give the same map
pub same_by : (r n : ℕ) (f g : List ℕ → Sign)
    → ((xs : List ℕ) → IsSubsetFrom 1 n xs → length xs ≡ r → f xs ≡ g xs) → map_by r n f ≡ map_by r n g
same_by r n f g h = λ i. record { rank = r; elements = n; signs = same_listed r n f g h i }

-- the signs that a map has at all sets, in their order, are its list of signs
pub own_signs : (m : SignMap) → IsMap m → map (chi_of m) (all_subsets m.elements m.rank) ≡ m.signs
own_signs m h = ext_get_or Zero (map (chi_of m) (all_subsets m.elements m.rank)) m.signs
    (length-map (all_subsets m.elements m.rank) (chi_of m) ∙ length-subsets_from 1 m.elements m.rank ∙ sym h.whole)
    (λ j lt.
    let whole = length-map (all_subsets m.elements m.rank) (chi_of m) in
    let size = length-subsets_from 1 m.elements m.rank in
    let few : j < length (all_subsets m.elements m.rank) = omega arith in
    let small : j < choose m.elements m.rank = omega arith in
    get_or-map (chi_of m) (all_subsets m.elements m.rank) j [] Zero few
    ∙ ap (at m.signs) (listed 1 m.elements m.rank j small).place)

-- a map is made by the rule of its own signs
pub by_own_signs : (m : SignMap) → IsMap m → map_by m.rank m.elements (chi_of m) ≡ m
by_own_signs m h = λ i. record { rank = m.rank; elements = m.elements; signs = own_signs m h i }
