-- The first signs of an image depend on the first entries of the signed permutation alone.
--
-- Main results: how an image compares with the map, by its first signs (order_behind) and by all (order_of_all), and
-- signs that are the same with one more entry (tied_on).
use Rattle.std.proofs.Common.{ℕ, zero, suc, ◌≡◌, ◌≤◌, List, [], ◌∷◌, ◌++◌, length, map, take, refl, sym}
use Rattle.std.proofs.Common.{ap, ◌∙◌, arith}
use Rattle.std.specs.declared.cmp.Ordering.{Ordering}
use Rattle.std.specs.Ordering.{ordering_then}
use Rattle.std.proofs.lemmas.List.{map-append, get_or-take, length-take-le, length_push, take_at, take_all}
use Rattle.om_signs.specs.declared.sign.Sign.{Sign}
use Rattle.om_signs.specs.Sign.{product}
use Rattle.om_signs.specs.Order.{lexicographic}
use Rattle.om_subsets.specs.Subsets.{choose, IsSubsetFrom}
use Rattle.om_subsets.specs.Reverse.{revlex_subsets}
use Rattle.om_laws.specs.Reorientation.{turning, signs_product}
use Rattle.om_laws.specs.Sorting.{IsElement, Each}
use Rattle.om_chirotope.specs.Map.{SignMap, chi_of, value_of}
use Rattle.om_chirotope.proofs.Theory.{to_tuple}
use Rattle.om_symmetry.specs.declared.signed_element.SignedElement.{SignedElement}
use Rattle.om_symmetry.specs.Permutations.{IsSignedPermutation, signed_at, element_at, is_negated_at, image_value}
use Rattle.om_symmetry.specs.Permutations.{acted, no_element}
use Rattle.om_symmetry.proofs.Places.{permutation_length}
use Rattle.om_symmetry.proofs.Images.{acted_sign}
use Rattle.om_least.specs.Least.{signs_in_reverse}
use Rattle.om_least.specs.Beginnings.{first_signs, first_image_signs}
use Rattle.om_least.proofs.Signs.{append_order}
use Rattle.om_least.proofs.Reverse.{begins_within, same_in_reverse, wider, number_of_signs}

-- ---- values of sets of the first elements

module _ (w : List SignedElement) (k : ℕ) where
  entry_kept : (i : ℕ) → i ≤ k → signed_at (take k w) i ≡ signed_at w i
  entry_kept zero le = refl
  entry_kept (suc i) le = get_or-take k w i no_element (omega arith)

  tuple_kept : (xs : List ℕ) → Each (IsElement k) xs → map (element_at (take k w)) xs ≡ map (element_at w) xs
  tuple_kept [] h = refl
  tuple_kept (x ∷ xs) h =
      ap (λ (a : SignedElement). a.element ∷ map (element_at (take k w)) xs) (entry_kept x h.0.1)
      ∙ ap (λ t. element_at w x ∷ t) (tuple_kept xs h.1)

  signs_kept : (xs : List ℕ) → Each (IsElement k) xs → signs_product (turning (is_negated_at (take k w))) xs
      ≡ signs_product (turning (is_negated_at w)) xs
  signs_kept [] h = refl
  signs_kept (x ∷ xs) h =
      ap (λ (a : SignedElement). product (turning (λ i. a.negated) x)
      (signs_product (turning (is_negated_at (take k w))) xs))
      (entry_kept x h.0.1)
      ∙ ap (product (turning (is_negated_at w) x)) (signs_kept xs h.1)

  pub value_kept : (f : List ℕ → Sign) (xs : List ℕ) → IsSubsetFrom 1 k xs
      → image_value (take k w) f xs ≡ image_value w f xs
  value_kept f xs h =
      let each = (to_tuple k (length xs) xs h refl).within in
      ap (λ s. product s (f (map (element_at (take k w)) xs))) (signs_kept xs each)
      ∙ ap (λ t. product (signs_product (turning (is_negated_at w)) xs) (f t)) (tuple_kept xs each)

-- ---- the first signs of an image

module _ (m : SignMap) (w : List SignedElement) where
  -- the signs of an image at the sets of its first k elements
  image_signs : (k : ℕ) → k ≤ m.elements → length w ≡ m.elements
      → map (chi_of (acted w m)) (revlex_subsets k m.rank) ≡ first_image_signs m (take k w)
  image_signs k le l =
      same_in_reverse k m.rank (chi_of (acted w m)) (image_value (take k w) (value_of m)) (λ xs h s.
      acted_sign m w xs (wider k m.elements xs le h) s ∙ sym (value_kept w k (value_of m) xs h))
      ∙ ap (λ j. map (image_value (take k w) (value_of m)) (revlex_subsets j m.rank))
      (sym (length-take-le k w (omega arith)))

  pub order_of_all : IsSignedPermutation m.elements w
      → lexicographic (signs_in_reverse (acted w m)) (signs_in_reverse m)
      ≡ lexicographic (first_image_signs m w) (first_signs m (length w))
  order_of_all p =
      let l = permutation_length m.elements w p in
      let whole : take m.elements w ≡ w = take_all m.elements w (omega arith) in
      ap (λ signs. lexicographic signs (signs_in_reverse m))
      (image_signs m.elements (omega arith) l ∙ ap (first_image_signs m) whole)
      ∙ ap (λ k. lexicographic (first_image_signs m w) (first_signs m k)) (sym l)

-- the order of what stands behind the first signs of an image and of the map
pub order_behind : (m : SignMap) (w v : List SignedElement) → IsSignedPermutation m.elements v
    → take (length w) v ≡ w → length w ≤ m.elements → (rest : Ordering)
    × (lexicographic (signs_in_reverse (acted v m)) (signs_in_reverse m)
    ≡ ordering_then (lexicographic (first_image_signs m w) (first_signs m (length w))) rest)
order_behind m w v p q le =
    let l = permutation_length m.elements v p in
    let b = begins_within (length w) m.elements m.rank le in
    let split : (f : List ℕ → Sign) → map f (revlex_subsets m.elements m.rank)
    ≡ map f (revlex_subsets (length w) m.rank) ++ map f b.0 =
    (λ f. ap (map f) b.1 ∙ map-append f (revlex_subsets (length w) m.rank) b.0) in
    let image : map (chi_of (acted v m)) (revlex_subsets (length w) m.rank) ≡ first_image_signs m w =
    image_signs m v (length w) le l ∙ ap (first_image_signs m) q in (
      lexicographic (map (chi_of (acted v m)) b.0) (map (chi_of m) b.0),
      ap (λ signs. lexicographic signs (signs_in_reverse m))
          (split (chi_of (acted v m)) ∙ ap (λ signs. signs ++ map (chi_of (acted v m)) b.0) image)
          ∙ ap (lexicographic (first_image_signs m w ++ map (chi_of (acted v m)) b.0)) (split (chi_of m))
          ∙ append_order (first_image_signs m w) (first_signs m (length w)) (map (chi_of (acted v m)) b.0)
          (map (chi_of m) b.0)
          (number_of_signs (length w) m.rank (image_value w (value_of m))
          ∙ sym (number_of_signs (length w) m.rank (chi_of m))),
    )

-- signs that are the same without the last element are so with it
pub tied_on : (m : SignMap) (w : List SignedElement) (a : SignedElement)
    → first_image_signs m w ≡ first_signs m (length w)
    → take (choose (length w) m.rank) (first_image_signs m (w ++ a ∷ []))
    ≡ take (choose (length w) m.rank) (first_signs m (length (w ++ a ∷ [])))
tied_on m w a tied =
    let u = w ++ a ∷ [] in
    let k = length w in
    let l = length_push w a in
    let b = begins_within k (length u) m.rank (omega arith) in
    let front : take k u ≡ w = take_at w (a ∷ []) k refl in
    let cut : (f : List ℕ → Sign) → take (choose k m.rank) (map f (revlex_subsets (length u) m.rank))
    ≡ map f (revlex_subsets k m.rank) =
    (λ f. ap (take (choose k m.rank)) (ap (map f) b.1 ∙ map-append f (revlex_subsets k m.rank) b.0)
    ∙ take_at (map f (revlex_subsets k m.rank)) (map f b.0) (choose k m.rank) (number_of_signs k m.rank f)) in
    cut (image_value u (value_of m))
    ∙ same_in_reverse k m.rank (image_value u (value_of m)) (image_value w (value_of m)) (λ xs h s.
    sym (value_kept u k (value_of m) xs h) ∙ ap (λ v. image_value v (value_of m) xs) front)
    ∙ tied ∙ sym (cut (chi_of m))
