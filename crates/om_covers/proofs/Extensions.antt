-- The image of an extension under the lift of a signed permutation.
--
-- Main results: an extension has the values of the map on tuples of its elements (extension_value), and its image is an
-- extension of the image (extension_image).
use Rattle.std.proofs.Common.{ℕ, suc, ◌≡◌, List, [], ◌∷◌, length, map, refl, sym, ap, subst, ◌∙◌, ⊎_elim, arith}
use Rattle.om_signs.specs.Sign.{product}
use Rattle.om_subsets.specs.Subsets.{IsSubsetFrom}
use Rattle.om_laws.specs.Reorientation.{turning, signs_product}
use Rattle.om_laws.specs.Sorting.{IsElement, Each, IsTuple}
use Rattle.om_laws.specs.Tuples.{sorted, sort_sign}
use Rattle.om_laws.proofs.MemberLaws.{distinct_or_repeat}
use Rattle.om_laws.proofs.TupleLaws.{repeat_zero, value_alternating}
use Rattle.om_chirotope.specs.Map.{SignMap, chi_of, value_of}
use Rattle.om_chirotope.proofs.Theory.{to_tuple}
use Rattle.om_localize.specs.Extensions.{IsExtension}
use Rattle.om_symmetry.specs.declared.signed_element.SignedElement.{SignedElement}
use Rattle.om_symmetry.specs.Permutations.{IsSignedPermutation, element_at, is_negated_at, acted, lifted}
use Rattle.om_symmetry.proofs.Places.{permutation_length}
use Rattle.om_symmetry.proofs.Images.{acted_sign, tuple_image}
use Rattle.om_symmetry.proofs.Lifts.{lifted_at, lifted_permutation}
use Rattle.om_symmetry.proofs.Axioms.{acted_chirotope}
use Rattle.om_symmetry.proofs.SortedTuples.{sorted_set}
use Rattle.om_covers.proofs.Shorter.{longer}

-- ---- the lift on tuples of 1 to n

module _ (n : ℕ) (w : List SignedElement) (l : length w ≡ n) where
  lifted_tuple : (t : List ℕ) → Each (IsElement n) t → map (element_at (lifted w)) t ≡ map (element_at w) t
  lifted_tuple [] h = refl
  lifted_tuple (x ∷ t) h =
      ap (λ (a : SignedElement). a.element ∷ map (element_at (lifted w)) t) (lifted_at n w l x h.0)
      ∙ ap (λ u. element_at w x ∷ u) (lifted_tuple t h.1)

  lifted_signs : (t : List ℕ) → Each (IsElement n) t → signs_product (turning (is_negated_at (lifted w))) t
      ≡ signs_product (turning (is_negated_at w)) t
  lifted_signs [] h = refl
  lifted_signs (x ∷ t) h =
      ap (λ b. product (turning (λ e. b) x) (signs_product (turning (is_negated_at (lifted w))) t))
      (ap (λ (a : SignedElement). a.negated) (lifted_at n w l x h.0))
      ∙ ap (product (turning (is_negated_at w) x)) (lifted_signs t h.1)

-- ---- extensions

module _ (m x : SignMap) (ext : IsExtension m x) where
  pub extension_value : (t : List ℕ) → IsTuple m.elements m.rank t → value_of x t ≡ value_of m t
  extension_value t h = ⊎_elim
      (λ d. let s = sorted_set m.elements t h.within d in
      ap (product (sort_sign t)) (ext.agrees (sorted t) s.list (s.size ∙ h.size)))
      (λ r. ap (value_of x) r.4 ∙ repeat_zero (value_of x) (value_alternating (chi_of x)) r.2 r.0 r.1 r.3
      ∙ sym (ap (value_of m) r.4 ∙ repeat_zero (value_of m) (value_alternating (chi_of m)) r.2 r.0 r.1 r.3))
      (distinct_or_repeat t)

  one_more : x.elements ≡ suc m.elements
  one_more = ext.elements ∙ omega arith

  module _ (w : List SignedElement) (p : IsSignedPermutation m.elements w) where
    pub lift_permutation : IsSignedPermutation x.elements (lifted w)
    lift_permutation = subst (λ n. IsSignedPermutation n (lifted w)) (sym one_more)
        (lifted_permutation m.elements w p)

    image_agrees : (xs : List ℕ) → IsSubsetFrom 1 m.elements xs → length xs ≡ m.rank
        → chi_of (acted (lifted w) x) xs ≡ chi_of (acted w m) xs
    image_agrees xs h l =
        let t = to_tuple m.elements m.rank xs h l in
        acted_sign x (lifted w) xs (subst (λ n. IsSubsetFrom 1 n xs) (sym one_more) (longer m.elements xs h))
        (l ∙ sym ext.rank)
        ∙ ap (λ s. product s (value_of x (map (element_at (lifted w)) xs)))
        (lifted_signs m.elements w (permutation_length m.elements w p) xs t.within)
        ∙ ap (λ u. product (signs_product (turning (is_negated_at w)) xs) (value_of x u))
        (lifted_tuple m.elements w (permutation_length m.elements w p) xs t.within)
        ∙ ap (product (signs_product (turning (is_negated_at w)) xs))
        (extension_value (map (element_at w) xs) (tuple_image m.elements w p m.rank xs t))
        ∙ sym (acted_sign m w xs h l)

    pub extension_image : IsExtension (acted w m) (acted (lifted w) x)
    extension_image = record {
      rank = ext.rank;
      elements = ext.elements;
      agrees = image_agrees;
      chirotope = acted_chirotope x (lifted w) lift_permutation ext.chirotope;
    }
