-- The step for simple chirotopes of rank 3.
--
-- Main results: an extension is simple where the map is and its signature isn't zero on a circle (simple_up); the
-- simple chirotopes on n + 1 elements are, up to isomorphism, such extensions of those on n (simple_step).
use Rattle.std.proofs.Common.{ℕ, suc, ◌≡◌, ◌+◌, ◌≤◌, List, [], ◌∷◌, map, refl, sym, ap, subst, ◌∙◌, inl, inr, arith}
use Rattle.std.proofs.lemmas.Bool.{cases_eq}
use Rattle.om_signs.specs.declared.sign.Sign.{Sign}
use Rattle.om_signs.specs.declared.sign.Sign.TheVariants.{Minus, Zero}
use Rattle.om_signs.specs.Sign.{opposite, product}
use Rattle.om_signs.specs.SignVec.{at}
use Rattle.om_signs.proofs.SignLaws.{product-zero}
use Rattle.om_subsets.specs.Subsets.{rank_of}
use Rattle.om_laws.specs.Sorting.{IsElement}
use Rattle.om_laws.specs.Tuples.{sorted, sort_sign}
use Rattle.om_laws.proofs.TupleSizes.{is_tuple_cases, on_tuples_at, on_tuples_off}
use Rattle.om_chirotope.specs.Map.{SignMap, IsLedBy}
use Rattle.om_matroid.specs.Bases.{IsIndependent}
use Rattle.om_minors.specs.Minors.{deleted}
use Rattle.om_localize.specs.Circles.{IsZeroOn, pair_sign, signs_on_circle}
use Rattle.om_localize.specs.Extensions.{IsExtension, signature_of}
use Rattle.om_symmetry.specs.declared.signed_element.SignedElement.{SignedElement}
use Rattle.om_symmetry.specs.Permutations.{IsSignedPermutation, acted}
use Rattle.om_symmetry.proofs.Axioms.{acted_chirotope}
use Rattle.om_symmetry.proofs.Groups.{isomorphic_self}
use Rattle.om_covers.specs.Classes.{IsSimple, IsSimpleChirotope}
use Rattle.om_covers.specs.Covers.{IsSimpleHalf}
use Rattle.om_covers.proofs.Simple.{acted_simple}
use Rattle.om_covers.proofs.Exchanged.{some_basis_before_last}
use Rattle.om_covers.proofs.Deletions.{deletion_axioms, is_extension, deletion_simple}
use Rattle.om_covers.proofs.Signatures.{apart_of_basis, basis_of_apart, basis_up, rank_three}
use Rattle.om_covers.proofs.NegatedLast.{led_or_zero, led_negated, last_negated, negation_permutation}
use Rattle.om_covers.proofs.NegatedLast.{negated_extension, negated_signature}
use Rattle.om_covers.proofs.Covers.{HasBelow, HasTried, IsStep}

-- ---- extensions of a map

module _ (c y : SignMap) (r : c.rank ≡ 3) (ext : IsExtension c y) where
  one_more : y.elements ≡ suc c.elements
  one_more = ext.elements ∙ omega arith

  pub simple_up : IsSimple c → ((f : ℕ) → IsElement c.elements f
      → IsZeroOn (signs_on_circle c.elements (signature_of c.elements y) f) → ⊥) → IsSimple y
  simple_up simple apart e f low lt high = elim (cases_eq f (suc c.elements)) [
    | inl q ↦
        let within : IsElement c.elements e = (low, omega arith) in
        subst (λ k. IsIndependent y (e ∷ k ∷ [])) (sym q) (basis_of_apart c y r ext e within (apart e within))
    | inr d ↦
        let more = one_more in
        let b = simple e f low lt (omega arith) in
        (b.0, basis_up c y ext b.0 b.1, b.2)
  ]

  apart_of_simple : IsSimple y → (f : ℕ) → IsElement c.elements f
      → IsZeroOn (signs_on_circle c.elements (signature_of c.elements y) f) → ⊥
  apart_of_simple simple f h =
      let more = one_more in
      let high = h.1 in
      apart_of_basis c y r ext f high (simple f (suc c.elements) h.0 (omega arith) (omega arith))

-- a signature that is zero is zero on each circle
zero_circles : (n : ℕ) (signs : List Sign) → ((k : ℕ) → at signs k ≡ Zero) → (f : ℕ)
    → IsZeroOn (signs_on_circle n signs f)
zero_circles n signs h f g = elim (is_tuple_cases n 2 (f ∷ g ∷ [])) [
  | inl t ↦ on_tuples_at n 2 (pair_sign n signs) (f ∷ g ∷ []) t.0
      ∙ ap (product (sort_sign (f ∷ g ∷ []))) (h (rank_of n (sorted (f ∷ g ∷ []))))
      ∙ product-zero (sort_sign (f ∷ g ∷ []))
  | inr t ↦ on_tuples_off n 2 (pair_sign n signs) (f ∷ g ∷ []) t.0
]

module _ (c y : SignMap) (r : c.rank ≡ 3) (some : 1 ≤ c.elements) (ext : IsExtension c y) (simple : IsSimple y) where
  -- the extension itself
  as_it_is : IsLedBy Minus (signature_of c.elements y) → HasTried (IsSimpleHalf c.elements) c.elements c y
  as_it_is led = record {
    other = y;
    extends = ext;
    tried = record { led = led; apart = apart_of_simple c y r ext simple };
    isomorphic = isomorphic_self y ext.chirotope.whole;
  }

  -- the extension with its new element negated
  turned : IsLedBy Minus (map opposite (signature_of c.elements y))
      → HasTried (IsSimpleHalf c.elements) c.elements c y
  turned led = record {
    other = acted (last_negated c y ext) y;
    extends = negated_extension c y ext;
    tried = record {
      led = subst (IsLedBy Minus) (sym (negated_signature c y ext (rank_three c y r ext))) led;
      apart = apart_of_simple c (acted (last_negated c y ext) y) r (negated_extension c y ext)
          (acted_simple y (last_negated c y ext) (negation_permutation c y ext) simple);
    };
    isomorphic = (last_negated c y ext, negation_permutation c y ext, refl);
  }

  pub simple_tried : HasTried (IsSimpleHalf c.elements) c.elements c y
  simple_tried = elim (led_or_zero (signature_of c.elements y)) [
    | inl minus ↦ as_it_is minus
    | inr k ↦ elim k [
      | inl plus ↦ turned (led_negated (signature_of c.elements y) plus)
      | inr none ↦ absurd (apart_of_simple c y r ext simple 1 (omega arith, some)
          (zero_circles c.elements (signature_of c.elements y) none 1))
    ]
  ]

-- ---- the step

simple_image : (n : ℕ) (m : SignMap) (w : List SignedElement) → IsSignedPermutation m.elements w → IsSimpleChirotope n m
    → IsSimpleChirotope n (acted w m)
simple_image n m w p h = record {
  axioms = acted_chirotope m w p h.axioms;
  rank = h.rank;
  elements = h.elements;
  simple = acted_simple m w p h.simple;
}

simple_below : (n : ℕ) → 3 ≤ n → (m : SignMap) → IsSimpleChirotope (n + 1) m → HasBelow (IsSimpleChirotope n) m
simple_below n large m h =
    let r = h.rank in
    let e = h.elements in
    let b = some_basis_before_last m h.axioms (omega arith) in
    let x = acted b.0 m in
    let om = acted_chirotope m b.0 b.1 h.axioms in
    let several : 2 ≤ m.elements = omega arith in
    record {
      by = b.0;
      permutation = b.1;
      below = deleted m.elements x;
      member = record {
        axioms = deletion_axioms x several om b.2;
        rank = r;
        elements = omega arith;
        simple = deletion_simple x several om b.2 (acted_simple m b.0 b.1 h.simple);
      };
      extends = is_extension x several om b.2;
    }

-- if 3 ≤ n, IsSimpleHalf gives a step from the simple chirotopes on n elements to those on n + 1
pub simple_step : (n : ℕ) → 3 ≤ n → IsStep (IsSimpleChirotope n) (IsSimpleChirotope (n + 1)) (IsSimpleHalf n) n
simple_step n large = record {
  image = simple_image (n + 1);
  below = simple_below n large;
  tried = λ c y p ext q. subst (λ k. HasTried (IsSimpleHalf k) k c y) p.elements
      (simple_tried c y p.rank (let e = p.elements in omega arith) ext q.simple);
  member = λ c y p ext t. record {
    axioms = ext.chirotope;
    rank = ext.rank ∙ p.rank;
    elements = ext.elements ∙ ap (λ k. k + 1) p.elements;
    simple = simple_up c y p.rank ext p.simple
        (subst (λ k. IsSimpleHalf k (signature_of k y)) (sym p.elements) t).apart;
  };
}
