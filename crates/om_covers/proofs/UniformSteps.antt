-- The step for uniform chirotopes of rank 3.
--
-- Main results: the signature of a uniform extension has no zero (uniform_signature), and an extension of a uniform map
-- by such a signature is uniform (uniform_up); the uniform chirotopes on n + 1 elements are, up to isomorphism, such
-- extensions of those on n (uniform_step).
use Rattle.std.proofs.Common.{ℕ, suc, ◌≡◌, ◌≢◌, ◌+◌, ◌<◌, ◌≤◌, List, [], ◌∷◌, ◌++◌, length, map, refl, sym, ap}
use Rattle.std.proofs.Common.{subst, ◌∙◌, inl, inr, ⊎_elim, arith}
use Rattle.std.specs.List.{All}
use Rattle.std.proofs.lemmas.List.{get_or-map, length-map}
use Rattle.om_signs.specs.declared.sign.Sign.{Sign}
use Rattle.om_signs.specs.declared.sign.Sign.TheVariants.{Minus, Zero}
use Rattle.om_signs.specs.Sign.{opposite}
use Rattle.om_signs.specs.SignVec.{at}
use Rattle.om_subsets.specs.Subsets.{IsSubsetFrom, IsMember, all_subsets, subset_at, choose, rank_of}
use Rattle.om_subsets.proofs.Order.{listed, length-subsets_from, rank_from-lt}
use Rattle.om_subsets.proofs.Statements.{subset_is_increasing}
use Rattle.om_laws.proofs.MemberLaws.{member_or_not}
use Rattle.om_chirotope.specs.Map.{SignMap, chi_of, IsLedBy}
use Rattle.om_minors.specs.Minors.{deleted}
use Rattle.om_localize.specs.Extensions.{IsExtension, signature_of}
use Rattle.om_localize.proofs.SignatureCircles.{pair_list, table_sign}
use Rattle.om_symmetry.specs.declared.signed_element.SignedElement.{SignedElement}
use Rattle.om_symmetry.specs.Permutations.{IsSignedPermutation, acted}
use Rattle.om_symmetry.proofs.Axioms.{acted_chirotope}
use Rattle.om_symmetry.proofs.Groups.{isomorphic_self}
use Rattle.om_covers.specs.Classes.{IsUniform, IsUniformChirotope}
use Rattle.om_covers.specs.Covers.{IsUniformHalf}
use Rattle.om_covers.proofs.Shorter.{shorter}
use Rattle.om_covers.proofs.Simple.{acted_uniform}
use Rattle.om_covers.proofs.Exchanged.{some_basis_before_last}
use Rattle.om_covers.proofs.Deletions.{deletion_axioms, is_extension, deletion_uniform}
use Rattle.om_covers.proofs.Signatures.{rank_three}
use Rattle.om_covers.proofs.NegatedLast.{led_or_zero, led_negated, last_negated, negation_permutation}
use Rattle.om_covers.proofs.NegatedLast.{negated_extension, negated_signature}
use Rattle.om_covers.proofs.Covers.{HasBelow, HasTried, IsStep}

-- no sign is zero
abbrev AreNonzero : List Sign → Type 0
AreNonzero signs = All (λ s. s ≢ Zero) signs

module _ (c y : SignMap) (r : c.rank ≡ 3) (ext : IsExtension c y) where
  one_more : y.elements ≡ suc c.elements
  one_more = ext.elements ∙ omega arith

  -- the sign of a pair with the new element
  abbrev new_sign : List ℕ → Sign
  new_sign pair = chi_of y (pair ++ (c.elements + 1) ∷ [])

  size : length (signature_of c.elements y) ≡ choose c.elements 2
  size = length-map (all_subsets c.elements 2) new_sign ∙ length-subsets_from 1 c.elements 2

  pair_nonzero : IsUniform y → (pair : List ℕ) → IsSubsetFrom 1 c.elements pair → length pair ≡ 2
      → new_sign pair ≢ Zero
  pair_nonzero uniform (a ∷ b ∷ []) h l =
      let k = (subset_is_increasing c.elements (a ∷ b ∷ [])).0 h in
      let more = one_more in
      let low = (k.1 a (inl refl)).0 in
      let high = (k.1 b (inr (inl refl))).1 in
      let lt = k.0.0 in
      let list : IsSubsetFrom 1 y.elements (a ∷ b ∷ (c.elements + 1) ∷ []) =
      (subset_is_increasing y.elements (a ∷ b ∷ (c.elements + 1) ∷ [])).1 (
        (lt, (omega arith, tt)),
        λ e k. ⊎_elim (λ q. (omega arith, omega arith))
            (λ j. ⊎_elim (λ q. (omega arith, omega arith))
            (λ i. ⊎_elim (λ q. (omega arith, omega arith)) (λ none. absurd none) i) j) k,
      ) in
      uniform (a ∷ b ∷ (c.elements + 1) ∷ []) list (sym (rank_three c y r ext))
  pair_nonzero uniform [] h l = absurd (omega arith)
  pair_nonzero uniform (a ∷ []) h l = absurd (omega arith)
  pair_nonzero uniform (a ∷ b ∷ d ∷ e) h l = absurd (omega arith)

  pub uniform_signature : IsUniform y → AreNonzero (signature_of c.elements y)
  uniform_signature uniform k d lt =
      let whole = size in
      let number = length-subsets_from 1 c.elements 2 in
      let small : k < choose c.elements 2 = omega arith in
      let few : k < length (all_subsets c.elements 2) = omega arith in
      let t = listed 1 c.elements 2 k small in
      subst (λ s. s ≢ Zero) (sym (get_or-map new_sign (all_subsets c.elements 2) k [] d few))
      (pair_nonzero uniform (subset_at c.elements 2 k) t.lawful t.size)

  -- the sign at the place of a pair
  placed : AreNonzero (signature_of c.elements y) → (a b : ℕ) → 1 ≤ a → a < b → b ≤ c.elements
      → new_sign (a ∷ b ∷ []) ≢ Zero
  placed nonzero a b low lt high =
      let list = pair_list c.elements a b low lt high in
      let place = rank_from-lt 1 c.elements (a ∷ b ∷ []) list in
      let whole = size in
      subst (λ s. s ≢ Zero) (table_sign c.elements 2 new_sign (a ∷ b ∷ []) list refl)
      (nonzero (rank_of c.elements (a ∷ b ∷ [])) Zero (omega arith))

  new_nonzero : AreNonzero (signature_of c.elements y) → (xs : List ℕ) → IsSubsetFrom 1 y.elements xs
      → length xs ≡ y.rank → IsMember (suc c.elements) xs → chi_of y xs ≢ Zero
  new_nonzero nonzero (a ∷ b ∷ d ∷ []) h l last =
      let more = one_more in
      let k = (subset_is_increasing y.elements (a ∷ b ∷ d ∷ [])).0 h in
      let first = k.0.0 in
      let second = k.0.1.0 in
      let low = (k.1 a (inl refl)).0 in
      let high = (k.1 d (inr (inr (inl refl)))).1 in
      let is_last : d ≡ c.elements + 1 = ⊎_elim
      (λ q. absurd (omega arith))
      (λ j. ⊎_elim (λ q. absurd (omega arith)) (λ i. ⊎_elim (λ q. omega arith) (λ none. absurd none) i) j)
      last in
      subst (λ e. chi_of y (a ∷ b ∷ e ∷ []) ≢ Zero) (sym is_last) (placed nonzero a b low first (omega arith))
  new_nonzero nonzero [] h l last = absurd last
  new_nonzero nonzero (a ∷ []) h l last = let three = rank_three c y r ext in absurd (omega arith)
  new_nonzero nonzero (a ∷ b ∷ []) h l last = let three = rank_three c y r ext in absurd (omega arith)
  new_nonzero nonzero (a ∷ b ∷ d ∷ e ∷ es) h l last = let three = rank_three c y r ext in absurd (omega arith)

  pub uniform_up : IsUniform c → AreNonzero (signature_of c.elements y) → IsUniform y
  uniform_up uniform nonzero xs h l z = elim (member_or_not (suc c.elements) xs) [
    | inl last ↦ new_nonzero nonzero xs h l last z
    | inr off ↦
        let old = shorter c.elements xs (subst (λ n. IsSubsetFrom 1 n xs) one_more h) off in
        uniform xs old (l ∙ ext.rank) (sym (ext.agrees xs old (l ∙ ext.rank)) ∙ z)
  ]

module _ (c y : SignMap) (r : c.rank ≡ 3) (some : 2 ≤ c.elements) (ext : IsExtension c y) (uniform : IsUniform y) where
  -- the extension itself
  as_it_is : IsLedBy Minus (signature_of c.elements y) → HasTried IsUniformHalf c.elements c y
  as_it_is led = record {
    other = y;
    extends = ext;
    tried = record { led = led; nonzero = uniform_signature c y r ext uniform };
    isomorphic = isomorphic_self y ext.chirotope.whole;
  }

  -- the extension with its new element negated
  turned : IsLedBy Minus (map opposite (signature_of c.elements y)) → HasTried IsUniformHalf c.elements c y
  turned led = record {
    other = acted (last_negated c y ext) y;
    extends = negated_extension c y ext;
    tried = record {
      led = subst (IsLedBy Minus) (sym (negated_signature c y ext (rank_three c y r ext))) led;
      nonzero = uniform_signature c (acted (last_negated c y ext) y) r (negated_extension c y ext)
          (acted_uniform y (last_negated c y ext) (negation_permutation c y ext) uniform);
    };
    isomorphic = (last_negated c y ext, negation_permutation c y ext, refl);
  }

  not_zero : ((k : ℕ) → at (signature_of c.elements y) k ≡ Zero) → ⊥
  not_zero none =
      let list = pair_list c.elements 1 2 (omega arith) (omega arith) some in
      let place = rank_from-lt 1 c.elements (1 ∷ 2 ∷ []) list in
      let whole = size c y r ext in
      uniform_signature c y r ext uniform 0 Zero (omega arith) (none 0)

  pub uniform_tried : HasTried IsUniformHalf c.elements c y
  uniform_tried = elim (led_or_zero (signature_of c.elements y)) [
    | inl minus ↦ as_it_is minus
    | inr k ↦ elim k [
      | inl plus ↦ turned (led_negated (signature_of c.elements y) plus)
      | inr none ↦ absurd (not_zero none)
    ]
  ]

-- ---- the step

uniform_image : (n : ℕ) (m : SignMap) (w : List SignedElement) → IsSignedPermutation m.elements w
    → IsUniformChirotope n m → IsUniformChirotope n (acted w m)
uniform_image n m w p h = record {
  axioms = acted_chirotope m w p h.axioms;
  rank = h.rank;
  elements = h.elements;
  uniform = acted_uniform m w p h.uniform;
}

uniform_below : (n : ℕ) → 3 ≤ n → (m : SignMap) → IsUniformChirotope (n + 1) m → HasBelow (IsUniformChirotope n) m
uniform_below n large m h =
    let r = h.rank in
    let e = h.elements in
    let b = some_basis_before_last m h.axioms (omega arith) in
    let x = acted b.0 m in
    let om = acted_chirotope m b.0 b.1 h.axioms in
    let several : 2 ≤ m.elements = omega arith in
    record {
      by = b.0;
      permutation = b.1;
      below = deleted m.elements x;
      member = record {
        axioms = deletion_axioms x several om b.2;
        rank = r;
        elements = omega arith;
        uniform = deletion_uniform x several om b.2 (acted_uniform m b.0 b.1 h.uniform);
      };
      extends = is_extension x several om b.2;
    }

-- if 3 ≤ n, IsUniformHalf gives a step from the uniform chirotopes on n elements to those on n + 1
pub uniform_step : (n : ℕ) → 3 ≤ n → IsStep (IsUniformChirotope n) (IsUniformChirotope (n + 1)) IsUniformHalf n
uniform_step n large = record {
  image = uniform_image (n + 1);
  below = uniform_below n large;
  tried = λ c y p ext q. subst (λ k. HasTried IsUniformHalf k c y) p.elements
      (uniform_tried c y p.rank (let e = p.elements in omega arith) ext q.uniform);
  member = λ c y p ext t. record {
    axioms = ext.chirotope;
    rank = ext.rank ∙ p.rank;
    elements = ext.elements ∙ ap (λ k. k + 1) p.elements;
    uniform = uniform_up c y p.rank ext p.uniform
        (subst (λ k. IsUniformHalf (signature_of k y)) (sym p.elements) t).nonzero;
  };
}
