-- The chirotopes of rank 3 on three elements.
--
-- Main results: each is isomorphic to the triangle (to_triangle); the triangle alone is a complete list (three_simple,
-- three_uniform).
use Rattle.std.proofs.Common.{ℕ, zero, suc, ◌≡◌, ◌≢◌, ◌<◌, ◌≤◌, ◌%◌, List, [], ◌∷◌, length, map, get_or, refl}
use Rattle.std.proofs.Common.{sym, ap, subst, ◌∙◌, inl, inr, ⊎_elim, arith}
use Rattle.std.proofs.lemmas.Bool.{cases_eq}
use Rattle.om_signs.specs.declared.sign.Sign.{Sign}
use Rattle.om_signs.specs.declared.sign.Sign.TheVariants.{Minus, Zero, Plus}
use Rattle.om_signs.specs.Sign.{opposite}
use Rattle.om_signs.specs.SignVec.{at}
use Rattle.om_signs.proofs.SignLaws.{plus_nonzero}
use Rattle.om_subsets.specs.Subsets.{IsSubsetFrom, IsMember, choose, rank_of}
use Rattle.om_subsets.proofs.Counts.{subset_small}
use Rattle.om_subsets.proofs.Order.{rank_from-lt}
use Rattle.om_chirotope.specs.Map.{SignMap, chi_of, value_of, negated}
use Rattle.om_chirotope.specs.Chirotope.{IsChirotope, HasNonzeroValue}
use Rattle.om_chirotope.specs.ThreeTerm.{IsBasis}
use Rattle.om_chirotope.proofs.InOrder.{value_in_order}
use Rattle.om_symmetry.specs.Permutations.{AreIsomorphic}
use Rattle.om_symmetry.proofs.Groups.{isomorphic_self}
use Rattle.om_symmetry.proofs.Reorientations.{isomorphic_negative}
use Rattle.om_covers.specs.Classes.{IsSimple, IsUniform, IsSimpleChirotope, IsUniformChirotope, IsComplete}
use Rattle.om_covers.specs.Covers.{triangle}

-- ---- the triangle

all_three : IsSubsetFrom 1 3 (1 ∷ 2 ∷ 3 ∷ [])
all_three = inl (refl, inl (refl, inl (refl, tt)))

triangle_value : value_of triangle (1 ∷ 2 ∷ 3 ∷ []) ≡ Plus
triangle_value = refl

triangle_basis : IsBasis triangle (1 ∷ 2 ∷ 3 ∷ [])
triangle_basis = record {
  list = all_three;
  size = refl;
  nonzero = λ z. plus_nonzero (sym triangle_value ∙ z);
}

-- the triangle is a chirotope
pub triangle_axioms : IsChirotope triangle
triangle_axioms = record {
  whole = record { part = omega arith; whole = refl };
  nonzero = (1 ∷ 2 ∷ 3 ∷ [], all_three, refl, triangle_basis.nonzero);
  orthogonal = λ s a p. (
      let few = subset_small 1 3 s p.s_list in
      let size = p.s_size in
      absurd (omega arith));
}

one_of_three : (e : ℕ) → 1 ≤ e → e ≤ 3 → IsMember e (1 ∷ 2 ∷ 3 ∷ [])
one_of_three e low high = elim (cases_eq e 1) [
  | inl q ↦ inl q
  | inr a ↦ elim (cases_eq e 2) [
    | inl q ↦ inr (inl q)
    | inr b ↦ inr (inr (inl (omega arith)))
  ]
]

-- every two of its elements are together in its basis
pub triangle_simple : IsSimple triangle
triangle_simple e f low lt high = (
  1 ∷ 2 ∷ 3 ∷ [],
  triangle_basis,
  λ g k. ⊎_elim (λ q. one_of_three g (omega arith) (omega arith))
      (λ j. ⊎_elim (λ q. one_of_three g (omega arith) (omega arith)) (λ none. absurd none) j) k,
)

-- ---- maps with one sign

-- the sign of a list at a place
only_sign : (s : Sign) (k : ℕ) → at (s ∷ []) k ≢ Zero → k ≡ 0
only_sign s zero h = refl
only_sign s (suc k) h = absurd (h refl)

zero_only : (k : ℕ) → at (Zero ∷ []) k ≡ Zero
zero_only zero = refl
zero_only (suc k) = refl

not_zero : (m : SignMap) → HasNonzeroValue m → m.signs ≡ Zero ∷ [] → ⊥
not_zero m (xs, h, l, nz) q =
    nz (value_in_order 1 m.elements (chi_of m) xs h
    ∙ ap (λ signs. at signs (rank_of m.elements xs)) q ∙ zero_only (rank_of m.elements xs))

module _ (m : SignMap) (om : IsChirotope m) (r : m.rank ≡ 3) (e : m.elements ≡ 3) where
  count : length m.signs ≡ 1
  count = om.whole.whole ∙ (λ i. choose (e i) (r i))

  from_sign : (s : Sign) → m.signs ≡ s ∷ [] → AreIsomorphic m triangle
  from_sign Plus q =
      let same : ◌≡◌ {A = SignMap} m triangle = (λ i. record { rank = r i; elements = e i; signs = q i }) in
      subst (AreIsomorphic m) same (isomorphic_self m om.whole)
  from_sign Zero q = absurd (not_zero m om.nonzero q)
  from_sign Minus q =
      let same : ◌≡◌ {A = SignMap} (negated m) triangle =
      (λ i. record { rank = r i; elements = e i; signs = map opposite (q i) }) in
      subst (AreIsomorphic m) same (isomorphic_negative m om.whole (ap (λ k. k % 2) r))

  from_signs : (signs : List Sign) → length signs ≡ 1 → m.signs ≡ signs → AreIsomorphic m triangle
  from_signs [] l q = absurd (omega arith)
  from_signs (s ∷ []) l q = from_sign s q
  from_signs (s ∷ t ∷ signs) l q = absurd (omega arith)

  -- a chirotope of rank 3 on three elements is isomorphic to the triangle
  pub to_triangle : AreIsomorphic m triangle
  to_triangle = from_signs m.signs count refl

-- the only increasing list of all three elements
pub triangle_uniform : IsUniform triangle
triangle_uniform xs h l z =
    let small : rank_of 3 xs < choose 3 3 = subst (λ k. rank_of 3 xs < choose 3 k) l (rank_from-lt 1 3 xs h) in
    let first : rank_of 3 xs ≡ 0 = below_one (rank_of 3 xs) small in
    plus_nonzero (sym (ap (at (Plus ∷ [])) first) ∙ z)
  where
    below_one : (k : ℕ) → k < 1 → k ≡ 0
    below_one k lt = omega arith

-- ---- the list of the triangle alone

only : (d : SignMap) (k : ℕ) → k < 1 → get_or (triangle ∷ []) k d ≡ triangle
only d zero lt = refl
only d (suc k) lt = absurd (omega arith)

pub three_simple : IsComplete (IsSimpleChirotope 3) (triangle ∷ [])
three_simple = record {
  members = λ k d lt. subst (IsSimpleChirotope 3) (sym (only d k lt))
      (record { axioms = triangle_axioms; rank = refl; elements = refl; simple = triangle_simple });
  each = λ m h. (triangle, (0, omega arith, refl), to_triangle m h.axioms h.rank h.elements);
}

pub three_uniform : IsComplete (IsUniformChirotope 3) (triangle ∷ [])
three_uniform = record {
  members = λ k d lt. subst (IsUniformChirotope 3) (sym (only d k lt))
      (record { axioms = triangle_axioms; rank = refl; elements = refl; uniform = triangle_uniform });
  each = λ m h. (triangle, (0, omega arith, refl), to_triangle m h.axioms h.rank h.elements);
}
