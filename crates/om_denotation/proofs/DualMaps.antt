-- The dual of a map, by the theory.
--
-- Main results: the dual is a chirotope (dual_chirotope), and its normal form has the covectors of the dual (is_dual).
use Rattle.std.specs.Prelude.{ℕ, ◌≡◌, ◌⊎◌, ◌-◌, List, ◌++◌}
use Rattle.std.proofs.Common.{sym, ◌∙◌, ap, subst, refl, inl, inr, ⊎_elim, arith}
use Rattle.om_signs.specs.declared.sign.Sign.{Sign}
use Rattle.om_signs.specs.Sign.{opposite}
use Rattle.om_signs.proofs.SignLaws.{product-opposite_right, opposite-opposite}
use Rattle.om_laws.specs.Bridge.{as_function, as_list}
use Rattle.om_laws.specs.Chirotope.{elements_to}
use Rattle.om_laws.specs.Circuits.{IsCircuit, IsCocircuit}
use Rattle.om_laws.specs.Dual.{dual_map, dual_on_increasing, complement}
use Rattle.om_laws.specs.Reorientation.{negative}
use Rattle.om_laws.specs.Tuples.{sort_sign}
use Rattle.om_laws.proofs.BridgeLaws.{as_function-as_list, length-as_list, orthogonal_functions, orthogonal_lists}
use Rattle.om_laws.proofs.ChirotopeLaws.{elements_distinct}
use Rattle.om_laws.proofs.DualLaws.{dual_chirotope, dual_covector_vector, vector_dual_covector}
use Rattle.om_laws.proofs.DualPairs.{dual_pair}
use Rattle.om_laws.proofs.PairCovectors.{orthogonal_to_covectors, orthogonal_to_cocircuits}
use Rattle.om_laws.proofs.DualSizes.{dual_of_on_tuples, dual_dual_up_to_sign}
use Rattle.om_laws.proofs.Complements.{are_members_cases}
use Rattle.om_laws.proofs.TupleSizes.{on_tuples_tuple}
use Rattle.om_laws.proofs.VectorLaws.{orthogonal_same}
use Rattle.om_chirotope.specs.Map.{SignMap, chi_of, negated}
use Rattle.om_chirotope.specs.Chirotope.{IsChirotope}
use Rattle.om_chirotope.proofs.Theory.{theory_chirotope}
use Rattle.om_chirotope.proofs.Negation.{negated_chirotope}
use Rattle.om_denotation.specs.Covectors.{IsCovectorOfChirotope}
use Rattle.om_denotation.specs.Operations.{IsDual}
use Rattle.om_denotation.proofs.ChirotopeBridge.{tuples_of, list_supported, covector_function, covector_list}
use Rattle.om_denotation.specs.Maps.{IsNormalFormOf}
use Rattle.om_denotation.specs.Dual.{dual_of}
use Rattle.om_denotation.proofs.Rules.{same_maps, tuples_by, whole_by, chirotope_by}
use Rattle.om_denotation.proofs.NormalForms.{tuples_negated, which_covectors}
use Rattle.om_denotation.proofs.Uniqueness.{same_up_to_sign, normal_up_to_sign, flipped}

module _ (m : SignMap) (om : IsChirotope m) where
  pub dual_tuples : (t : List ℕ) → tuples_of (dual_of m) t ≡ dual_map (elements_to m.elements) (tuples_of m) t
  dual_tuples t = tuples_by (m.elements - m.rank) m.elements (dual_on_increasing m.elements (chi_of m)) t
      ∙ sym (dual_of_on_tuples m.elements m.rank (chi_of m) om.whole.part t)

  -- the dual of a chirotope is a chirotope
  pub dual_axioms : IsChirotope (dual_of m)
  dual_axioms = chirotope_by (dual_of m) (dual_map (elements_to m.elements) (tuples_of m))
      (whole_by (m.elements - m.rank) m.elements (dual_on_increasing m.elements (chi_of m)) (omega arith))
      dual_tuples
      (dual_chirotope (elements_to m.elements) (elements_distinct m.elements) (tuples_of m) (theory_chirotope m om))

  -- the normal form has as its covectors what is orthogonal to all covectors
  pub is_dual : (d : SignMap) → IsNormalFormOf (dual_of m) d
      → IsDual m.elements (IsCovectorOfChirotope m) (IsCovectorOfChirotope d)
  is_dual d h Y l =
      let E = elements_to m.elements in
      let T = tuples_of m in
      let chi = theory_chirotope m om in
      let which = which_covectors (dual_of m) d (dual_map E T) h dual_tuples Y l in
      let pair = dual_pair E T chi in (
        (λ q X lx p. orthogonal_lists Y X
            (orthogonal_to_covectors E (IsCircuit E T) (IsCocircuit T) pair (as_function Y)
            (dual_covector_vector E (elements_distinct m.elements) T chi (as_function Y) (which.0 q)).orthogonal
            (as_function X) (covector_function m X p))),
        (λ all. which.1 (vector_dual_covector E (elements_distinct m.elements) T chi (as_function Y) (record {
          orthogonal = orthogonal_to_cocircuits E (IsCircuit E T) (IsCocircuit T) pair (as_function Y) (λ W w.
              orthogonal_same (as_function Y) (as_function Y) W (as_function (as_list m.elements W)) (λ e. refl)
              (λ e. sym (as_function-as_list m.elements W w.supported e))
              (orthogonal_functions Y (as_list m.elements W)
              (all (as_list m.elements W) (length-as_list m.elements W) (covector_list m W w))));
          supported = list_supported m.elements Y l;
        }))),
      )

-- ---- the dual of the dual

dual_negative : (E : List ℕ) (chi : List ℕ → Sign) (t : List ℕ)
    → dual_map E (negative chi) t ≡ negative (dual_map E chi) t
dual_negative E chi t = elim (are_members_cases E t) [
  | inl k ↦ rw k.1 (product-opposite_right (sort_sign (t ++ complement E t)) (chi (complement E t)))
  | inr k ↦ rw k.1 refl
]

abbrev IsEqualOrOpposite : SignMap → SignMap → Type 0
IsEqualOrOpposite m k = ((t : List ℕ) → tuples_of k t ≡ tuples_of m t)
    ⊎ ((t : List ℕ) → tuples_of k t ≡ negative (tuples_of m) t)

module _ (m : SignMap) (om : IsChirotope m) where
  twice : ((a : List ℕ) → dual_map (elements_to m.elements) (dual_map (elements_to m.elements) (tuples_of m)) a
      ≡ tuples_of m a)
      ⊎ ((a : List ℕ) → dual_map (elements_to m.elements) (dual_map (elements_to m.elements) (tuples_of m)) a
      ≡ opposite (tuples_of m a))
  twice = dual_dual_up_to_sign (elements_to m.elements) (elements_distinct m.elements) (tuples_of m)
      (theory_chirotope m om) m.rank (λ t n. (on_tuples_tuple m.elements m.rank (chi_of m) t n).size)

  dual_map_twice : (t : List ℕ) → tuples_of (dual_of (dual_of m)) t
      ≡ dual_map (elements_to m.elements) (dual_map (elements_to m.elements) (tuples_of m)) t
  dual_map_twice t = dual_tuples (dual_of m) (dual_axioms m om) t
      ∙ ap (λ f. dual_map (elements_to m.elements) f t)
      (same_maps (tuples_of (dual_of m)) (dual_map (elements_to m.elements) (tuples_of m)) (dual_tuples m om))

  dual_map_negated : (t : List ℕ) → tuples_of (dual_of (negated (dual_of m))) t
      ≡ opposite (dual_map (elements_to m.elements) (dual_map (elements_to m.elements) (tuples_of m)) t)
  dual_map_negated t = dual_tuples (negated (dual_of m)) (negated_chirotope (dual_of m) (dual_axioms m om)) t
      ∙ ap (λ f. dual_map (elements_to m.elements) f t)
      (same_maps (tuples_of (negated (dual_of m))) (negative (dual_map (elements_to m.elements) (tuples_of m)))
      (λ u. tuples_negated (dual_of m) u ∙ ap opposite (dual_tuples m om u)))
      ∙ dual_negative (elements_to m.elements) (dual_map (elements_to m.elements) (tuples_of m)) t

  dual_back : IsEqualOrOpposite m (dual_of (dual_of m))
  dual_back = ⊎_elim (λ h. inl (λ t. dual_map_twice t ∙ h t)) (λ h. inr (λ t. dual_map_twice t ∙ h t)) twice

  negated_back : IsEqualOrOpposite m (dual_of (negated (dual_of m)))
  negated_back = ⊎_elim
      (λ h. inr (λ t. dual_map_negated t ∙ ap opposite (h t)))
      (λ h. inl (λ t. dual_map_negated t ∙ ap opposite (h t) ∙ opposite-opposite (tuples_of m t)))
      twice

  -- the dual of the normal form of the dual is the map or its negative
  pub dual_twice : (d : SignMap) → IsNormalFormOf (dual_of m) d → (dual_of d ≡ m) ⊎ (dual_of d ≡ negated m)
  dual_twice d h = by_case h.same
    where
      by_case : (d ≡ dual_of m) ⊎ (d ≡ negated (dual_of m)) → (dual_of d ≡ m) ⊎ (dual_of d ≡ negated m)
      by_case (inl q) = subst (λ k. (dual_of k ≡ m) ⊎ (dual_of k ≡ negated m)) (sym q)
          (same_up_to_sign m (dual_of (dual_of m)) om (dual_axioms (dual_of m) (dual_axioms m om)).whole refl dual_back)
      by_case (inr q) = subst (λ k. (dual_of k ≡ m) ⊎ (dual_of k ≡ negated m)) (sym q)
          (same_up_to_sign m (dual_of (negated (dual_of m))) om
          (dual_axioms (negated (dual_of m)) (negated_chirotope (dual_of m) (dual_axioms m om))).whole refl
          negated_back)

  -- where d is a normal form of the dual of m, a normal form of the dual of d is one of m
  pub dual_normal : (d c : SignMap) → IsNormalFormOf (dual_of m) d → IsNormalFormOf (dual_of d) c → IsNormalFormOf m c
  dual_normal d c h k = normal_up_to_sign (dual_of d) m c (flipped m (dual_of d) (dual_twice d h)) k
