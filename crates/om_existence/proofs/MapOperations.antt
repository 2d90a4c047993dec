-- Duals, minors and reorientations of a chirotope.
--
-- Main results: map_made: each operation that takes away one of several elements, or none, makes a chirotope, which has
-- few values.
-- Reference: Björner, Las Vergnas, Sturmfels, White and Ziegler, Oriented Matroids, chapters 3 and 4.
use Rattle.std.specs.Prelude.{ℕ, ◌≡◌, ◌+◌, ◌-◌, ◌≤◌, ◌⊎◌, true, false, refl}
use Rattle.std.proofs.Common.{sym, ◌∙◌, subst, inl, inr, arith}
use Rattle.om_signs.specs.declared.limits.TheConstants.{MAX_VALUES}
use Rattle.om_subsets.specs.Subsets.{choose}
use Rattle.om_chirotope.specs.Map.{SignMap}
use Rattle.om_chirotope.specs.Chirotope.{IsChirotope}
use Rattle.om_denotation.specs.Covectors.{IsCovectorOfChirotope}
use Rattle.om_denotation.specs.Dual.{dual_of}
use Rattle.om_denotation.specs.Maps.{IsNormalFormOf}
use Rattle.om_denotation.proofs.DualLists.{normal_dual, axioms_of_dual}
use Rattle.om_denotation.proofs.DualMaps.{is_dual}
use Rattle.om_denotation.proofs.NormalForms.{normal_exists, normal_rank, normal_elements}
use Rattle.om_denotation.proofs.Uniqueness.{normal_axioms}
use Rattle.om_minors.specs.Minors.{deleted, contracted, reoriented_on}
use Rattle.om_minors.proofs.BasisLaws.{HasBasis, basis_with, basis_without, rank_low, decide_basis}
use Rattle.om_minors.proofs.MinorLists.{deletion_at, coloop_deletion, contraction_at, loop_contraction}
use Rattle.om_minors.proofs.MinorMaps.{deleted_axioms, contracted_axioms}
use Rattle.om_minors.proofs.Turning.{reoriented_axioms, is_reorientation}
use Rattle.om_representation.proofs.WidthLaws.{few_of_minor, few_dual}
use Rattle.om_commands.specs.declared.operation.Operation.{Operation}
use Rattle.om_commands.specs.declared.operation.Operation.TheVariants.{Dual, Delete, Contract, Reorient}
use Rattle.om_commands.specs.Operations.{AreMade, IsMapMade, elements_left}
use Rattle.om_existence.proofs.OperationCases.{IsOneOfSeveral, IsReady}

-- a chirotope that an operation makes of m, with few values
pub record IsMadeOf (o : Operation) (m k : SignMap) : Type 0 where
  pub axioms : IsChirotope k
  pub few : choose k.elements k.rank ≤ MAX_VALUES
  pub made : IsMapMade o m.elements (IsCovectorOfChirotope m) k

-- the rank stays, or is one less
abbrev IsRankLeft : ℕ → ℕ → Type 0
IsRankLeft r s = (s ≡ r) ⊎ (s + 1 ≡ r)

module _ (m : SignMap) (om : IsChirotope m) (few : choose m.elements m.rank ≤ MAX_VALUES) where
  -- ---- the dual

  dual_made : (k : SignMap) → IsNormalFormOf (dual_of m) k → IsMadeOf Dual m k
  dual_made k h =
      let rank : k.rank ≡ m.elements - m.rank = normal_rank (dual_of m) k h in
      let size : k.elements ≡ m.elements = normal_elements (dual_of m) k h in
      let part = om.whole.part in
      record {
        axioms = axioms_of_dual m om k h;
        few = few_dual m k (omega (arith, rank, part)) size few;
        made = record { elements = size; normal = h.normal; covectors = is_dual m om k h };
      }

  -- ---- minors

  module _ (e : ℕ) (one : IsOneOfSeveral m.elements e) where
    -- a map with one element less has few values
    few_less : (n r : ℕ) → n ≡ m.elements - 1 → IsRankLeft m.rank r → choose n r ≤ MAX_VALUES
    few_less n r size left =
        let more = one.several in
        few_of_minor (r ≡ m.rank) (r + 1 ≡ m.rank) m.elements m.rank n r (one_of left) (omega (arith, size, more))
        (λ same. same) (λ less. less) few
      where
        one_of : IsRankLeft m.rank r → (r ≡ m.rank → ⊥) → (r + 1 ≡ m.rank → ⊥) → ⊥
        one_of (inl same) a b = a same
        one_of (inr less) a b = b less

    module _ (o : Operation) (left : elements_left o m.elements ≡ m.elements - 1) (k : SignMap)
        (covectors : AreMade o m.elements (IsCovectorOfChirotope m) (IsCovectorOfChirotope k)) where
      minor_made : (n : SignMap) → IsNormalFormOf n k → IsChirotope n → n.elements ≡ m.elements - 1
          → IsRankLeft m.rank k.rank → IsMadeOf o m k
      minor_made n h axioms less rank =
          let size = normal_elements n k h ∙ less in
          record {
            axioms = normal_axioms n k axioms h;
            few = few_less k.elements k.rank size rank;
            made = record { elements = size ∙ sym left; normal = h.normal; covectors = covectors };
          }

      -- one that is made of the lists without e
      from_deleted : HasBasis m e false → IsNormalFormOf (deleted e m) k → IsMadeOf o m k
      from_deleted basis h =
          let axioms = deleted_axioms m om e one.several one.low one.high basis in
          minor_made (deleted e m) h axioms refl (inl (normal_rank (deleted e m) k h))

      -- one that is made of the lists with e
      from_contracted : HasBasis m e true → IsNormalFormOf (contracted e m) k → IsMadeOf o m k
      from_contracted basis h =
          let axioms = contracted_axioms m om e one.several one.low one.high basis in
          let rank : k.rank ≡ m.rank - 1 = normal_rank (contracted e m) k h in
          let some : 1 ≤ m.rank = rank_low m e basis in
          minor_made (contracted e m) h axioms refl (inr (omega (arith, rank, some)))

    normal_deleted : HasBasis m e false → (k : SignMap) × IsNormalFormOf (deleted e m) k
    normal_deleted b = normal_exists (deleted e m) (deleted_axioms m om e one.several one.low one.high b)

    normal_contracted : HasBasis m e true → (k : SignMap) × IsNormalFormOf (contracted e m) k
    normal_contracted b = normal_exists (contracted e m) (contracted_axioms m om e one.several one.low one.high b)

    deletion_made : (k : SignMap) × IsMadeOf (Delete e) m k
    deletion_made = elim (decide_basis m e false) [
      | inl basis ↦
          let k = normal_deleted basis in
          let covectors = deletion_at m om e one.several one.low one.high k.0 basis k.1 in
          (k.0, from_deleted (Delete e) refl k.0 covectors basis k.1)
      | inr none ↦
          let basis = basis_with m om e none in
          let k = normal_contracted basis in
          let covectors = coloop_deletion m om e one.several one.low one.high k.0 none k.1 in
          (k.0, from_contracted (Delete e) refl k.0 covectors basis k.1)
    ]

    contraction_made : (k : SignMap) × IsMadeOf (Contract e) m k
    contraction_made = elim (decide_basis m e true) [
      | inl basis ↦
          let k = normal_contracted basis in
          let covectors = contraction_at m om e one.several one.low one.high k.0 basis k.1 in
          (k.0, from_contracted (Contract e) refl k.0 covectors basis k.1)
      | inr none ↦
          let basis = basis_without m om e none in
          let k = normal_deleted basis in
          let covectors = loop_contraction m om e one.several one.low one.high k.0 none k.1 in
          (k.0, from_deleted (Contract e) refl k.0 covectors basis k.1)
    ]

  -- ---- the reorientation

  reorientation_made : (mask : ℕ) (k : SignMap) → IsNormalFormOf (reoriented_on mask m) k → IsMadeOf (Reorient mask) m k
  reorientation_made mask k h =
      let rank : k.rank ≡ m.rank = normal_rank (reoriented_on mask m) k h in
      let size : k.elements ≡ m.elements = normal_elements (reoriented_on mask m) k h in
      let still = subst (λ r. choose m.elements r ≤ MAX_VALUES) (sym rank) few in
      record {
        axioms = normal_axioms (reoriented_on mask m) k (reoriented_axioms m om mask) h;
        few = subst (λ n. choose n k.rank ≤ MAX_VALUES) (sym size) still;
        made = record { elements = size; normal = h.normal; covectors = is_reorientation m om mask k h };
      }

  -- ---- each operation

  pub map_made : (o : Operation) → IsReady o m.elements → (k : SignMap) × IsMadeOf o m k
  map_made Dual is = let k = normal_dual m om in (k.0, dual_made k.0 k.1)
  map_made (Delete e) is = deletion_made e is
  map_made (Contract e) is = contraction_made e is
  map_made (Reorient mask) is =
      let k = normal_exists (reoriented_on mask m) (reoriented_axioms m om mask) in
      (k.0, reorientation_made mask k.0 k.1)
