-- The normal chirotopes of deletions and contractions, where other elements are left.
--
-- Main results: deleted_normal and contracted_at_coloop, for deletions; contracted_normal and deleted_at_loop, for
-- contractions.
use Rattle.std.specs.Prelude.{ℕ, ◌≤◌}
use Rattle.std.proofs.Common.{arith}
use Rattle.om_chirotope.specs.Map.{SignMap}
use Rattle.om_chirotope.specs.Chirotope.{IsChirotope}
use Rattle.om_matroid.specs.Bases.{IsColoop, IsLoop}
use Rattle.om_denotation.specs.Maps.{IsNormalFormOf}
use Rattle.om_denotation.proofs.NormalForms.{normal_elements, normal_rank}
use Rattle.om_minors.specs.Minors.{IsNormalContraction, IsNormalDeletion, contracted, deleted}
use Rattle.om_minors.proofs.BasisLaws.{basis_off, basis_on, basis_with, coloop_none, loop_none, rank_low}
use Rattle.om_minors.proofs.MinorLists.{coloop_deletion, contraction_at, deletion_at, loop_contraction}

module _ (m : SignMap) (om : IsChirotope m) (e : ℕ) (several : 2 ≤ m.elements) (low : 1 ≤ e)
    (high : e ≤ m.elements) where
  -- the deletion of an element that is no coloop, for `deletion_beside_others`
  pub deleted_normal : (IsColoop m e → ⊥) → (d : SignMap) → IsNormalFormOf (deleted e m) d → IsNormalDeletion e m d
  deleted_normal none d h =
      let size = normal_elements (deleted e m) d h in
      record {
        elements = omega (arith, size, several);
        deletion = deletion_at m om e several low high d (basis_off m e none) h;
        normal = h.normal;
        value = λ _. h;
        at_coloop = λ coloop. absurd (none coloop);
        rank = λ _. normal_rank (deleted e m) d h;
        rank_at_coloop = λ coloop. absurd (none coloop);
      }

  -- the deletion of a coloop is its contraction, for `deletion_beside_others`
  pub contracted_at_coloop : IsColoop m e → (d : SignMap) → IsNormalFormOf (contracted e m) d → IsNormalDeletion e m d
  contracted_at_coloop coloop d h =
      let size = normal_elements (contracted e m) d h in
      let none = coloop_none m e coloop in
      let some = rank_low m e (basis_with m om e none) in
      let rank = normal_rank (contracted e m) d h in
      record {
        elements = omega (arith, size, several);
        deletion = coloop_deletion m om e several low high d none h;
        normal = h.normal;
        value = λ other. absurd (other coloop);
        at_coloop = λ _. h;
        rank = λ other. absurd (other coloop);
        rank_at_coloop = λ _. omega (arith, rank, some);
      }

  -- the contraction of an element that is no loop, for `contraction_beside_others`
  pub contracted_normal : (IsLoop m e → ⊥) → (d : SignMap) → IsNormalFormOf (contracted e m) d
      → IsNormalContraction e m d
  contracted_normal none d h =
      let size = normal_elements (contracted e m) d h in
      let basis = basis_on m e none in
      let some = rank_low m e basis in
      let rank = normal_rank (contracted e m) d h in
      record {
        elements = omega (arith, size, several);
        contraction = contraction_at m om e several low high d basis h;
        normal = h.normal;
        value = λ _. h;
        at_loop = λ loop. absurd (none loop);
        rank = λ _. omega (arith, rank, some);
        rank_at_loop = λ loop. absurd (none loop);
      }

  -- the contraction of a loop is its deletion, for `contraction_beside_others`
  pub deleted_at_loop : IsLoop m e → (d : SignMap) → IsNormalFormOf (deleted e m) d → IsNormalContraction e m d
  deleted_at_loop loop d h =
      let size = normal_elements (deleted e m) d h in
      record {
        elements = omega (arith, size, several);
        contraction = loop_contraction m om e several low high d (loop_none m e loop) h;
        normal = h.normal;
        value = λ other. absurd (other loop);
        at_loop = λ _. h;
        rank = λ other. absurd (other loop);
        rank_at_loop = λ _. normal_rank (deleted e m) d h;
      }
