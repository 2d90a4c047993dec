-- Circuits, cocircuits and covectors of a map on the tuples of r of the elements 1 to n.
--
-- Main results: increasing tuples of r + 1 elements are enough for the circuits (circuit_in_rank) and for orthogonality
-- to them (orthogonal_in_rank), and those of r - 1 elements for the cocircuits (cocircuit_in_rank).
-- Reference: Björner, Las Vergnas, Sturmfels, White and Ziegler, Oriented Matroids, chapters 3 and 4.
use Rattle.std.specs.Prelude.{ℕ, suc, ◌↔◌, refl, List, [], ◌∷◌, ◌++◌}
use Rattle.std.proofs.Common.{inl, inr, sym, subst, ⊎_elim}
use Rattle.om_signs.specs.declared.sign.Sign.{Sign}
use Rattle.om_signs.proofs.SignLaws.{zero_or_nonzero}
use Rattle.om_laws.specs.Signs.{IsNonzero}
use Rattle.om_laws.specs.Members.{IsDistinct, AreAmong}
use Rattle.om_laws.specs.Vectors.{SignVector, zero_vector}
use Rattle.om_laws.specs.Sorting.{IsTuple, on_tuples}
use Rattle.om_laws.specs.Relations.{around, along}
use Rattle.om_laws.specs.Chirotope.{elements_to}
use Rattle.om_laws.specs.Circuits.{IsCircuit, IsCocircuit}
use Rattle.om_laws.specs.Covectors.{IsOrthogonalToAll}
use Rattle.om_laws.specs.Denotations.{IsOrthogonalToTuples, IsAroundTuple, IsAlongTuple, IsOrthogonalInRank}
use Rattle.om_laws.proofs.MemberLaws.{split_at}
use Rattle.om_laws.proofs.SortingLaws.{increasing_distinct}
use Rattle.om_laws.proofs.RelationLaws.{around_member, nonzero_from_around}
use Rattle.om_laws.proofs.TupleSizes.{is_tuple_cases, on_tuples_tuple, on_tuples_alternating, tuple_with, tuple_last}
use Rattle.om_laws.proofs.ChirotopeLaws.{element_from_member}
use Rattle.om_laws.proofs.IncreasingLaws.{circuit_both, cocircuit_both, orthogonal_both}
use Rattle.om_laws.proofs.DualSizes.{tuple_among}
use Rattle.om_laws.proofs.VectorLaws.{orthogonal_same, orthogonal_zero, nonzero_up_to_sign}

module _ (n r : ℕ) (f : List ℕ → Sign) where
  -- a tuple with a nonzero vector around it has r + 1 elements
  around_sized : (s : List ℕ) → IsDistinct s → AreAmong (elements_to n) s → (e : ℕ)
      → IsNonzero (around (on_tuples n r f) s e) → IsTuple n (suc r) s
  around_sized s d w e k =
      let m = around_member (on_tuples n r f) s e k in
      let p = split_at e s m in
      let t = on_tuples_tuple n r f (p.0 ++ p.1)
      (nonzero_from_around (on_tuples n r f) p.0 e p.1 (subst IsDistinct p.2 d)
      (subst (λ l. IsNonzero (around (on_tuples n r f) l e)) p.2 k)) in
      subst (IsTuple n (suc r)) (sym p.2) (tuple_with n r p.0 p.1 e t (element_from_member n e (w e m)))

  -- in rank r the circuits are, up to sign, the nonzero vectors around increasing tuples of r + 1 elements
  pub circuit_in_rank : (X : SignVector) → IsCircuit (elements_to n) (on_tuples n r f) X ↔ IsAroundTuple n r f X
  circuit_in_rank X =
      let both = circuit_both (elements_to n) (on_tuples n r f) (on_tuples_alternating n r f) X in (
        λ c. let k = both.0 c in record {
          tuple = k.tuple;
          increasing = k.increasing;
          sized = around_sized k.tuple (increasing_distinct k.tuple k.increasing) k.within k.nonzero.0
              (nonzero_up_to_sign X (around (on_tuples n r f) k.tuple) k.same k.nonzero.0 k.nonzero.1);
          nonzero = k.nonzero;
          same = k.same;
        },
        λ k. both.1
            (record {
              tuple = k.tuple;
              increasing = k.increasing;
              within = tuple_among n (suc r) k.tuple k.sized;
              nonzero = k.nonzero;
              same = k.same;
            }),
      )

  -- in rank r the cocircuits are, up to sign, the nonzero vectors along increasing tuples of r - 1 elements
  pub cocircuit_in_rank : (X : SignVector) → IsCocircuit (on_tuples n r f) X ↔ IsAlongTuple n r f X
  cocircuit_in_rank X =
      let both = cocircuit_both (on_tuples n r f) (on_tuples_alternating n r f) X in (
        λ c. let k = both.0 c in record {
          tuple = k.tuple;
          increasing = k.increasing;
          sized = (tuple_last n r k.tuple k.nonzero.0
              (on_tuples_tuple n r f (k.tuple ++ k.nonzero.0 ∷ [])
              (nonzero_up_to_sign X (along (on_tuples n r f) k.tuple) k.same k.nonzero.0 k.nonzero.1))).0;
          nonzero = k.nonzero;
          same = k.same;
        },
        λ k. both.1 (record { tuple = k.tuple; increasing = k.increasing; nonzero = k.nonzero; same = k.same }),
      )

  -- in rank r, orthogonality to all circuits is that to the vectors around increasing tuples of r + 1 elements
  pub orthogonal_in_rank : (X : SignVector) → IsOrthogonalInRank n r f X
      ↔ IsOrthogonalToAll (IsCircuit (elements_to n) (on_tuples n r f)) X
  orthogonal_in_rank X =
      let both = orthogonal_both (elements_to n) (on_tuples n r f) (on_tuples_alternating n r f) X in (
        λ h. both.0 (λ s i w. sized_or_zero h s i w),
        λ o s t i. both.1 o s i (tuple_among n (suc r) s t),
      )
    where
      sized_or_zero : IsOrthogonalInRank n r f X → IsOrthogonalToTuples (elements_to n) (on_tuples n r f) X
      sized_or_zero h s i w = elim (is_tuple_cases n (suc r) s) [
        | inl t ↦ h s t.0 i
        | inr none ↦ orthogonal_same (around (on_tuples n r f) s) zero_vector X X
            (λ e. ⊎_elim (λ z. z) (λ k. absurd (none.0 (around_sized s (increasing_distinct s i) w e k)))
            (zero_or_nonzero (around (on_tuples n r f) s e)))
            (λ e. refl) (orthogonal_zero X)
      ]
