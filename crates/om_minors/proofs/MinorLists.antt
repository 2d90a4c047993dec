-- The covectors of deletions and contractions, as lists of signs.
--
-- Main results: deletion_at, coloop_deletion; contraction_at, loop_contraction.
use Rattle.std.specs.Prelude.{ℕ, ◌≡◌, ◌↔◌, ◌+◌, ◌-◌, ◌<◌, ◌≤◌, List, length, refl, false, true}
use Rattle.std.specs.List.{remove}
use Rattle.std.proofs.Common.{zero, suc, sym, ◌∙◌, ap, subst, inl, inr, arith}
use Rattle.std.proofs.lemmas.Bool.{cases_lt, lt-ltb}
use Rattle.std.proofs.lemmas.List.Edits.{length-remove, get_or-remove_below, get_or-remove_above}
use Rattle.om_signs.specs.declared.sign.Sign.{Sign}
use Rattle.om_signs.specs.declared.sign.Sign.TheVariants.{Zero}
use Rattle.om_laws.specs.Bridge.{as_function, as_list}
use Rattle.om_laws.specs.Chirotope.{elements_to}
use Rattle.om_laws.specs.Covectors.{IsCovector}
use Rattle.om_laws.specs.Minors.{skip, deletion, contraction, IsCovectorWithout, IsZeroCovectorWithout}
use Rattle.om_laws.specs.Sorting.{on_tuples}
use Rattle.om_laws.specs.Vectors.{SignVector}
use Rattle.om_laws.specs.Parallel as theory
use Rattle.om_laws.proofs.BridgeLaws.{as_function-as_list, length-as_list}
use Rattle.om_laws.proofs.MinorLaws.{deletion_both, contraction_both, coloop_both, loop_both, skip_below, skip_above}
use Rattle.om_chirotope.specs.Map.{SignMap, chi_of}
use Rattle.om_chirotope.specs.Chirotope.{IsChirotope}
use Rattle.om_chirotope.proofs.Places.{place-vector}
use Rattle.om_denotation.specs.Covectors.{IsCovectorOfChirotope}
use Rattle.om_denotation.specs.Operations.{IsDeletion, IsContraction}
use Rattle.om_denotation.proofs.ChirotopeBridge.{tuples_of, same_lists, covector_function, covector_list}
use Rattle.om_denotation.specs.Maps.{IsNormalFormOf}
use Rattle.om_denotation.proofs.NormalForms.{which_covectors}
use Rattle.om_denotation.proofs.ListFunctions.{place_function}
use Rattle.om_minors.specs.Minors.{deleted, contracted}
use Rattle.om_minors.proofs.BasisLaws.{HasBasis, rank_low, basis_with, coloop_tuple, loop_tuple}
use Rattle.om_minors.proofs.MinorMaps.{one_more, element, larger_chirotope, larger_avoided, larger_in_base}
use Rattle.om_minors.proofs.MinorMaps.{deleted_tuples, contracted_tuples}

-- a list without the place of e, as a function
pub removed_function : (W : List Sign) (e p : ℕ) → 1 ≤ e → e ≤ length W
    → as_function (remove W (e - 1)) p ≡ as_function W (skip e p)
removed_function W e zero low high = rw (lt-ltb 0 e low) refl
removed_function W e (suc i) low high = elim (cases_lt (suc i) e) [
  | inl l ↦ get_or-remove_below W (e - 1) Zero i (omega arith) (omega arith)
      ∙ ap (as_function W) (sym (skip_below e (suc i) l))
  | inr g ↦
      let up : suc (i + 1) ≡ suc i + 1 = omega arith in
      get_or-remove_above W (e - 1) Zero i (omega arith) (omega arith)
      ∙ ap (as_function W) (up ∙ sym (skip_above e (suc i) g))
]

module _ (m : SignMap) (om : IsChirotope m) (e : ℕ) (several : 2 ≤ m.elements) (low : 1 ≤ e)
    (high : e ≤ m.elements) where
  -- ---- covectors of the map, as lists and as functions on one element more than the minors have

  lifted : (F : SignVector) → IsCovector (elements_to (suc (m.elements - 1)))
      (on_tuples (suc (m.elements - 1)) m.rank (chi_of m)) F → IsCovector (elements_to m.elements) (tuples_of m) F
  lifted F f = subst (λ k. IsCovector (elements_to k) (on_tuples k m.rank (chi_of m)) F)
      (sym (one_more m om e several low high)) f

  lowered : (W : List Sign) → IsCovectorOfChirotope m W
      → IsCovector (elements_to (suc (m.elements - 1))) (on_tuples (suc (m.elements - 1)) m.rank (chi_of m))
      (as_function W)
  lowered W c = subst (λ k. IsCovector (elements_to k) (on_tuples k m.rank (chi_of m)) (as_function W))
      (one_more m om e several low high) (covector_function m W c)

  list_of : (F : SignVector)
      → IsCovector (elements_to (suc (m.elements - 1))) (on_tuples (suc (m.elements - 1)) m.rank (chi_of m)) F
      → (X : List Sign) → length X + 1 ≡ m.elements → ((p : ℕ) → F (skip e p) ≡ as_function X p)
      → remove (as_list m.elements F) (e - 1) ≡ X
  list_of F f X l h =
      let W = as_list m.elements F in
      let size = length-as_list m.elements F in
      let inside : e - 1 < length (as_list m.elements F) = omega (arith, size, low, high) in
      let shorter = length-remove (as_list m.elements F) (e - 1) inside in
      same_lists (m.elements - 1) (remove (as_list m.elements F) (e - 1)) X (omega (arith, shorter, size))
      (omega (arith, l)) (λ p.
      removed_function (as_list m.elements F) e p low (omega (arith, size, high))
      ∙ as_function-as_list m.elements F (lifted F f).supported (skip e p) ∙ h p)

  skipped_of : (W X : List Sign) → length W ≡ m.elements → remove W (e - 1) ≡ X → (p : ℕ)
      → as_function W (skip e p) ≡ as_function X p
  skipped_of W X l q p = sym (removed_function W e p low (omega (arith, l, high))) ∙ ap (λ Z. as_function Z p) q

  -- ---- deletions and contractions, from what the theory says of functions

  from_functions : (k d : SignMap) (psi : List ℕ → Sign) → k.elements ≡ m.elements - 1 → IsNormalFormOf k d
      → ((t : List ℕ) → tuples_of k t ≡ psi t) → (X : List Sign) → length X + 1 ≡ m.elements → IsCovectorOfChirotope d X
      ↔ IsCovector (elements_to (m.elements - 1)) psi (as_function X)
  from_functions k d psi q h t X l =
      let size : length X ≡ k.elements = omega (arith, q, l) in
      subst (λ n. IsCovectorOfChirotope d X ↔ IsCovector (elements_to n) psi (as_function X)) q
      (which_covectors k d psi h t X size)

  pub is_deletion : (k d : SignMap) (psi : List ℕ → Sign) → k.elements ≡ m.elements - 1 → IsNormalFormOf k d
      → ((t : List ℕ) → tuples_of k t ≡ psi t)
      → ((F : SignVector) → IsCovector (elements_to (m.elements - 1)) psi F
      ↔ IsCovectorWithout e (elements_to (suc (m.elements - 1)))
      (on_tuples (suc (m.elements - 1)) m.rank (chi_of m)) F)
      → IsDeletion m.elements e (IsCovectorOfChirotope m) (IsCovectorOfChirotope d)
  is_deletion k d psi q h t both X l =
      let which = from_functions k d psi q h t X l in (
        (λ c. let w = (both (as_function X)).0 (which.0 c) in (
          as_list m.elements w.0,
          length-as_list m.elements w.0,
          covector_list m w.0 (lifted w.0 w.1),
          list_of w.0 w.1 X l w.2,
        )),
        (λ w. which.1 ((both (as_function X)).1 (as_function w.0, lowered w.0 w.2, skipped_of w.0 X w.1 w.3))),
      )

  pub is_contraction : (k d : SignMap) (psi : List ℕ → Sign) → k.elements ≡ m.elements - 1 → IsNormalFormOf k d
      → ((t : List ℕ) → tuples_of k t ≡ psi t)
      → ((F : SignVector) → IsCovector (elements_to (m.elements - 1)) psi F
      ↔ IsZeroCovectorWithout e (elements_to (suc (m.elements - 1)))
      (on_tuples (suc (m.elements - 1)) m.rank (chi_of m)) F)
      → IsContraction m.elements e (IsCovectorOfChirotope m) (IsCovectorOfChirotope d)
  is_contraction k d psi q h t both X l =
      let which = from_functions k d psi q h t X l in (
        (λ c. let w = (both (as_function X)).0 (which.0 c) in (
          as_list m.elements w.0,
          length-as_list m.elements w.0,
          covector_list m w.0 (lifted w.0 w.1),
          place-vector m.elements w.0 e low high ∙ w.2,
          list_of w.0 w.1 X l w.3,
        )),
        (λ w. which.1
            ((both (as_function X)).1 (
              as_function w.0,
              lowered w.0 w.2,
              sym (place_function w.0 e low) ∙ w.3,
              skipped_of w.0 X w.1 w.4,
            ))),
      )

  -- ---- in every case

  -- the normal form of the deletion's map denotes the deletion of e, if some basis avoids e
  pub deletion_at : (d : SignMap) → HasBasis m e false → IsNormalFormOf (deleted e m) d
      → IsDeletion m.elements e (IsCovectorOfChirotope m) (IsCovectorOfChirotope d)
  deletion_at d b h = is_deletion (deleted e m) d (deletion e (on_tuples (suc (m.elements - 1)) m.rank (chi_of m))) refl
      h (deleted_tuples m om e several low high)
      (deletion_both (m.elements - 1) e (element m om e several low high)
      (on_tuples (suc (m.elements - 1)) m.rank (chi_of m)) (larger_chirotope m om e several low high)
      (larger_avoided m om e several low high b))

  -- the normal form of the contraction's map denotes the deletion of e, if no basis avoids e
  pub coloop_deletion : (d : SignMap) → (HasBasis m e false → ⊥) → IsNormalFormOf (contracted e m) d
      → IsDeletion m.elements e (IsCovectorOfChirotope m) (IsCovectorOfChirotope d)
  coloop_deletion d none h =
      is_deletion (contracted e m) d (contraction e (on_tuples (suc (m.elements - 1)) m.rank (chi_of m))) refl h
      (contracted_tuples m om e several low high (rank_low m e (basis_with m om e none)))
      (coloop_both (m.elements - 1) e (element m om e several low high)
      (on_tuples (suc (m.elements - 1)) m.rank (chi_of m)) (larger_chirotope m om e several low high)
      (subst (λ k. theory.IsColoop (on_tuples k m.rank (chi_of m)) e) (one_more m om e several low high)
      (coloop_tuple m e none)))

  -- the normal form of the contraction's map denotes the contraction of e, if some basis has e
  pub contraction_at : (d : SignMap) → HasBasis m e true → IsNormalFormOf (contracted e m) d
      → IsContraction m.elements e (IsCovectorOfChirotope m) (IsCovectorOfChirotope d)
  contraction_at d b h =
      is_contraction (contracted e m) d (contraction e (on_tuples (suc (m.elements - 1)) m.rank (chi_of m))) refl h
      (contracted_tuples m om e several low high (rank_low m e b))
      (contraction_both (m.elements - 1) e (element m om e several low high)
      (on_tuples (suc (m.elements - 1)) m.rank (chi_of m)) (larger_chirotope m om e several low high)
      (larger_in_base m om e several low high b))

  -- the normal form of the deletion's map denotes the contraction of e, if no basis has e
  pub loop_contraction : (d : SignMap) → (HasBasis m e true → ⊥) → IsNormalFormOf (deleted e m) d
      → IsContraction m.elements e (IsCovectorOfChirotope m) (IsCovectorOfChirotope d)
  loop_contraction d none h =
      is_contraction (deleted e m) d (deletion e (on_tuples (suc (m.elements - 1)) m.rank (chi_of m))) refl h
      (deleted_tuples m om e several low high)
      (loop_both (m.elements - 1) e (element m om e several low high)
      (on_tuples (suc (m.elements - 1)) m.rank (chi_of m)) (larger_chirotope m om e several low high)
      (subst (λ k. theory.IsLoop (on_tuples k m.rank (chi_of m)) e) (one_more m om e several low high)
      (loop_tuple m e none)))
