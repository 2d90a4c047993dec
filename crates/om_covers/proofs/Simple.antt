-- Images of simple and of uniform maps.
--
-- Main results: acted_simple, acted_uniform.
use Rattle.std.proofs.Common.{ℕ, ◌≢◌, ◌<◌, List, [], ◌∷◌, map, sym, ◌∙◌, inl, inr}
use Rattle.std.proofs.Common.{⊎_elim, arith}
use Rattle.std.proofs.lemmas.Bool.{cases_lt}
use Rattle.om_subsets.proofs.Statements.{subset_is_increasing}
use Rattle.om_laws.specs.Sorting.{IsElement}
use Rattle.om_laws.specs.Tuples.{sorted}
use Rattle.om_laws.proofs.SortingLaws.{increasing_distinct}
use Rattle.om_chirotope.specs.Map.{SignMap, chi_of}
use Rattle.om_chirotope.specs.ThreeTerm.{IsBasis}
use Rattle.om_chirotope.proofs.InOrder.{value_in_order}
use Rattle.om_chirotope.proofs.Theory.{to_tuple}
use Rattle.om_matroid.specs.Bases.{IsIndependent}
use Rattle.om_symmetry.specs.declared.signed_element.SignedElement.{SignedElement}
use Rattle.om_symmetry.specs.Permutations.{IsSignedPermutation, element_at, acted}
use Rattle.om_symmetry.proofs.Places.{element_within, element_apart}
use Rattle.om_symmetry.proofs.Images.{tuple_image}
use Rattle.om_symmetry.proofs.SortedTuples.{sorted_set}
use Rattle.om_symmetry.proofs.Bases.{distinct_there, acted_basis, acted_independent}
use Rattle.om_covers.specs.Classes.{IsSimple, IsUniform}

-- the order of two elements doesn't matter
pub pair_swapped : (m : SignMap) (e f : ℕ) → IsIndependent m (e ∷ f ∷ []) → IsIndependent m (f ∷ e ∷ [])
pair_swapped m e f (b, basis, part) = (
  b,
  basis,
  λ g k. ⊎_elim (λ q. part g (inr (inl q))) (λ j. ⊎_elim (λ q. part g (inl q)) (λ none. absurd none) j) k,
)

pub pair_independent : (m : SignMap) → IsSimple m → (e f : ℕ) → IsElement m.elements e → IsElement m.elements f → e ≢ f
    → IsIndependent m (e ∷ f ∷ [])
pair_independent m simple e f he hf d = elim (cases_lt e f) [
  | inl lt ↦ simple e f he.0 lt hf.1
  | inr ge ↦ let lt : f < e = omega arith in pair_swapped m f e (simple f e hf.0 lt he.1)
]

module _ (m : SignMap) (w : List SignedElement) (p : IsSignedPermutation m.elements w) where
  -- images of simple maps are simple
  pub acted_simple : IsSimple m → IsSimple (acted w m)
  acted_simple simple e f low lt high =
      let he : IsElement m.elements e = (low, omega arith) in
      let hf : IsElement m.elements f = (omega arith, high) in
      let apart : element_at w e ≢ element_at w f =
      (λ q. let k = element_apart m.elements w p e f he hf q in omega arith) in
      (acted_independent m w p (e ∷ f ∷ []) (he, (hf, tt))).1
      (pair_independent m simple (element_at w e) (element_at w f) (element_within m.elements w p e he)
      (element_within m.elements w p f hf) apart)

  -- images of uniform maps are uniform
  pub acted_uniform : IsUniform m → IsUniform (acted w m)
  acted_uniform uniform xs h l z =
      let t = to_tuple m.elements m.rank xs h l in
      let u = tuple_image m.elements w p m.rank xs t in
      let d = distinct_there m.elements w p xs t.within
      (increasing_distinct xs ((subset_is_increasing m.elements xs).0 h).0) in
      let s = sorted_set m.elements (map (element_at w) xs) u.within d in
      let basis : IsBasis m (sorted (map (element_at w) xs)) = record {
        list = s.list;
        size = s.size ∙ u.size;
        nonzero = λ q. uniform (sorted (map (element_at w) xs)) s.list (s.size ∙ u.size)
            (sym (value_in_order 1 m.elements (chi_of m) (sorted (map (element_at w) xs)) s.list) ∙ q);
      } in
      ((acted_basis m w p xs h l).1 basis).nonzero (value_in_order 1 m.elements (chi_of (acted w m)) xs h ∙ z)
