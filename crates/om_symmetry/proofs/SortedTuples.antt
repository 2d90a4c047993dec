-- Tuples and their sorted lists.
--
-- Main results: the sorted list of a distinct tuple has its elements (sorted_set); a tuple has a nonzero value exactly
-- where it is distinct and its sorted list is a basis (basis_of_tuple, tuple_of_basis).
use Rattle.std.proofs.Common.{ℕ, ◌≡◌, ◌≢◌, ◌↔◌, List, [], ◌∷◌, length, refl, sym}
use Rattle.std.proofs.Common.{◌∙◌, inl, inr, ⊎_elim, arith}
use Rattle.om_signs.specs.declared.sign.Sign.TheVariants.{Zero}
use Rattle.om_signs.proofs.SignLaws.{product_nonzero, right_factor_nonzero}
use Rattle.om_subsets.specs.Subsets.{IsSubsetFrom}
use Rattle.om_subsets.proofs.Statements.{members_with}
use Rattle.om_laws.specs.Members.{IsMember, IsDistinct}
use Rattle.om_laws.specs.Sorting.{IsElement, Each, IsTuple}
use Rattle.om_laws.specs.Tuples.{sorted, sort_sign}
use Rattle.om_laws.proofs.BlockLaws.{sort_sign_nonzero}
use Rattle.om_laws.proofs.TupleLaws.{value_alternating, nonzero_distinct}
use Rattle.om_chirotope.specs.Map.{SignMap, chi_of, value_of}
use Rattle.om_chirotope.specs.ThreeTerm.{IsBasis}
use Rattle.om_chirotope.proofs.Cocircuits.{insert_with, length-with}
use Rattle.om_chirotope.proofs.InOrder.{value_in_order}
use Rattle.om_chirotope.proofs.Theory.{lawful_with}

-- s is the increasing list of the elements of t
pub record IsSortedSet (n : ℕ) (t s : List ℕ) : Type 0 where
  pub list : IsSubsetFrom 1 n s
  pub size : length s ≡ length t
  pub members : (e : ℕ) → IsMember e s ↔ IsMember e t

-- the sorted list of a distinct tuple of 1 to n is the increasing list of its elements
pub sorted_set : (n : ℕ) (t : List ℕ) → Each (IsElement n) t → IsDistinct t → IsSortedSet n t (sorted t)
sorted_set n [] w d = record { list = tt; size = refl; members = λ e. (λ m. m, λ m. m) }
sorted_set n (x ∷ t) w d =
    let rest = sorted_set n t w.1 d.1 in
    let fresh : IsMember x (sorted t) → ⊥ = (λ m. d.0 ((rest.members x).0 m)) in
    let low = w.0.0 in
    let high = w.0.1 in
    let size = rest.size in
    rw (insert_with x (sorted t) fresh) (record {
      list = lawful_with 1 n x (sorted t) rest.list low (omega arith);
      size = length-with x (sorted t) fresh ∙ omega arith;
      members = λ e. (
        λ m. ⊎_elim (λ q. inl q) (λ j. inr ((rest.members e).0 j)) ((members_with x e (sorted t)).0 m),
        λ m. (members_with x e (sorted t)).1 (⊎_elim (λ q. inl q) (λ j. inr ((rest.members e).1 j)) m),
      );
    })

-- ---- bases

module _ (m : SignMap) (t : List ℕ) (h : IsTuple m.elements m.rank t) where
  pub distinct_value : value_of m t ≢ Zero → IsDistinct t
  distinct_value k = nonzero_distinct (value_of m) (value_alternating (chi_of m)) t k

  pub basis_of_tuple : value_of m t ≢ Zero → IsBasis m (sorted t)
  basis_of_tuple k =
      let s = sorted_set m.elements t h.within (distinct_value k) in
      record {
        list = s.list;
        size = s.size ∙ h.size;
        nonzero = λ z. right_factor_nonzero (sort_sign t) (chi_of m (sorted t)) k
            (sym (value_in_order 1 m.elements (chi_of m) (sorted t) s.list) ∙ z);
      }

  pub tuple_of_basis : IsDistinct t → IsBasis m (sorted t) → value_of m t ≢ Zero
  tuple_of_basis d b = product_nonzero (sort_sign t) (chi_of m (sorted t)) (sort_sign_nonzero t d)
      (λ z. b.nonzero (value_in_order 1 m.elements (chi_of m) (sorted t) b.list ∙ z))
