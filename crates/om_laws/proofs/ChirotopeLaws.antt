-- A chirotope from its values on increasing lists.
--
-- Main results: the relations of increasing lists give those of all lists (relations_of_all_tuples), and conversely
-- (relations_of_increasing_tuples); with one nonzero value they make a chirotope (chirotope_from_increasing).
-- Reference: Björner, Las Vergnas, Sturmfels, White and Ziegler, Oriented Matroids, chapter 3.
use Rattle.std.specs.List.{range_with_len}
use Rattle.std.proofs.lemmas.Bool.{cases_eq, cases_lt}
use Rattle.std.proofs.Common.{ℕ, zero, suc, List, arith, inl, inr, sym, ap, subst, append-nil, ◌≡◌, ◌⊎◌, ◌∷◌, ◌++◌, ◌-◌}
use Rattle.std.proofs.Common.{◌<◌, ◌≤◌, [], ◌+◌, ◌∙◌}
use Rattle.om_signs.specs.declared.sign.Sign.{Sign}
use Rattle.om_signs.specs.declared.sign.Sign.TheVariants.{Zero}
use Rattle.om_signs.specs.Sign.{product}
use Rattle.om_signs.proofs.SignLaws.{zero_or_nonzero, product_zero_left, product_zero_right}
use Rattle.om_laws.specs.Members.{IsMember, IsDistinct}
use Rattle.om_laws.specs.Tuples.{value}
use Rattle.om_laws.specs.Chirotope.{elements_to, IsChirotope}
use Rattle.om_laws.specs.Sorting.{IsIncreasing, IsElement, IsTuple, on_tuples}
use Rattle.om_laws.specs.Signs.{IsNonzero}
use Rattle.om_laws.specs.Relations.{along, IsBalanced, HasIncreasingRelations, HasRelations}
use Rattle.om_laws.proofs.MemberLaws.{member_middle}
use Rattle.om_laws.proofs.SortingLaws.{value_increasing}
use Rattle.om_laws.proofs.RelationLaws.{relations_by_sorting, IsBalanced_same, IsBalanced_zero}
use Rattle.om_laws.proofs.TupleSizes.{each_member, is_tuple_cases, on_tuples_at, on_tuples_tuple, on_tuples_alternating}
use Rattle.om_laws.proofs.TupleSizes.{tuple_without, tuple_with, tuple_last, tuple_rank}

-- the relations of increasing lists of the right sizes are those of all lists
module _ (n r : ℕ) (f : List ℕ → Sign) where
  sized_term : (s a : List ℕ) → 1 ≤ r → IsTuple n (suc r) s → IsTuple n (r - 1) a → (cs bs : List ℕ) (x : ℕ)
      → s ≡ cs ++ x ∷ bs → product (on_tuples n r f (cs ++ bs)) (along (on_tuples n r f) a x)
      ≡ product (value f (cs ++ bs)) (along (value f) a x)
  sized_term s a pos ts ta cs bs x q =
      let i : IsElement n x =
      each_member (IsElement n) s ts.within x (subst (IsMember x) (sym q) (member_middle x cs bs)) in
      let e : suc (r - 1) ≡ r = omega arith in
      let t : IsTuple n (suc (r - 1)) (a ++ x ∷ []) =
      tuple_with n (r - 1) a [] x (subst (IsTuple n (r - 1)) (sym (append-nil a)) ta) i in
      ap (λ k. product k (along (on_tuples n r f) a x))
      (on_tuples_at n r f (cs ++ bs) (tuple_without n r cs bs x (subst (IsTuple n (suc r)) q ts)))
      ∙ ap (product (value f (cs ++ bs)))
      (on_tuples_at n r f (a ++ x ∷ []) (subst (λ k. IsTuple n k (a ++ x ∷ [])) e t))

  unsized_term : (s a : List ℕ) → ((1 ≤ r) × IsTuple n (suc r) s × IsTuple n (r - 1) a → ⊥) → (cs bs : List ℕ) (x : ℕ)
      → s ≡ cs ++ x ∷ bs → product (on_tuples n r f (cs ++ bs)) (along (on_tuples n r f) a x) ≡ Zero
  unsized_term s a none cs bs x q = elim (zero_or_nonzero (on_tuples n r f (cs ++ bs))) [
    | inl z ↦ product_zero_left _ _ z
    | inr m ↦ elim (zero_or_nonzero (along (on_tuples n r f) a x)) [
      | inl z ↦ product_zero_right _ _ z
      | inr k ↦
          let t = on_tuples_tuple n r f (a ++ x ∷ []) k in
          let l = tuple_last n r a x t in
          let e = tuple_rank n r a x t in
          absurd (none (
            omega arith,
            subst (IsTuple n (suc r)) (sym q) (tuple_with n r cs bs x (on_tuples_tuple n r f (cs ++ bs) m) l.1),
            l.0,
          ))
    ]
  ]

  increasing : HasIncreasingRelations n r (value f) → (s a : List ℕ) → IsIncreasing s → IsIncreasing a
      → IsBalanced (on_tuples n r f) s (along (on_tuples n r f) a)
  increasing rel s a is ia = elim (sized_or_not s a) [
    | inl h ↦ IsBalanced_same (on_tuples n r f) (value f) s (along (on_tuples n r f) a) (along (value f) a)
        (sized_term s a h.0 h.1 h.2) (rel s a h.0 h.1 h.2 is ia)
    | inr none ↦ IsBalanced_zero (on_tuples n r f) s (along (on_tuples n r f) a) (unsized_term s a none)
  ]
    where
      sized_or_not : (s a : List ℕ) → ((1 ≤ r) × IsTuple n (suc r) s × IsTuple n (r - 1) a)
          ⊎ ((1 ≤ r) × IsTuple n (suc r) s × IsTuple n (r - 1) a → ⊥)
      sized_or_not s a = elim (cases_lt 0 r) [
        | inl pos ↦ elim (is_tuple_cases n (suc r) s) [
          | inl ts ↦ elim (is_tuple_cases n (r - 1) a) [
            | inl ta ↦ inl (omega arith, ts.0, ta.0)
            | inr none ↦ inr (λ h. none.0 h.2)
          ]
          | inr none ↦ inr (λ h. none.0 h.1)
        ]
        | inr none ↦ inr (λ h. let k = h.0 in omega (arith, k, none))
      ]

  pub relations_of_all_tuples : HasIncreasingRelations n r (value f) → HasRelations (on_tuples n r f)
  relations_of_all_tuples rel = relations_by_sorting (on_tuples n r f) (on_tuples_alternating n r f) (increasing rel)

  -- and back
  pub relations_of_increasing_tuples : HasRelations (on_tuples n r f) → HasIncreasingRelations n r (value f)
  relations_of_increasing_tuples rel s a pos ts ta is ia =
      IsBalanced_same (value f) (on_tuples n r f) s (along (value f) a) (along (on_tuples n r f) a)
      (λ cs bs x q. sym (sized_term s a pos ts ta cs bs x q)) (rel s a)

range_member : (low n e : ℕ) → low ≤ e → e < low + n → IsMember e (range_with_len low n)
range_member low zero e a b = absurd (omega (arith, a, b))
range_member low (suc n) e a b =
    elim (cases_eq e low) [ inl q ↦ inl q | inr ne ↦ inr (range_member (low + 1) n e (omega arith) (omega arith)) ]

range_bounds : (low n e : ℕ) → IsMember e (range_with_len low n) → (low ≤ e) × (e < low + n)
range_bounds low zero e m = absurd m
range_bounds low (suc n) e (inl q) = (omega arith, omega arith)
range_bounds low (suc n) e (inr m) = let k = range_bounds (low + 1) n e m in let a = k.0 in let b = k.1 in
    (omega arith, omega arith)

-- each number from 1 to n is in the list of the elements 1 to n
pub member_from_element : (n e : ℕ) → IsElement n e → IsMember e (elements_to n)
member_from_element n e (a, b) = range_member 1 n e a (omega (arith, b))

-- each member of the list of the elements 1 to n is a number from 1 to n
pub element_from_member : (n e : ℕ) → IsMember e (elements_to n) → IsElement n e
element_from_member n e m = let k = range_bounds 1 n e m in let a = k.0 in let b = k.1 in (a, omega (arith, b))

-- the relations of increasing lists, and one nonzero value, make a chirotope
pub chirotope_from_increasing : (n r : ℕ) (f : List ℕ → Sign) → HasIncreasingRelations n r (value f) → (t : List ℕ)
    → IsTuple n r t → IsIncreasing t → IsNonzero (f t) → IsChirotope (elements_to n) (on_tuples n r f)
chirotope_from_increasing n r f rel t tt' it nz = record {
  alternating = on_tuples_alternating n r f;
  within = λ x n' e m. member_from_element n e (each_member (IsElement n) x (on_tuples_tuple n r f x n').within e m);
  relations = relations_of_all_tuples n r f rel;
  base = (t, subst IsNonzero (sym (on_tuples_at n r f t tt' ∙ value_increasing f t it)) nz);
}

range_distinct : (low n : ℕ) → IsDistinct (range_with_len low n)
range_distinct low zero = tt
range_distinct low (suc n) =
    ((λ m. let k = (range_bounds (low + 1) n low m).0 in omega (arith, k)), range_distinct (low + 1) n)

-- the list of the elements 1 to n has no repeat
pub elements_distinct : (n : ℕ) → IsDistinct (elements_to n)
elements_distinct n = range_distinct 1 n
