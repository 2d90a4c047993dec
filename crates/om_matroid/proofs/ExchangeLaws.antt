-- Exchange of elements of two bases.
--
-- Main results: an element of a basis that is not in another changes places with one of the other (symmetric_exchange).
-- Reference: Björner, Las Vergnas, Sturmfels, White and Ziegler, Oriented Matroids, chapter 3.
use Rattle.std.proofs.Common.{ℕ, ◌≡◌, ◌≢◌, List, [], ◌∷◌, ◌++◌, sym, subst, ◌∙◌, arith}
use Rattle.om_signs.specs.declared.sign.Sign.{Sign}
use Rattle.om_signs.specs.declared.sign.Sign.TheVariants.{Zero}
use Rattle.om_subsets.specs.Subsets.{IsMember, with_element, without_element}
use Rattle.om_subsets.proofs.OneElement.{subset_without}
use Rattle.om_subsets.proofs.Statements.{subset_is_increasing, members_without}
use Rattle.om_laws.specs.Sorting.{IsElement, IsTuple, on_tuples}
use Rattle.om_laws.specs.Chirotope.{elements_to}
use Rattle.om_laws.specs.Bases.{IsBase, SymmetricExchange}
use Rattle.om_laws.proofs.MemberLaws.{split_at, member_middle}
use Rattle.om_laws.proofs.SortingLaws.{increasing_distinct}
use Rattle.om_laws.proofs.TupleSizes.{each_from, each_member, on_tuples_at, on_tuples_tuple}
use Rattle.om_laws.proofs.BaseLaws as base_laws
use Rattle.om_laws.proofs.FundamentalCircuits as bases
use Rattle.om_chirotope.specs.Map.{SignMap, chi_of, value_of}
use Rattle.om_chirotope.specs.Chirotope.{IsChirotope}
use Rattle.om_chirotope.proofs.Circuits.{length-without}
use Rattle.om_chirotope.proofs.Cocircuits.{length-with}
use Rattle.om_chirotope.proofs.ExchangeForms.{nonzero_in_place}
use Rattle.om_chirotope.proofs.Theory.{theory_chirotope, lawful_with}
use Rattle.om_matroid.specs.Bases.{IsExchange}
use Rattle.om_chirotope.specs.ThreeTerm.{IsBasis}
use Rattle.om_matroid.proofs.ListLaws.{without_middle}

module _ (m : SignMap) (axioms : IsChirotope m) where
  abbrev chi : List ℕ → Sign
  chi = on_tuples m.elements m.rank (chi_of m)

  base_of_basis : (b : List ℕ) → IsBasis m b → IsBase chi b
  base_of_basis b basis z =
      let tuple : IsTuple m.elements m.rank b =
      record {
        size = basis.size;
        within =
            each_from (IsElement m.elements) b ((subset_is_increasing m.elements b).0 basis.list).1;
      } in
      basis.nonzero (sym (on_tuples_at m.elements m.rank (chi_of m) b tuple) ∙ z)

  -- a tuple with a nonzero value, in which y stands in the place of an element x of a basis
  replaced : (u : List ℕ) (x : ℕ) (v : List ℕ) (y : ℕ) → IsBasis m (u ++ x ∷ v) → IsBase chi (u ++ y ∷ v)
      → (IsMember y (u ++ x ∷ v) → ⊥) → IsBasis m (with_element y (without_element x (u ++ x ∷ v)))
  replaced u x v y basis base other =
      let rest = without_element x (u ++ x ∷ v) in
      let list = subset_without 1 m.elements x (u ++ x ∷ v) basis.list in
      let fresh : IsMember y rest → ⊥ = (λ k. other ((members_without x y (u ++ x ∷ v)).0 k).1) in
      let tuple = on_tuples_tuple m.elements m.rank (chi_of m) (u ++ y ∷ v) base in
      let bound = each_member (IsElement m.elements) (u ++ y ∷ v) tuple.within y (member_middle y u v) in
      let low = bound.0 in
      let high = bound.1 in
      let lawful = lawful_with 1 m.elements y rest list low (omega arith) in
      let without =
      without_middle u x v
      (increasing_distinct (u ++ x ∷ v) ((subset_is_increasing m.elements (u ++ x ∷ v)).0 basis.list).0) in
      let behind : IsBase chi ((u ++ v) ++ y ∷ []) =
      ((bases.fundamental_cocircuit (elements_to m.elements) chi (theory_chirotope m axioms) u v x
      (base_of_basis (u ++ x ∷ v) basis)).exchange y).1 base in
      let value_behind : value_of m ((u ++ v) ++ y ∷ []) ≢ Zero =
      (λ z. behind
      (on_tuples_at m.elements m.rank (chi_of m) ((u ++ v) ++ y ∷ [])
      (on_tuples_tuple m.elements m.rank (chi_of m) ((u ++ v) ++ y ∷ []) behind) ∙ z)) in
      record {
        list = lawful;
        size = length-with y rest fresh ∙ length-without 1 m.elements x (u ++ x ∷ v) basis.list (member_middle x u v)
            ∙ basis.size;
        nonzero = nonzero_in_place m.elements y (chi_of m) rest list lawful fresh
            (subst (λ l. value_of m (l ++ y ∷ []) ≢ Zero) (sym without) value_behind);
      }

  -- in a chirotope, an element of one basis off another changes places with one of the other, and both stay bases
  pub symmetric_exchange : (b c : List ℕ) (e : ℕ) → IsBasis m b → IsBasis m c → IsMember e b → (IsMember e c → ⊥)
      → (f : ℕ) × IsExchange m b c e f × IsBasis m (with_element e (without_element f c))
  symmetric_exchange b c e first second inside outside =
      let s = split_at e b inside in
      changed s.0 s.1 s.2
      (base_laws.symmetric_exchange (elements_to m.elements) chi (theory_chirotope m axioms) s.0 e s.1 c
      (subst (IsBase chi) s.2 (base_of_basis b first)) (base_of_basis c second) outside)
    where
      changed : (u v : List ℕ) → b ≡ u ++ e ∷ v → SymmetricExchange chi u e v c → (f : ℕ) × IsExchange m b c e f
          × IsBasis m (with_element e (without_element f c))
      changed u v q (f, p, r, k, new, one, two) = (
        f,
        record {
          inside = subst (IsMember f) (sym k) (member_middle f p r);
          outside = subst (λ l. IsMember f l → ⊥) (sym q) new;
          basis = subst (λ l. IsBasis m (with_element f (without_element e l))) (sym q)
              (replaced u e v f (subst (IsBasis m) q first) one new);
        },
        subst (λ l. IsBasis m (with_element e (without_element f l))) (sym k)
            (replaced p f r e (subst (IsBasis m) k second) two (subst (λ l. IsMember e l → ⊥) k outside)),
      )
