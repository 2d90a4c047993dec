-- The bases of an image, and its loops, coloops and independent sets.
--
-- Main results: a list is a basis of the image exactly where the list of the old elements is one of the map
-- (acted_basis); so are loops (acted_loop), coloops (acted_coloop) and independent sets (acted_independent).
use Rattle.std.proofs.Common.{ℕ, ◌≡◌, ◌≢◌, ◌↔◌, List, [], ◌∷◌, length, map, sym, ap, subst, ◌∙◌}
use Rattle.std.proofs.lemmas.List.{length-map}
use Rattle.om_signs.specs.declared.sign.Sign.TheVariants.{Zero}
use Rattle.om_signs.proofs.SignLaws.{product_nonzero, right_factor_nonzero}
use Rattle.om_subsets.specs.Subsets.{IsSubsetFrom}
use Rattle.om_subsets.proofs.Statements.{subset_is_increasing}
use Rattle.om_laws.specs.Members.{IsMember, IsDistinct}
use Rattle.om_laws.specs.Reorientation.{turning, signs_product}
use Rattle.om_laws.specs.Sorting.{IsElement, Each, IsTuple}
use Rattle.om_laws.specs.Tuples.{sorted}
use Rattle.om_laws.proofs.PulledBackMaps.{map_member, map_image}
use Rattle.om_laws.proofs.SortingLaws.{increasing_distinct}
use Rattle.om_laws.proofs.TupleSizes.{each_member}
use Rattle.om_laws.proofs.TurnedVectors.{signs_product_nonzero}
use Rattle.om_chirotope.specs.Map.{SignMap, value_of}
use Rattle.om_chirotope.specs.ThreeTerm.{IsBasis}
use Rattle.om_chirotope.proofs.Theory.{to_tuple}
use Rattle.om_matroid.specs.Bases.{IsIndependent, IsLoop, IsColoop}
use Rattle.om_symmetry.specs.declared.signed_element.SignedElement.{SignedElement}
use Rattle.om_symmetry.specs.Permutations.{IsSignedPermutation, element_at, is_negated_at, acted}
use Rattle.om_symmetry.proofs.Places.{element_apart}
use Rattle.om_symmetry.proofs.Images.{acted_value, tuple_image}
use Rattle.om_symmetry.proofs.Axioms.{old_tuple}
use Rattle.om_symmetry.proofs.SortedTuples.{sorted_set, basis_of_tuple, tuple_of_basis, distinct_value}

module _ (n : ℕ) (w : List SignedElement) (p : IsSignedPermutation n w) where
  -- an element is in a tuple exactly where the old one is in the tuple of the old ones
  member_there : (t : List ℕ) → Each (IsElement n) t → (i : ℕ) → IsElement n i
      → IsMember i t ↔ IsMember (element_at w i) (map (element_at w) t)
  member_there t h i k = (
    map_member (element_at w) [] i t,
    λ m. let j = map_image (element_at w) [] (element_at w i) t m in
        subst (λ e. IsMember e t)
        (sym (element_apart n w p i j.0 k (each_member (IsElement n) t h j.0 j.1) j.2)) j.1,
  )

  -- the old elements of distinct elements of 1 to n are distinct
  pub distinct_there : (t : List ℕ) → Each (IsElement n) t → IsDistinct t → IsDistinct (map (element_at w) t)
  distinct_there [] h d = tt
  distinct_there (x ∷ t) h d = (λ m. d.0 ((member_there t h.1 x h.0).1 m), distinct_there t h.1 d.1)

module _ (m : SignMap) (w : List SignedElement) (p : IsSignedPermutation m.elements w) where
  -- a value of the image isn't zero exactly where that of the old elements isn't
  value_there : (t : List ℕ) → IsTuple m.elements m.rank t
      → (value_of (acted w m) t ≢ Zero) ↔ (value_of m (map (element_at w) t) ≢ Zero)
  value_there t h = (
    λ k. right_factor_nonzero (signs_product (turning (is_negated_at w)) t) (value_of m (map (element_at w) t))
        (λ z. k (acted_value m w p t h ∙ z)),
    λ k z. product_nonzero (signs_product (turning (is_negated_at w)) t) (value_of m (map (element_at w) t))
        (signs_product_nonzero (is_negated_at w) t) k (sym (acted_value m w p t h) ∙ z),
  )

  -- a set is a basis of the image exactly if the sorted list of its old elements is a basis of the map
  pub acted_basis : (b : List ℕ) → IsSubsetFrom 1 m.elements b → length b ≡ m.rank
      → IsBasis (acted w m) b ↔ IsBasis m (sorted (map (element_at w) b))
  acted_basis b h l =
      let t = to_tuple m.elements m.rank b h l in
      let u = tuple_image m.elements w p m.rank b t in
      let d = distinct_there m.elements w p b t.within
      (increasing_distinct b ((subset_is_increasing m.elements b).0 h).0) in (
        λ basis. basis_of_tuple m (map (element_at w) b) u ((value_there b t).0 basis.nonzero),
        λ basis. record {
          list = h;
          size = l;
          nonzero = (value_there b t).1 (tuple_of_basis m (map (element_at w) b) u d basis);
        },
      )

  -- ---- a basis of the image, and one of the map, with the same elements

  pub record AreSameBases (b c : List ℕ) : Type 0 where
    pub new : IsBasis (acted w m) b
    pub old : IsBasis m c
    pub members : (i : ℕ) → IsElement m.elements i → IsMember i b ↔ IsMember (element_at w i) c

  pub basis_there : (b : List ℕ) → IsBasis (acted w m) b → (c : List ℕ) × AreSameBases b c
  basis_there b basis =
      let t = to_tuple m.elements m.rank b basis.list basis.size in
      let u = tuple_image m.elements w p m.rank b t in
      let k = (value_there b t).0 basis.nonzero in
      let s = sorted_set m.elements (map (element_at w) b) u.within (distinct_value m (map (element_at w) b) u k) in (
        sorted (map (element_at w) b),
        record {
          new = basis;
          old = basis_of_tuple m (map (element_at w) b) u k;
          members = λ i h. (
            λ j. (s.members (element_at w i)).1 ((member_there m.elements w p b t.within i h).0 j),
            λ j. (member_there m.elements w p b t.within i h).1 ((s.members (element_at w i)).0 j),
          );
        },
      )

  -- for each basis of the map, some basis of the image has the same elements
  pub basis_back : (c : List ℕ) → IsBasis m c → (b : List ℕ) × AreSameBases b c
  basis_back c basis =
      let t = to_tuple m.elements m.rank c basis.list basis.size in
      let u = old_tuple m.elements w p c t.within in
      let ut : IsTuple m.elements m.rank u.0 = record {
        size = sym (length-map u.0 (element_at w)) ∙ ap length u.1.image ∙ t.size;
        within = u.1.within;
      } in
      let k : value_of (acted w m) u.0 ≢ Zero =
      (value_there u.0 ut).1 (subst (λ l. value_of m l ≢ Zero) (sym u.1.image) basis.nonzero) in
      let s = sorted_set m.elements u.0 u.1.within (distinct_value (acted w m) u.0 ut k) in (
        sorted u.0,
        record {
          new = basis_of_tuple (acted w m) u.0 ut k;
          old = basis;
          members = λ i h. (
            λ j. subst (IsMember (element_at w i)) u.1.image
                ((member_there m.elements w p u.0 u.1.within i h).0 ((s.members i).0 j)),
            λ j. (s.members i).1
                ((member_there m.elements w p u.0 u.1.within i h).1
                (subst (IsMember (element_at w i)) (sym u.1.image) j)),
          );
        },
      )

  -- ---- loops, coloops and independent sets

  pub acted_loop : (i : ℕ) → IsElement m.elements i → IsLoop (acted w m) i ↔ IsLoop m (element_at w i)
  acted_loop i h = (
    λ loop c basis j. let b = basis_back c basis in loop b.0 b.1.new ((b.1.members i h).1 j),
    λ loop b basis j. let c = basis_there b basis in loop c.0 c.1.old ((c.1.members i h).0 j),
  )

  pub acted_coloop : (i : ℕ) → IsElement m.elements i → IsColoop (acted w m) i ↔ IsColoop m (element_at w i)
  acted_coloop i h = (
    λ coloop c basis. let b = basis_back c basis in (b.1.members i h).0 (coloop b.0 b.1.new),
    λ coloop b basis. let c = basis_there b basis in (c.1.members i h).1 (coloop c.0 c.1.old),
  )

  -- a set is independent in the image exactly if that of its old elements is independent in the map
  pub acted_independent : (s : List ℕ) → Each (IsElement m.elements) s
      → IsIndependent (acted w m) s ↔ IsIndependent m (map (element_at w) s)
  acted_independent s h = (there, back)
    where
      there : IsIndependent (acted w m) s → IsIndependent m (map (element_at w) s)
      there (b, basis, part) =
          let c = basis_there b basis in (
            c.0,
            c.1.old,
            λ e j. let i = map_image (element_at w) [] e s j in
                subst (λ k. IsMember k c.0) (sym i.2)
                ((c.1.members i.0 (each_member (IsElement m.elements) s h i.0 i.1)).0 (part i.0 i.1)),
          )

      back : IsIndependent m (map (element_at w) s) → IsIndependent (acted w m) s
      back (c, basis, part) =
          let b = basis_back c basis in (
            b.0,
            b.1.new,
            λ i j. (b.1.members i (each_member (IsElement m.elements) s h i j)).1
                (part (element_at w i) (map_member (element_at w) [] i s j)),
          )
