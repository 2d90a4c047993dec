-- The action of the group of signed permutations on maps.
--
-- Main results: one after the other acts as the product (acted_twice), and the identity leaves each map as it is
-- (acted_identity); so a signed permutation can be undone (acted_back), and being isomorphic is an equivalence
-- (isomorphic_self, isomorphic_back, isomorphic_on).
use Rattle.std.proofs.Common.{ℕ, ◌≡◌, List, [], ◌∷◌, length, map, refl, sym, ap, subst, ◌∙◌, false}
use Rattle.om_signs.specs.declared.sign.Sign.TheVariants.{Plus}
use Rattle.om_signs.specs.Sign.{product}
use Rattle.om_signs.proofs.SignLaws.{product_assoc}
use Rattle.om_laws.specs.Reorientation.{turning, signs_product, reoriented}
use Rattle.om_chirotope.specs.Map.{SignMap, IsMap, chi_of, value_of}
use Rattle.om_chirotope.proofs.Theory.{to_tuple}
use Rattle.om_symmetry.specs.declared.signed_element.SignedElement.{SignedElement}
use Rattle.om_symmetry.specs.Permutations.{IsSignedPermutation, element_at, is_negated_at, image_value, acted, identity}
use Rattle.om_symmetry.specs.Permutations.{followed_by, AreIsomorphic}
use Rattle.om_symmetry.proofs.Places.{permutation_length}
use Rattle.om_symmetry.proofs.Products.{product_tuple, product_signs, product_permutation, identity_permutation}
use Rattle.om_symmetry.proofs.Products.{inverse_exists}
use Rattle.om_symmetry.proofs.Reorientations.{acted_reorientation}
use Rattle.om_symmetry.proofs.Images.{acted_value, tuple_image, same_by, by_own_signs}

module _ (m : SignMap) (w v : List SignedElement) (p : IsSignedPermutation m.elements w)
    (q : IsSignedPermutation m.elements v) where
  pub acted_twice : acted v (acted w m) ≡ acted (followed_by w v) m
  acted_twice = same_by m.rank m.elements (image_value v (value_of (acted w m)))
      (image_value (followed_by w v) (value_of m)) (λ xs h l.
      let t = to_tuple m.elements m.rank xs h l in
      let sv = signs_product (turning (is_negated_at v)) xs in
      let sw = signs_product (turning (is_negated_at w)) (map (element_at v) xs) in
      let x = value_of m (map (element_at w) (map (element_at v) xs)) in
      ap (product sv) (acted_value m w p (map (element_at v) xs) (tuple_image m.elements v q m.rank xs t))
      ∙ sym (product_assoc sv sw x)
      ∙ ap (λ s. product s x) (sym (product_signs w v xs))
      ∙ ap (λ l. product (signs_product (turning (is_negated_at (followed_by w v))) xs) (value_of m l))
      (sym (product_tuple w v xs)))

-- ---- the identity

plus_signs : (t : List ℕ) → signs_product (turning (λ i. false)) t ≡ Plus
plus_signs [] = refl
plus_signs (x ∷ t) = plus_signs t

pub acted_identity : (m : SignMap) → IsMap m → acted (identity m.elements) m ≡ m
acted_identity m whole = acted_reorientation m (λ i. false)
    ∙ same_by m.rank m.elements (reoriented (λ i. false) (chi_of m)) (chi_of m)
    (λ xs h l. ap (λ s. product s (chi_of m xs)) (plus_signs xs)) ∙ by_own_signs m whole

-- ---- inverses

pub acted_back : (m : SignMap) → IsMap m → (w v : List SignedElement) → IsSignedPermutation m.elements w
    → IsSignedPermutation m.elements v → followed_by w v ≡ identity (length w) → acted v (acted w m) ≡ m
acted_back m whole w v p q e = acted_twice m w v p q
    ∙ ap (λ u. acted u m) (e ∙ ap identity (permutation_length m.elements w p)) ∙ acted_identity m whole

-- being isomorphic is reflexive
pub isomorphic_self : (m : SignMap) → IsMap m → AreIsomorphic m m
isomorphic_self m whole = (identity m.elements, identity_permutation m.elements, acted_identity m whole)

-- being isomorphic is symmetric
pub isomorphic_back : (m k : SignMap) → IsMap m → AreIsomorphic m k → AreIsomorphic k m
isomorphic_back m k whole (w, p, e) =
    let v = inverse_exists m.elements w p in
    subst (λ j. AreIsomorphic j m) e
    (v.0, v.1.permutation, acted_back m whole w v.0 p v.1.permutation v.1.inverse.then_back)

-- being isomorphic is transitive
pub isomorphic_on : (m k j : SignMap) → AreIsomorphic m k → AreIsomorphic k j → AreIsomorphic m j
isomorphic_on m k j (w, p, e) (v, q, f) =
    let same : k.elements ≡ m.elements = ap (λ (i : SignMap). i.elements) (sym e) in
    let q' : IsSignedPermutation m.elements v = subst (λ n. IsSignedPermutation n v) same q in (
      followed_by w v,
      product_permutation m.elements w v p q',
      sym (acted_twice m w v p q') ∙ ap (acted v) e ∙ f,
    )
