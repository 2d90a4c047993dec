-- The signature of an extension is a localization: the signs on each circle of cocircuits.
--
-- Main results: pair_list, table_sign, circle_turn, circle_three, circle_within, signature_on_circles
-- Reference: Björner, Las Vergnas, Sturmfels, White and Ziegler, Oriented Matroids, chapter 7.
use Rattle.std.specs.Prelude.{ℕ, ◌≡◌, ◌+◌, ◌<◌, ◌≤◌, List, [], ◌∷◌, ◌++◌, length, map, refl}
use Rattle.std.proofs.Common.{suc, sym, ◌∙◌, ap, subst, ⊎_elim, arith, inl, inr}
use Rattle.std.proofs.lemmas.List.{get_or-map}
use Rattle.om_signs.specs.declared.sign.Sign.{Sign}
use Rattle.om_signs.specs.declared.sign.Sign.TheVariants.{Zero}
use Rattle.om_signs.specs.Sign.{opposite, product}
use Rattle.om_signs.specs.SignVec.{at}
use Rattle.om_signs.proofs.SignLaws.{zero_or_nonzero}
use Rattle.om_subsets.specs.Subsets.{IsSubsetFrom, all_subsets, rank_of}
use Rattle.om_subsets.proofs.Order.{length-subsets_from, rank_from-lt, get_or-rank_from}
use Rattle.om_laws.specs.Signs.{IsNonzero}
use Rattle.om_laws.specs.ThreeTerm.{AreBalanced}
use Rattle.om_laws.specs.Relations.{HasRelations}
use Rattle.om_laws.specs.Sorting.{IsElement, IsTuple, IsIncreasing, on_tuples}
use Rattle.om_laws.specs.Chirotope as theory
use Rattle.om_laws.specs.Chirotope.{elements_to}
use Rattle.om_laws.proofs.MemberLaws.{search_members}
use Rattle.om_laws.proofs.TupleSizes.{on_tuples_tuple, on_tuples_alternating}
use Rattle.om_laws.proofs.ChirotopeLaws.{member_from_element}
use Rattle.om_chirotope.specs.Map.{SignMap, chi_of}
use Rattle.om_chirotope.specs.Chirotope.{IsChirotope}
use Rattle.om_chirotope.proofs.Theory.{from_tuple, theory_chirotope}
use Rattle.om_localize.specs.Extensions.{IsExtension, signature_of}
use Rattle.om_localize.specs.Circles.{circle_of, pair_sign, signs_on_circle, IsLocalization}
use Rattle.om_localize.proofs.CircleLaws as circles
use Rattle.om_localize.proofs.NewElement as element
use Rattle.om_localize.proofs.NewRelations as new_relations

-- ---- increasing lists

-- two elements of 1 to n, the smaller one first, are an increasing list of such elements
pub pair_list : (n x y : ℕ) → 1 ≤ x → x < y → y ≤ n → IsSubsetFrom 1 n (x ∷ y ∷ [])
pair_list n x y low lt high =
    from_tuple n 2 (x ∷ y ∷ []) (record { size = refl; within = ((low, omega arith), ((omega arith, high), tt)) })
    (lt, tt)

-- the sign of a list in a table of all lists of its size
pub table_sign : (n r : ℕ) (f : List ℕ → Sign) (xs : List ℕ) → IsSubsetFrom 1 n xs → length xs ≡ r
    → at (map f (all_subsets n r)) (rank_of n xs) ≡ f xs
table_sign n r f xs h l = subst (λ k. at (map f (all_subsets n k)) (rank_of n xs) ≡ f xs) l
    (get_or-map f (all_subsets n (length xs)) (rank_of n xs) [] Zero
    (rw (length-subsets_from 1 n (length xs)) (rank_from-lt 1 n xs h)) ∙ ap f (get_or-rank_from 1 n xs h))

-- ---- a base, and the relations of a map

pub old_base : (m : SignMap) → m.rank ≡ 3 → IsChirotope m → (x : ℕ) × (y : ℕ) × (z : ℕ) × IsNonzero (circle_of m x y z)
old_base m r h = triple c.base
  where
    c : theory.IsChirotope (elements_to m.elements) (on_tuples m.elements 3 (chi_of m))
    c = subst (λ k. theory.IsChirotope (elements_to m.elements) (on_tuples m.elements k (chi_of m))) r
        (theory_chirotope m h)

    triple : (t : List ℕ) × IsNonzero (on_tuples m.elements 3 (chi_of m) t) → (x : ℕ) × (y : ℕ) × (z : ℕ)
        × IsNonzero (circle_of m x y z)
    triple ([], nz) = let l = (on_tuples_tuple m.elements 3 (chi_of m) [] nz).size in absurd (omega arith)
    triple (x ∷ [], nz) = let l = (on_tuples_tuple m.elements 3 (chi_of m) (x ∷ []) nz).size in absurd (omega arith)
    triple (x ∷ y ∷ [], nz) = let l = (on_tuples_tuple m.elements 3 (chi_of m) (x ∷ y ∷ []) nz).size in
        absurd (omega arith)
    triple (x ∷ y ∷ z ∷ [], nz) = (x, y, z, nz)
    triple (x ∷ y ∷ z ∷ w ∷ ws, nz) = let l = (on_tuples_tuple m.elements 3 (chi_of m) (x ∷ y ∷ z ∷ w ∷ ws) nz).size in
        absurd (omega arith)

pub relations_of : (m : SignMap) (n r : ℕ) → m.elements ≡ n → m.rank ≡ r → IsChirotope m
    → HasRelations (on_tuples n r (chi_of m))
relations_of m n r p q h = subst (λ k. HasRelations (on_tuples n k (chi_of m))) q
    (subst (λ k. HasRelations (on_tuples k m.rank (chi_of m))) p (theory_chirotope m h).relations)

-- ---- the circles

pub circle_turn : (m : SignMap) (e x y : ℕ) → circle_of m e y x ≡ opposite (circle_of m e x y)
circle_turn m e x y = on_tuples_alternating m.elements 3 (chi_of m) x y (e ∷ []) []

pub circle_three : (m : SignMap) → m.rank ≡ 3 → IsChirotope m → (e x y z v : ℕ)
    → AreBalanced (product (circle_of m e x y) (circle_of m e z v))
    (opposite (product (circle_of m e x z) (circle_of m e y v))) (product (circle_of m e x v) (circle_of m e y z))
circle_three m r h = element.three_terms (on_tuples m.elements 3 (chi_of m))
    (on_tuples_alternating m.elements 3 (chi_of m)) (relations_of m m.elements 3 refl r h)

pub circle_within : (m : SignMap) (e f g : ℕ) → IsNonzero (circle_of m e f g)
    → (IsElement m.elements f × IsElement m.elements g)
circle_within m e f g nz = let w = (on_tuples_tuple m.elements 3 (chi_of m) (e ∷ f ∷ g ∷ []) nz).within in
    (w.1.0, w.1.1.0)

-- ---- the signature of an extension is a localization

module _ (m w : SignMap) (r : m.rank ≡ 3) (h : IsChirotope m) (x : IsExtension m w) where
  agrees : (t : List ℕ) → IsTuple m.elements 3 t → IsIncreasing t → chi_of w t ≡ chi_of m t
  agrees t u i = x.agrees t (from_tuple m.elements 3 t u i) (u.size ∙ sym r)

  signs_of_pairs : (a b : ℕ) → 1 ≤ a → a < b → b ≤ m.elements
      → chi_of w (a ∷ b ∷ suc m.elements ∷ []) ≡ pair_sign m.elements (signature_of m.elements w) (a ∷ b ∷ [])
  signs_of_pairs a b low lt high =
      let e : m.elements + 1 ≡ suc m.elements = omega arith in
      subst (λ z. chi_of w (a ∷ b ∷ z ∷ []) ≡ pair_sign m.elements (signature_of m.elements w) (a ∷ b ∷ [])) e
      (sym (table_sign m.elements 2 (λ pair. chi_of w (pair ++ (m.elements + 1) ∷ [])) (a ∷ b ∷ [])
      (pair_list m.elements a b low lt high) refl))

  rel : HasRelations (on_tuples (suc m.elements) 3 (chi_of w))
  rel = relations_of w (suc m.elements) 3 (x.elements ∙ omega arith) (x.rank ∙ r) x.chirotope

  pub signature_on_circles : IsLocalization m (signature_of m.elements w)
  signature_on_circles e =
      let b = old_base m r h in
      let circle = circle_of m e in
      let s = signs_on_circle m.elements (signature_of m.elements w) e in
      let relation = new_relations.relation_of_extension m.elements (chi_of m)
      (pair_sign m.elements (signature_of m.elements w)) (chi_of w) agrees signs_of_pairs rel e in
      let spanned = new_relations.spanned_in_extension m.elements (chi_of m)
      (pair_sign m.elements (signature_of m.elements w)) (chi_of w) agrees signs_of_pairs rel b.0 b.1 b.2 b.3 e in
      ⊎_elim
      (λ p. circles.on_halves (elements_to m.elements) circle s
      (λ f g. on_tuples_alternating m.elements 3 (chi_of m) f g (e ∷ []) [])
      (λ f g nz. member_from_element m.elements f
      (on_tuples_tuple m.elements 3 (chi_of m) (e ∷ f ∷ g ∷ []) nz).within.1.0)
      relation p.0 (spanned p.0 p.2))
      (λ none. inl
      (λ f. ⊎_elim (λ z. z)
      (λ nz. none f
      (member_from_element m.elements f
      (on_tuples_tuple m.elements 2 (pair_sign m.elements (signature_of m.elements w)) (e ∷ f ∷ []) nz).within.1.0))
      (zero_or_nonzero (s f))))
      (search_members (λ f. IsNonzero (s f)) (λ f. s f ≡ Zero)
      (λ f. ⊎_elim (λ z. inr z) (λ nz. inl nz) (zero_or_nonzero (s f))) (elements_to m.elements))
