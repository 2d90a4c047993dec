-- What the signature of an extension of rank 3 says of the bases with the new element.
--
-- Main results: the sign of a pair (pair_value); the new element is in a basis with f exactly where the signature isn't
-- zero on the circle of f (apart_of_basis, basis_of_apart); bases of the map are bases of the extension (basis_up).
use Rattle.std.proofs.Common.{ℕ, suc, ◌≡◌, ◌≢◌, ◌+◌, ◌<◌, ◌≤◌, List, [], ◌∷◌, ◌++◌, refl, sym, ap, subst, ◌∙◌, inl, inr}
use Rattle.std.proofs.Common.{⊎_elim, arith}
use Rattle.std.proofs.lemmas.Bool.{cases_lt, cases_eq}
use Rattle.om_signs.specs.declared.sign.Sign.{Sign}
use Rattle.om_signs.specs.declared.sign.Sign.TheVariants.{Zero}
use Rattle.om_signs.proofs.SignLaws.{zero_or_nonzero, opposite_zero, zero_from_opposite}
use Rattle.om_subsets.specs.Subsets.{IsSubsetFrom, IsMember}
use Rattle.om_subsets.proofs.Statements.{subset_is_increasing}
use Rattle.om_laws.specs.Signs.{IsNonzero}
use Rattle.om_laws.specs.Chirotope.{elements_to}
use Rattle.om_laws.specs.Sorting.{IsElement}
use Rattle.om_laws.proofs.ChirotopeLaws.{element_from_member}
use Rattle.om_laws.proofs.MemberLaws.{search_members}
use Rattle.om_chirotope.specs.Map.{SignMap, chi_of}
use Rattle.om_chirotope.specs.ThreeTerm.{IsBasis}
use Rattle.om_chirotope.proofs.InOrder.{value_in_order}
use Rattle.om_matroid.specs.Bases.{IsIndependent}
use Rattle.om_localize.specs.Circles.{IsZeroOn, signs_on_circle}
use Rattle.om_localize.specs.Extensions.{IsExtension, signature_of}
use Rattle.om_localize.proofs.CircleSigns.{low_sign, turned_sign, own_sign, supported_signs}
use Rattle.om_localize.proofs.SignatureCircles.{pair_list, table_sign}
use Rattle.om_covers.proofs.Shorter.{longer}

module _ (m y : SignMap) (r : m.rank ≡ 3) (ext : IsExtension m y) where
  abbrev signs : List Sign
  signs = signature_of m.elements y

  one_more : y.elements ≡ suc m.elements
  one_more = ext.elements ∙ omega arith

  pub rank_three : y.rank ≡ 3
  rank_three = ext.rank ∙ r

  -- ---- the sign of a pair

  pub pair_value : (a b : ℕ) → 1 ≤ a → a < b → b ≤ m.elements
      → signs_on_circle m.elements signs a b ≡ chi_of y (a ∷ b ∷ suc m.elements ∷ [])
  pair_value a b low lt high =
      let e : m.elements + 1 ≡ suc m.elements = omega arith in
      low_sign m.elements signs a b low lt high
      ∙ table_sign m.elements 2 (λ pair. chi_of y (pair ++ (m.elements + 1) ∷ [])) (a ∷ b ∷ [])
      (pair_list m.elements a b low lt high) refl
      ∙ ap (λ k. chi_of y (a ∷ b ∷ k ∷ [])) e

  -- ---- a basis with the new element and f

  basis_of_pair : (a b : ℕ) → 1 ≤ a → a < b → b ≤ m.elements → signs_on_circle m.elements signs a b ≢ Zero
      → IsBasis y (a ∷ b ∷ suc m.elements ∷ [])
  basis_of_pair a b low lt high nz =
      let more = one_more in
      let list : IsSubsetFrom 1 y.elements (a ∷ b ∷ suc m.elements ∷ []) =
      (subset_is_increasing y.elements (a ∷ b ∷ suc m.elements ∷ [])).1 (
        (lt, (omega arith, tt)),
        λ e k. ⊎_elim (λ q. (omega arith, omega arith))
            (λ j. ⊎_elim (λ q. (omega arith, omega arith))
            (λ i. ⊎_elim (λ q. (omega arith, omega arith)) (λ none. absurd none) i) j) k,
      ) in
      record {
        list = list;
        size = sym rank_three;
        nonzero = λ z. nz (pair_value a b low lt high
            ∙ sym (value_in_order 1 y.elements (chi_of y) (a ∷ b ∷ suc m.elements ∷ []) list) ∙ z);
      }

  basis_at : (f g : ℕ) → IsElement m.elements f → IsElement m.elements g
      → signs_on_circle m.elements signs f g ≢ Zero → IsIndependent y (f ∷ suc m.elements ∷ [])
  basis_at f g hf hg nz = elim (cases_lt f g) [
    | inl lt ↦ (
      f ∷ g ∷ suc m.elements ∷ [],
      basis_of_pair f g hf.0 lt hg.1 nz,
      λ e k. ⊎_elim (λ q. inl q) (λ j. inr (inr j)) k,
    )
    | inr ge ↦ elim (cases_eq f g) [
      | inl q ↦ absurd (nz (ap (signs_on_circle m.elements signs f) (sym q) ∙ own_sign m.elements signs f))
      | inr d ↦
          let lt : g < f = omega arith in (
            g ∷ f ∷ suc m.elements ∷ [],
            basis_of_pair g f hg.0 lt hf.1
                (λ z. nz (turned_sign m.elements signs g f
                ∙ opposite_zero (signs_on_circle m.elements signs g f) z)),
            λ e k. ⊎_elim (λ q. inr (inl q)) (λ j. inr (inr j)) k,
          )
    ]
  ]

  -- some sign on the circle of f isn't zero, or all are
  pub basis_of_apart : (f : ℕ) → IsElement m.elements f → (IsZeroOn (signs_on_circle m.elements signs f) → ⊥)
      → IsIndependent y (f ∷ suc m.elements ∷ [])
  basis_of_apart f hf apart = ⊎_elim
      (λ k. basis_at f k.0 hf (element_from_member m.elements k.0 k.1) k.2)
      (λ none. absurd (apart (λ g. ⊎_elim (λ z. z) (λ nz. none g (supported_signs m.elements signs f g nz))
      (zero_or_nonzero (signs_on_circle m.elements signs f g)))))
      (search_members (λ g. IsNonzero (signs_on_circle m.elements signs f g))
      (λ g. signs_on_circle m.elements signs f g ≡ Zero)
      (λ g. ⊎_elim (λ z. inr z) (λ nz. inl nz) (zero_or_nonzero (signs_on_circle m.elements signs f g)))
      (elements_to m.elements))

  -- ---- and back

  -- three increasing elements, one of them the new one
  apart_of_three : (f a b c : ℕ) → f ≤ m.elements → IsBasis y (a ∷ b ∷ c ∷ []) → IsMember f (a ∷ b ∷ c ∷ [])
      → IsMember (suc m.elements) (a ∷ b ∷ c ∷ []) → IsZeroOn (signs_on_circle m.elements signs f) → ⊥
  apart_of_three f a b c old basis mf last zero =
      let more = one_more in
      let h = (subset_is_increasing y.elements (a ∷ b ∷ c ∷ [])).0 basis.list in
      let first = h.0.0 in
      let second = h.0.1.0 in
      let low = (h.1 a (inl refl)).0 in
      let high = (h.1 c (inr (inr (inl refl)))).1 in
      let is_last : c ≡ suc m.elements = ⊎_elim
      (λ q. absurd (omega arith))
      (λ j. ⊎_elim (λ q. absurd (omega arith)) (λ i. ⊎_elim (λ q. sym q) (λ none. absurd none) i) j)
      last in
      let within : b ≤ m.elements = omega arith in
      let nz : signs_on_circle m.elements signs a b ≢ Zero = (λ z. basis.nonzero
      (value_in_order 1 y.elements (chi_of y) (a ∷ b ∷ c ∷ []) basis.list
      ∙ ap (λ k. chi_of y (a ∷ b ∷ k ∷ [])) is_last ∙ sym (pair_value a b low first within) ∙ z)) in
      ⊎_elim
      (λ q. nz (ap (λ k. signs_on_circle m.elements signs k b) (sym q) ∙ zero b))
      (λ j. ⊎_elim
      (λ q. nz (zero_from_opposite (signs_on_circle m.elements signs a b)
      (sym (turned_sign m.elements signs a b) ∙ ap (λ k. signs_on_circle m.elements signs k a) (sym q) ∙ zero a)))
      (λ i. ⊎_elim (λ q. absurd (omega arith)) (λ none. absurd none) i) j)
      mf

  apart_of_list : (f : ℕ) (b : List ℕ) → f ≤ m.elements → IsBasis y b → IsMember f b → IsMember (suc m.elements) b
      → IsZeroOn (signs_on_circle m.elements signs f) → ⊥
  apart_of_list f [] old basis mf last zero = absurd mf
  apart_of_list f (a ∷ []) old basis mf last zero =
      let l = basis.size in let three = rank_three in absurd (omega arith)
  apart_of_list f (a ∷ b ∷ []) old basis mf last zero =
      let l = basis.size in let three = rank_three in absurd (omega arith)
  apart_of_list f (a ∷ b ∷ c ∷ []) old basis mf last zero = apart_of_three f a b c old basis mf last zero
  apart_of_list f (a ∷ b ∷ c ∷ d ∷ ds) old basis mf last zero =
      let l = basis.size in let three = rank_three in absurd (omega arith)

  pub apart_of_basis : (f : ℕ) → f ≤ m.elements → IsIndependent y (f ∷ suc m.elements ∷ [])
      → IsZeroOn (signs_on_circle m.elements signs f) → ⊥
  apart_of_basis f old (b, basis, part) zero =
      apart_of_list f b old basis (part f (inl refl)) (part (suc m.elements) (inr (inl refl))) zero

-- ---- bases of the map

pub basis_up : (m y : SignMap) → IsExtension m y → (b : List ℕ) → IsBasis m b → IsBasis y b
basis_up m y ext b basis =
    let more : suc m.elements ≡ y.elements = (let e = ext.elements in omega arith) in
    let list = subst (λ n. IsSubsetFrom 1 n b) more (longer m.elements b basis.list) in
    record {
      list = list;
      size = basis.size ∙ sym ext.rank;
      nonzero = λ z. basis.nonzero
          (value_in_order 1 m.elements (chi_of m) b basis.list ∙ sym (ext.agrees b basis.list basis.size)
          ∙ sym (value_in_order 1 y.elements (chi_of y) b list) ∙ z);
    }
