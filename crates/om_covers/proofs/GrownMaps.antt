-- The map of a chirotope of rank 3 and a signature is the extension with this signature.
--
-- Main results: grown_is, grown_extension.
use Rattle.std.proofs.Common.{ℕ, suc, ◌≡◌, ◌≢◌, ◌+◌, ◌<◌, List, [], ◌∷◌, ◌++◌, length, refl}
use Rattle.std.proofs.Common.{sym, ap, subst, ◌∙◌, inl, inr, ⊎_elim, arith}
use Rattle.std.proofs.lemmas.Bool.{eq-eqb, ne_eqb}
use Rattle.om_signs.specs.declared.sign.Sign.{Sign}
use Rattle.om_subsets.specs.Subsets.{IsSubsetFrom, IsMember, without_element}
use Rattle.om_subsets.proofs.Statements.{subset_is_increasing}
use Rattle.om_laws.proofs.Complements.{is_member_cases}
use Rattle.om_chirotope.specs.Map.{SignMap, chi_of}
use Rattle.om_denotation.specs.Maps.{map_by}
use Rattle.om_localize.specs.Circles.{pair_sign}
use Rattle.om_localize.specs.Extensions.{IsExtension, signature_of, IsSignature}
use Rattle.om_localize.proofs.SignatureCircles.{pair_list, table_sign}
use Rattle.om_symmetry.proofs.Images.{same_by, by_own_signs}
use Rattle.om_covers.specs.Growing.{grown_sign, grown}
use Rattle.om_covers.proofs.Shorter.{shorter}

-- the first two of three elements
first_two : (n a b c : ℕ) → a < b → b < c → c ≡ n → without_element n (a ∷ b ∷ c ∷ []) ≡ a ∷ b ∷ []
first_two n a b c first second q =
    let na : n ≢ a = omega arith in
    let nb : n ≢ b = omega arith in
    rw (ne_eqb n a na, ne_eqb n b nb, eq-eqb n c (sym q)) refl

module _ (m y : SignMap) (signs : List Sign) (r : m.rank ≡ 3) (ext : IsExtension m y)
    (q : signs ≡ signature_of m.elements y) where
  -- a list with the new element
  new_list : (xs : List ℕ) → IsSubsetFrom 1 (m.elements + 1) xs → length xs ≡ 3 → IsMember (m.elements + 1) xs
      → pair_sign m.elements signs (without_element (m.elements + 1) xs) ≡ chi_of y xs
  new_list (a ∷ b ∷ c ∷ []) h l last =
      let k = (subset_is_increasing (m.elements + 1) (a ∷ b ∷ c ∷ [])).0 h in
      let first = k.0.0 in
      let second = k.0.1.0 in
      let low = (k.1 a (inl refl)).0 in
      let high = (k.1 c (inr (inr (inl refl)))).1 in
      let is_last : c ≡ m.elements + 1 = ⊎_elim
      (λ e. absurd (omega arith))
      (λ j. ⊎_elim (λ e. absurd (omega arith)) (λ i. ⊎_elim (λ e. sym e) (λ none. absurd none) i) j)
      last in
      ap (pair_sign m.elements signs) (first_two (m.elements + 1) a b c first second is_last)
      ∙ ap (λ s. pair_sign m.elements s (a ∷ b ∷ [])) q
      ∙ table_sign m.elements 2 (λ pair. chi_of y (pair ++ (m.elements + 1) ∷ [])) (a ∷ b ∷ [])
      (pair_list m.elements a b low first (omega arith)) refl
      ∙ ap (λ e. chi_of y (a ∷ b ∷ e ∷ [])) (sym is_last)
  new_list [] h l last = absurd last
  new_list (a ∷ []) h l last = absurd (omega arith)
  new_list (a ∷ b ∷ []) h l last = absurd (omega arith)
  new_list (a ∷ b ∷ c ∷ d ∷ ds) h l last = absurd (omega arith)

  same_sign : (xs : List ℕ) → IsSubsetFrom 1 (m.elements + 1) xs → length xs ≡ m.rank
      → grown_sign m signs xs ≡ chi_of y xs
  same_sign xs h l = elim (is_member_cases (m.elements + 1) xs) [
    | inl k ↦ rw k.1 (new_list xs h (l ∙ r) k.0)
    | inr k ↦
        let e : m.elements + 1 ≡ suc m.elements = omega arith in
        let old = shorter m.elements xs (subst (λ n. IsSubsetFrom 1 n xs) e h)
        (λ j. k.0 (subst (λ n. IsMember n xs) (sym e) j)) in
        rw k.1 (sym (ext.agrees xs old l))
  ]

  pub grown_is : grown m signs ≡ y
  grown_is = same_by m.rank (m.elements + 1) (grown_sign m signs) (chi_of y) same_sign
      ∙ (λ i. map_by (sym ext.rank i) (sym ext.elements i) (chi_of y)) ∙ by_own_signs y ext.chirotope.whole

-- ---- the sign of a list

pub grown_with : (m : SignMap) (signs : List Sign) (xs : List ℕ) (s : Sign) → IsMember (m.elements + 1) xs
    → s ≡ pair_sign m.elements signs (without_element (m.elements + 1) xs) → s ≡ grown_sign m signs xs
grown_with m signs xs s k q = elim (is_member_cases (m.elements + 1) xs) [
  | inl a ↦ rw a.1 q
  | inr a ↦ absurd (a.0 k)
]

pub grown_without : (m : SignMap) (signs : List Sign) (xs : List ℕ) (s : Sign) → (IsMember (m.elements + 1) xs → ⊥)
    → s ≡ chi_of m xs → s ≡ grown_sign m signs xs
grown_without m signs xs s k q = elim (is_member_cases (m.elements + 1) xs) [
  | inl a ↦ absurd (k a.0)
  | inr a ↦ rw a.1 q
]

-- ---- the whole map

-- what the call makes
pub record IsGrownFrom (m : SignMap) (signs : List Sign) (x : SignMap) : Type 0 where
  pub extends : IsExtension m x
  pub signature : signature_of m.elements x ≡ signs

pub grown_extension : (m : SignMap) (signs : List Sign) → m.rank ≡ 3 → IsSignature m signs
    → IsGrownFrom m signs (grown m signs)
grown_extension m signs r (y, ext, q) =
    subst (IsGrownFrom m signs) (sym (grown_is m y signs r ext q)) (record { extends = ext; signature = sym q })
