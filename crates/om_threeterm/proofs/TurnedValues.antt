-- The value of a list with two elements behind it.
--
-- Main results: value_same, value_turned, whole_size, same_tests, other_tests
use Rattle.std.specs.Prelude.{ℕ, ◌≡◌, ◌+◌, ◌-◌, ◌%◌, ◌<◌, ◌≤◌, ◌↔◌, ◌⊎◌, List, [], ◌∷◌, ◌++◌, length, Bool, true, false}
use Rattle.std.specs.Prelude.{IsTrue}
use Rattle.std.specs.Bool.{beq}
use Rattle.std.proofs.Common.{refl, sym, ◌∙◌, ap, arith, inl, inr, subst, append_assoc, zero-add}
use Rattle.std.proofs.lemmas.Bool.{false≢true, cases_eq, cases_lt, eq-eqb, ne_eqb, lt-ltb, le-ltb}
use Rattle.std.proofs.lemmas.List.{get_or-map}
use Rattle.om_signs.specs.declared.sign.Sign.{Sign}
use Rattle.om_signs.specs.declared.sign.Sign.TheVariants.{Zero}
use Rattle.om_signs.specs.Sign.{opposite}
use Rattle.om_signs.specs.SignVec.{at_element}
use Rattle.om_signs.proofs.SignLaws.{opposite-opposite}
use Rattle.om_subsets.specs.Subsets.{IsSubsetFrom, IsMember, with_element, count_above}
use Rattle.om_subsets.proofs.Statements.{members_with}
use Rattle.om_chirotope.specs.Map.{SignMap, chi_of, value_of, cocircuit_vector}
use Rattle.om_chirotope.proofs.Cocircuits.{along_even, along_odd, length-with}
use Rattle.om_chirotope.proofs.Places.{cocircuit_place}
use Rattle.om_chirotope.proofs.Rows.{row_even, row_odd}
use Rattle.om_laws.specs.Relations.{along}
use Rattle.om_laws.proofs.BridgeLaws.{length-as_list}

-- ---- the value of P with two elements behind it

above_with : (x y : ℕ) (p : List ℕ) → x < y → count_above y (with_element x p) ≡ count_above y p
above_with x y [] l = let le : x ≤ y = omega arith in rw (le-ltb y x le) refl
above_with x y (z ∷ zs) l = elim (cases_eq x z) [
  | inl q ↦ rw (eq-eqb x z q) refl
  | inr n ↦ elim (cases_lt x z) [
    | inl lt ↦ let le : x ≤ y = omega arith in rw (ne_eqb x z n, lt-ltb x z lt) (rw (le-ltb y x le) (zero-add _))
    | inr ge ↦ rw (ne_eqb x z n, le-ltb x z ge) (rw (above_with x y zs l) refl)
  ]
]

module _ (m : SignMap) (p : List ℕ) (x y : ℕ) (list : IsSubsetFrom 1 m.elements p)
    (first : IsSubsetFrom 1 m.elements (with_element x p))
    (both : IsSubsetFrom 1 m.elements (with_element y (with_element x p))) (x_off : IsMember x p → ⊥)
    (y_off : IsMember y p → ⊥) (order : x < y) (low : 1 ≤ y) (high : y ≤ m.elements) where
  fresh : IsMember y (with_element x p) → ⊥
  fresh k = go ((members_with x y p).0 k)
    where
      go : (y ≡ x) ⊎ IsMember y p → ⊥
      go (inl q) = absurd (omega arith)
      go (inr j) = y_off j

  -- the value with x in its place and y behind
  abbrev half : Sign
  half = value_of m (with_element x p ++ y ∷ [])

  abbrev whole : Sign
  whole = value_of m (with_element y (with_element x p))

  in_row : value_of m (p ++ x ∷ y ∷ []) ≡ at_element (cocircuit_vector m (p ++ x ∷ [])) y
  in_row = sym (cocircuit_place m (p ++ x ∷ []) y low high ∙ ap (value_of m) (append_assoc p (x ∷ []) (y ∷ [])))

  row_half : at_element (cocircuit_vector m (with_element x p)) y ≡ half
  row_half = cocircuit_place m (with_element x p) y low high

  first_even : (count_above x p % 2 ≡ 1 → ⊥) → value_of m (p ++ x ∷ y ∷ []) ≡ half
  first_even n = in_row ∙ ap (λ v. at_element v y) (sym (row_even m p x list x_off n)) ∙ row_half

  first_odd : count_above x p % 2 ≡ 1 → value_of m (p ++ x ∷ y ∷ []) ≡ opposite half
  first_odd o =
      let len = length-as_list m.elements (along (value_of m) (with_element x p)) in
      let inside : y - 1 < length (cocircuit_vector m (with_element x p)) = omega arith in
      in_row ∙ ap (λ v. at_element v y) (sym (row_odd m p x list x_off o))
      ∙ get_or-map opposite (cocircuit_vector m (with_element x p)) (y - 1) Zero Zero inside ∙ ap opposite row_half

  second_even : (count_above y p % 2 ≡ 1 → ⊥) → half ≡ whole
  second_even n =
      sym (along_even 1 m.elements y (chi_of m) (with_element x p) first both fresh
      (subst (λ k. k % 2 ≡ 1 → ⊥) (sym (above_with x y p order)) n))

  second_odd : count_above y p % 2 ≡ 1 → half ≡ opposite whole
  second_odd o =
      sym (along_odd 1 m.elements y (chi_of m) (with_element x p) first both fresh
      (subst (λ k. k % 2 ≡ 1) (sym (above_with x y p order)) o))

  -- both parities are the same, or not
  pub value_same : (count_above x p % 2 ≡ 1) ↔ (count_above y p % 2 ≡ 1) → whole ≡ value_of m (p ++ x ∷ y ∷ [])
  value_same same = elim (cases_eq (count_above x p % 2) 1) [
    | inl o ↦ sym (first_odd o ∙ ap opposite (second_odd (same.0 o)) ∙ opposite-opposite whole)
    | inr n ↦ sym (first_even n ∙ second_even (λ o. n (same.1 o)))
  ]

  pub value_turned : ((count_above x p % 2 ≡ 1) ↔ (count_above y p % 2 ≡ 1) → ⊥)
      → opposite whole ≡ value_of m (p ++ x ∷ y ∷ [])
  value_turned differ = elim (cases_eq (count_above x p % 2) 1) [
    | inl o ↦ elim (cases_eq (count_above y p % 2) 1) [
      | inl q ↦ absurd (differ (λ k. q, λ k. o))
      | inr n ↦ sym (first_odd o ∙ ap opposite (second_even n))
    ]
    | inr n ↦ elim (cases_eq (count_above y p % 2) 1) [
      | inl q ↦ sym (first_even n ∙ second_odd q)
      | inr k ↦ absurd (differ (λ o. absurd (n o), λ o. absurd (k o)))
    ]
  ]

  pub whole_size : length p + 2 ≡ m.rank → length (with_element y (with_element x p)) ≡ m.rank
  whole_size size =
      let a = length-with y (with_element x p) fresh in
      let b = length-with x p x_off in
      omega arith

-- two tests with the same answer, and with different ones
pub same_tests : (P Q : Type 0) (a b : Bool) → IsTrue a ↔ P → IsTrue b ↔ Q → beq a b ≡ true → P ↔ Q
same_tests P Q true true p q e = (λ x. q.0 refl, λ y. p.0 refl)
same_tests P Q true false p q e = absurd (false≢true e)
same_tests P Q false true p q e = absurd (false≢true e)
same_tests P Q false false p q e = (λ x. absurd (false≢true (p.1 x)), λ y. absurd (false≢true (q.1 y)))

pub other_tests : (P Q : Type 0) (a b : Bool) → IsTrue a ↔ P → IsTrue b ↔ Q → beq a b ≡ false → P ↔ Q → ⊥
other_tests P Q true true p q e h = false≢true (sym e)
other_tests P Q true false p q e h = false≢true (q.1 (h.0 (p.0 refl)))
other_tests P Q false true p q e h = false≢true (p.1 (h.1 (q.0 refl)))
other_tests P Q false false p q e h = false≢true (sym e)
