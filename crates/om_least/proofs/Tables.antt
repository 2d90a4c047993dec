-- The table of the values of a map at triples, filled place by place.
--
-- Main results: nothing so far (filled_none), one more place (filled_with, filled_past) and all (filled_all); the place
-- of three elements is within the table (place_within).
use Rattle.std.proofs.Common.{ℕ, ◌≡◌, ◌+◌, ◌*◌, ◌/◌, ◌%◌, ◌<◌, ◌≤◌, List, [], ◌∷◌, length, set, sym, ap, subst}
use Rattle.std.proofs.Common.{◌∙◌, inl, inr, arith}
use Rattle.std.proofs.lemmas.Bool.{cases_eq}
use Rattle.std.proofs.lemmas.List.{length-set, get_or-set_same, get_or-set_other}
use Rattle.om_signs.specs.declared.sign.Sign.{Sign}
use Rattle.om_signs.specs.declared.sign.Sign.TheVariants.{Zero}
use Rattle.om_signs.specs.declared.limits.TheConstants.{MAX_ELEMENTS, MAX_PLACES}
use Rattle.om_signs.specs.SignVec.{at}
use Rattle.om_laws.specs.Sorting.{IsElement}
use Rattle.om_chirotope.specs.Map.{SignMap, value_of}
use Rattle.om_least.specs.Triples.{place_of_triple, IsTableOfValues}

-- the places before k are filled
pub record IsFilledTo (m : SignMap) (table : List Sign) (k : ℕ) : Type 0 where
  pub whole : length table ≡ MAX_PLACES * MAX_PLACES * MAX_PLACES
  pub values : (x y z : ℕ) → IsElement m.elements x → IsElement m.elements y → IsElement m.elements z
      → place_of_triple x y z < k → at table (place_of_triple x y z) ≡ value_of m (x ∷ y ∷ z ∷ [])

pub place_within : (x y z : ℕ) → x < MAX_PLACES → y < MAX_PLACES → z < MAX_PLACES
    → place_of_triple x y z < MAX_PLACES * MAX_PLACES * MAX_PLACES
place_within x y z a b c = omega arith

-- the three elements at a place
record IsAtPlace (k x y z : ℕ) : Type 0 where
  pub first : x ≡ k / 21 / 21
  pub second : y ≡ k / 21 % 21
  pub third : z ≡ k % 21

at_place : (k x y z : ℕ) → x < 21 → y < 21 → z < 21 → (x * 21 + y) * 21 + z ≡ k → IsAtPlace k x y z
at_place k x y z a b c q =
    let front : k / 21 ≡ x * 21 + y = omega arith in
    record { first = omega arith; second = omega arith; third = omega arith }

module _ (m : SignMap) (few : m.elements ≤ MAX_ELEMENTS) where
  pub filled_none : (table : List Sign) → length table ≡ MAX_PLACES * MAX_PLACES * MAX_PLACES → IsFilledTo m table 0
  filled_none table l = record { whole = l; values = λ x y z hx hy hz lt. absurd (omega (arith, lt)) }

  here : (k x y z : ℕ) → IsElement m.elements x → IsElement m.elements y → IsElement m.elements z
      → place_of_triple x y z ≡ k → IsAtPlace k x y z
  here k x y z hx hy hz q =
      let a = hx.1 in
      let b = hy.1 in
      let d = hz.1 in
      at_place k x y z (omega (arith, a, few)) (omega (arith, b, few)) (omega (arith, d, few)) q

  pub filled_with : (table : List Sign) (k x y z : ℕ) (s : Sign) → k < MAX_PLACES * MAX_PLACES * MAX_PLACES
      → x ≡ k / 21 / 21 → y ≡ k / 21 % 21 → z ≡ k % 21 → s ≡ value_of m (x ∷ y ∷ z ∷ []) → IsFilledTo m table k
      → IsFilledTo m (set table k s) (k + 1)
  filled_with table k x y z s lt qx qy qz v h = record {
    whole = length-set table k s ∙ h.whole;
    values = λ a b d ha hb hd l. elim (cases_eq (place_of_triple a b d) k) [
      | inl q ↦
          let p = here k a b d ha hb hd q in
          ap (at (set table k s)) q
          ∙ get_or-set_same table k s Zero (subst (λ j. k < j) (sym h.whole) lt) ∙ v
          ∙ ap (λ i. value_of m (i ∷ y ∷ z ∷ [])) (qx ∙ sym p.first)
          ∙ ap (λ i. value_of m (a ∷ i ∷ z ∷ [])) (qy ∙ sym p.second)
          ∙ ap (λ i. value_of m (a ∷ b ∷ i ∷ [])) (qz ∙ sym p.third)
      | inr ne ↦ get_or-set_other table k (place_of_triple a b d) s Zero ne
          ∙ h.values a b d ha hb hd (omega (arith, l, ne))
    ];
  }

  pub filled_past : (table : List Sign) (k x y z : ℕ) → x ≡ k / 21 / 21 → y ≡ k / 21 % 21 → z ≡ k % 21
      → (IsElement m.elements x × IsElement m.elements y × IsElement m.elements z → ⊥) → IsFilledTo m table k
      → IsFilledTo m table (k + 1)
  filled_past table k x y z qx qy qz off h = record {
    whole = h.whole;
    values = λ a b d ha hb hd l. elim (cases_eq (place_of_triple a b d) k) [
      | inl q ↦
          let p = here k a b d ha hb hd q in
          absurd (off (
            subst (IsElement m.elements) (p.first ∙ sym qx) ha,
            subst (IsElement m.elements) (p.second ∙ sym qy) hb,
            subst (IsElement m.elements) (p.third ∙ sym qz) hd,
          ))
      | inr ne ↦ h.values a b d ha hb hd (omega (arith, l, ne))
    ];
  }

  pub filled_all : (table : List Sign) (k : ℕ) → MAX_PLACES * MAX_PLACES * MAX_PLACES ≤ k → IsFilledTo m table k
      → IsTableOfValues m table
  filled_all table k ge h = record {
    whole = h.whole;
    values = λ x y z hx hy hz.
        let a = hx.1 in
        let b = hy.1 in
        let d = hz.1 in
        let w = place_within x y z (omega (arith, a, few)) (omega (arith, b, few)) (omega (arith, d, few)) in
        h.values x y z hx hy hz (omega (arith, w, ge));
  }
