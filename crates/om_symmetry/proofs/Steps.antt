-- Steps of loops over the places of a list of signed elements.
--
-- Main results: a place of a table (table_at, table_set); one more of a list that is made (stays_more); an entry that
-- is written (written_here, written_elsewhere); one more place of an inverse (back_more).
use Rattle.std.proofs.Common.{ℕ, zero, suc, ◌≡◌, ◌≢◌, ◌+◌, ◌-◌, ◌<◌, ◌≤◌, List, [], ◌∷◌, ◌++◌, length, get_or}
use Rattle.std.proofs.Common.{take, set, refl, sym, ap, subst, ◌∙◌, inl, inr, arith, false}
use Rattle.std.proofs.lemmas.Bool.{cases_eq}
use Rattle.std.proofs.lemmas.List.{get_or-take, get_or-set_same, get_or-set_other, length-set}
use Rattle.std.proofs.lemmas.List.FromFn.{map-range_with_len_more}
use Rattle.om_laws.specs.Sorting.{IsElement}
use Rattle.om_symmetry.specs.declared.signed_element.SignedElement.{SignedElement}
use Rattle.om_symmetry.specs.Permutations.{IsSignedPermutation, no_element, signed_at, element_at, is_negated_at}
use Rattle.om_symmetry.specs.Permutations.{identity}
use Rattle.om_symmetry.proofs.Places.{element_within, element_apart}
use Rattle.om_symmetry.proofs.Products.{HasOldPlaces}

pub table_at : (table : List SignedElement) (n place : ℕ) → 1 ≤ place → place ≤ n
    → get_or table (place - 1) no_element ≡ signed_at (take n table) place
table_at table n zero low high = absurd (omega arith)
table_at table n (suc i) low high =
    let e : suc i - 1 ≡ i = omega arith in
    ap (λ k. get_or table k no_element) e ∙ sym (get_or-take n table i no_element (omega arith))

pub table_set : (n i : ℕ) (table : List SignedElement) (a : SignedElement)
    → take n (set table i a) ≡ set (take n table) i a
table_set zero i table a = refl
table_set (suc n) i [] a = refl
table_set (suc n) zero (b ∷ table) a = refl
table_set (suc n) (suc i) (b ∷ table) a = ap (λ l. b ∷ l) (table_set n i table a)

-- ---- lists that are made

entry_at : (xs : List SignedElement) (i : ℕ) → 1 ≤ i → signed_at xs i ≡ get_or xs (i - 1) no_element
entry_at xs zero low = absurd (omega arith)
entry_at xs (suc i) low = let e : i ≡ suc i - 1 = omega arith in ap (λ k. get_or xs k no_element) e

pub stays_more : (made new : List SignedElement) (i : ℕ) → 1 ≤ i → made ≡ identity (i - 1)
    → new ≡ made ++ (record { element = i; negated = false }) ∷ [] → new ≡ identity (i + 1 - 1)
stays_more made new i low qm qn =
    let e : i - 1 + 1 ≡ i + 1 - 1 = omega arith in
    qn ∙ ap (λ l. l ++ (record { element = i; negated = false }) ∷ []) qm
    ∙ sym (map-range_with_len_more (λ k. record { element = k; negated = false }) 1 (i - 1) i (omega arith))
    ∙ ap identity e

-- ---- entries that are written

pub written_here : (xs : List SignedElement) (p : ℕ) (a : SignedElement) → 1 ≤ p → p ≤ length xs
    → signed_at (set xs (p - 1) a) p ≡ a
written_here xs p a low high = entry_at (set xs (p - 1) a) p low
    ∙ get_or-set_same xs (p - 1) a no_element (omega arith)

pub written_elsewhere : (xs : List SignedElement) (p q : ℕ) (a : SignedElement) → 1 ≤ p → 1 ≤ q → q ≢ p
    → signed_at (set xs (p - 1) a) q ≡ signed_at xs q
written_elsewhere xs p q a lp lq n =
    let d : q - 1 ≢ p - 1 = omega arith in
    entry_at (set xs (p - 1) a) q lq ∙ get_or-set_other xs (p - 1) (q - 1) a no_element d ∙ sym (entry_at xs q lq)

-- at the elements that come before place i in w stand their places
pub record IsBackTo (n : ℕ) (w : List SignedElement) (i : ℕ) (back : List SignedElement) : Type 0 where
  pub whole : length back ≡ n
  pub places : (j : ℕ) → IsElement n j → j < i → signed_at back (element_at w j)
      ≡ record { element = j; negated = is_negated_at w j }

pub back_begun : (n : ℕ) (w back : List SignedElement) → length back ≡ n → IsBackTo n w 1 back
back_begun n w back l = record {
  whole = l;
  places = λ j h lt. let low = h.0 in absurd (omega arith);
}

pub back_more : (n : ℕ) (w : List SignedElement) → IsSignedPermutation n w → (i : ℕ) (back new : List SignedElement)
    (e : ℕ) → IsElement n i → e ≡ element_at w i
    → new ≡ set back (e - 1) (record { element = i; negated = is_negated_at w i }) → IsBackTo n w i back
    → IsBackTo n w (i + 1) new
back_more n w p i back new e h qe qn b = record {
  whole = ap length qn ∙ length-set back (e - 1) (record { element = i; negated = is_negated_at w i }) ∙ b.whole;
  places = λ j hj lt. ap (λ l. signed_at l (element_at w j)) qn ∙ elim (cases_eq j i) [
    | inl q ↦ ap (λ k. signed_at (set back (e - 1) (record { element = i; negated = is_negated_at w i })) k)
        (ap (element_at w) q ∙ sym qe)
        ∙ written_here back e (record { element = i; negated = is_negated_at w i }) low high
        ∙ ap (λ k. record { element = k; negated = is_negated_at w k }) (sym q)
    | inr d ↦ written_elsewhere back e (element_at w j) (record { element = i; negated = is_negated_at w i }) low
        (element_within n w p j hj).0 (λ q. d (element_apart n w p j i hj h (q ∙ qe)))
        ∙ b.places j hj (omega arith)
  ];
}
  where
    old : IsElement n e
    old = subst (IsElement n) (sym qe) (element_within n w p i h)

    low : 1 ≤ e
    low = old.0

    high : e ≤ length back
    high = let k = old.1 in let l = b.whole in omega arith

pub back_all : (n : ℕ) (w : List SignedElement) (i : ℕ) (back : List SignedElement) → n < i → IsBackTo n w i back
    → HasOldPlaces n w back
back_all n w i back l b = record { whole = b.whole; places = λ j h. b.places j h (let k = h.1 in omega arith) }
