-- The value of a tuple, from its elements taken from the last on.
--
-- Main results: before_even, before_odd, the sign of an element before a set; value_repeat and next_element for one
-- more element; from_end and bounds_from_end, the elements from the last on.
use Rattle.std.specs.Prelude.{ℕ, ◌≡◌, ◌≢◌, ◌+◌, ◌-◌, ◌%◌, ◌<◌, ◌≤◌, List, [], ◌∷◌, length, refl}
use Rattle.std.proofs.Common.{zero, suc, sym, ◌∙◌, ap, arith, inl, inr, get_or, drop}
use Rattle.std.proofs.lemmas.Bool.{cases_lt, lt-ltb, le-ltb}
use Rattle.std.proofs.lemmas.List.{drop_more, get_or_default, length-reverse, get_or-reverse}
use mathlib.Core.List.{reverse}
use Rattle.om_subsets.specs.Lists.{IsWithin}
use Rattle.om_laws.proofs.MemberLaws.{member_at}
use Rattle.om_signs.specs.declared.sign.Sign.{Sign}
use Rattle.om_signs.specs.declared.sign.Sign.TheVariants.{Minus, Zero, Plus}
use Rattle.om_signs.specs.Sign.{product}
use Rattle.om_signs.proofs.SignLaws.{product-zero, product_left_comm}
use Rattle.om_subsets.specs.Subsets.{IsSubsetFrom, IsMember, with_element, count_above}
use Rattle.om_laws.specs.Tuples.{value, sorted, insert, sort_sign, before_sign, order_sign}
use Rattle.om_laws.proofs.OrderSigns.{order_sign_equal}
use Rattle.om_chirotope.specs.Map.{parity_sign}
use Rattle.om_chirotope.proofs.Circuits.{parity_sign-suc, above_le}
use Rattle.om_chirotope.proofs.Cocircuits.{insert_with}

-- ---- an element before a list

pub before_member : (e : ℕ) (xs : List ℕ) → IsMember e xs → before_sign e xs ≡ Zero
before_member e [] h = absurd h
before_member e (x ∷ xs) (inl q) = rw (order_sign_equal e x q) refl
before_member e (x ∷ xs) (inr h) = rw (before_member e xs h) (product-zero (order_sign e x))

before_insert : (e x : ℕ) (ys : List ℕ) → before_sign e (insert x ys) ≡ product (order_sign e x) (before_sign e ys)
before_insert e x [] = refl
before_insert e x (y ∷ ys) = elim (cases_lt x y) [
  | inl lt ↦ rw (lt-ltb x y lt) refl
  | inr ge ↦ rw (le-ltb x y ge, before_insert e x ys)
      (product_left_comm (order_sign e y) (order_sign e x) (before_sign e ys))
]

pub before_sorted : (e : ℕ) (xs : List ℕ) → before_sign e (sorted xs) ≡ before_sign e xs
before_sorted e [] = refl
before_sorted e (x ∷ xs) = before_insert e x (sorted xs) ∙ ap (product (order_sign e x)) (before_sorted e xs)

-- each smaller element of the set turns the sign
pub before_parity : (e : ℕ) (xs : List ℕ) → (IsMember e xs → ⊥)
    → before_sign e xs ≡ parity_sign (length xs - count_above e xs)
before_parity e [] n = refl
before_parity e (x ∷ xs) n =
    let i = before_parity e xs (λ h. n (inr h)) in
    let b = above_le e xs in
    elim (cases_lt e x) [
      | inl lt ↦
          let same : suc (length xs) - (1 + count_above e xs) ≡ length xs - count_above e xs = omega arith in
          rw (lt-ltb e x lt, same, i) refl
      | inr ge ↦
          let ne : e ≢ x = (λ q. n (inl q)) in
          let lt : x < e = omega arith in
          let more : suc (length xs) - (0 + count_above e xs) ≡ suc (length xs - count_above e xs) = omega arith in
          rw (le-ltb e x ge, lt-ltb x e lt, more, parity_sign-suc (length xs - count_above e xs), i) refl
    ]

pub before_even : (low m e s : ℕ) (xs : List ℕ) → IsSubsetFrom low m xs → (IsMember e xs → ⊥) → s ≡ length xs
    → s % 2 ≡ count_above e xs % 2 → Plus ≡ before_sign e xs
before_even low m e s xs h n l p =
    let b = above_le e xs in
    let even : (length xs - count_above e xs) % 2 ≡ 0 = omega arith in
    rw (before_parity e xs n, even) refl

pub before_odd : (low m e s : ℕ) (xs : List ℕ) → IsSubsetFrom low m xs → (IsMember e xs → ⊥) → s ≡ length xs
    → (s % 2 ≡ count_above e xs % 2 → ⊥) → Minus ≡ before_sign e xs
before_odd low m e s xs h n l p =
    let b = above_le e xs in
    let odd : (length xs - count_above e xs) % 2 ≡ 1 = omega arith in
    rw (before_parity e xs n, odd) refl

-- ---- one more element of a tuple

zero_end : (k : ℕ) (xs : List ℕ) → sort_sign (drop k xs) ≡ Zero → sort_sign xs ≡ Zero
zero_end zero xs z = z
zero_end (suc k) [] z = z
zero_end (suc k) (x ∷ xs) z = rw (zero_end k xs z) (product-zero (before_sign x xs))

-- one element more from the end
pub next_rest : (tuple : List ℕ) (i : ℕ) → i < length tuple
    → drop (length tuple - (i + 1)) tuple ≡ get_or tuple (length tuple - 1 - i) 0 ∷ drop (length tuple - i) tuple
next_rest tuple i l =
    let a : length tuple - (i + 1) ≡ length tuple - 1 - i = omega arith in
    let b : length tuple - 1 - i + 1 ≡ length tuple - i = omega arith in
    rw a (drop_more tuple (length tuple - 1 - i) 0 (omega arith) ∙ rw b refl)

pub value_repeat : (f : List ℕ → Sign) (tuple : List ℕ) (i : ℕ) → i < length tuple
    → IsMember (get_or tuple (length tuple - 1 - i) 0) (sorted (drop (length tuple - i) tuple)) → Zero ≡ value f tuple
value_repeat f tuple i l h =
    let before = sym (before_sorted (get_or tuple (length tuple - 1 - i) 0) (drop (length tuple - i) tuple))
    ∙ before_member (get_or tuple (length tuple - 1 - i) 0) (sorted (drop (length tuple - i) tuple)) h in
    let here : sort_sign (drop (length tuple - (i + 1)) tuple) ≡ Zero = ap sort_sign (next_rest tuple i l)
    ∙ ap (λ s. product s (sort_sign (drop (length tuple - i) tuple))) before in
    rw (zero_end (length tuple - (i + 1)) tuple here) refl

-- the set and the sign with the next element
pub record IsNextElement (tuple : List ℕ) (i : ℕ) (set : List ℕ) (sign : Sign) : Type 0 where
  pub elements : set ≡ sorted (drop (length tuple - i) tuple)
  pub sign_is : sign ≡ sort_sign (drop (length tuple - i) tuple)

pub next_element : (tuple : List ℕ) (i : ℕ) (set : List ℕ) (sign before : Sign) → i < length tuple
    → (IsMember (get_or tuple (length tuple - 1 - i) 0) set → ⊥) → set ≡ sorted (drop (length tuple - i) tuple)
    → sign ≡ sort_sign (drop (length tuple - i) tuple)
    → before ≡ before_sign (get_or tuple (length tuple - 1 - i) 0) set
    → IsNextElement tuple (i + 1) (with_element (get_or tuple (length tuple - 1 - i) 0) set) (product before sign)
next_element tuple i set sign before l n es ss eb = record {
  elements = sym (insert_with (get_or tuple (length tuple - 1 - i) 0) set n)
      ∙ ap (insert (get_or tuple (length tuple - 1 - i) 0)) es ∙ ap sorted (sym (next_rest tuple i l));
  sign_is =
      ap (λ s. product s sign) (eb ∙ ap (before_sign (get_or tuple (length tuple - 1 - i) 0)) es
      ∙ before_sorted (get_or tuple (length tuple - 1 - i) 0) (drop (length tuple - i) tuple))
      ∙ ap (product (before_sign (get_or tuple (length tuple - 1 - i) 0) (drop (length tuple - i) tuple))) ss
      ∙ ap sort_sign (sym (next_rest tuple i l));
}

-- ---- from the last element on

-- the element of a turn: the i-th from the end
pub record IsFromEnd (tuple : List ℕ) (i e : ℕ) : Type 0 where
  pub within : i < length tuple
  pub here : e ≡ get_or tuple (length tuple - 1 - i) 0

pub from_end : (tuple : List ℕ) (i e d : ℕ) → (i < length (reverse tuple)) × (e ≡ get_or (reverse tuple) i d)
    → IsFromEnd tuple i e
from_end tuple i e d t =
    let size = length-reverse tuple in
    let lt = t.0 in
    let within : i < length tuple = omega (arith, lt, size) in
    record {
      within = within;
      here = t.1 ∙ get_or-reverse tuple i d within ∙ get_or_default tuple _ d 0 (omega (arith, within));
    }

-- it is an element that the tuple may have
pub bounds_from_end : (tuple : List ℕ) (i e n k : ℕ) → IsFromEnd tuple i e → IsWithin 1 n tuple → k ≡ n
    → (1 ≤ e) × (e ≤ k)
bounds_from_end tuple i e n k t all q =
    let lt = t.within in
    let b = all _ (member_at tuple (length tuple - 1 - i) (omega (arith, lt))) in
    let low = b.0 in
    let high = b.1 in
    let here = t.here in
    (omega (arith, low, here), omega (arith, high, here, q))
