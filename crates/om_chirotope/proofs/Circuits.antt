-- The sign of a vector V at one element, from the set without it.
--
-- Main results: parity_sign-suc, without_below, count_below, above_le, around_member, length-without, around_same,
-- around_opposite, parities_same, parities_differ
use Rattle.std.specs.Prelude.{ℕ, ◌≡◌, ◌≢◌, ◌+◌, ◌-◌, ◌%◌, ◌<◌, ◌≤◌, List, [], ◌∷◌, length, cond, nat_eq, nat_lt, refl}
use Rattle.std.specs.Prelude.{◌⊎◌, ◌↔◌, Bool, true, false}
use Rattle.std.specs.Bool.{beq}
use Rattle.std.proofs.Common.{zero, suc, ap, arith, inl, inr, sym}
use Rattle.std.proofs.lemmas.Bool.{cases_eq, eq-eqb, ne_eqb, lt-ltb, le-ltb}
use Rattle.om_signs.specs.declared.sign.Sign.{Sign}
use Rattle.om_signs.specs.Sign.{opposite, product}
use Rattle.om_signs.proofs.SignLaws.{product-opposite_left}
use Rattle.om_subsets.specs.Subsets.{IsSubsetFrom, IsMember, without_element, count_above}
use Rattle.om_laws.specs.Relations.{around}
use Rattle.om_subsets.proofs.Order.{members_from}
use Rattle.om_chirotope.specs.Map.{parity_sign}

-- (-1)^(k + 1) is the opposite of (-1)^k
pub parity_sign-suc : (k : ℕ) → parity_sign (suc k) ≡ opposite (parity_sign k)
parity_sign-suc k = grind arith

pub without_below : (low m e : ℕ) (xs : List ℕ) → IsSubsetFrom low m xs → e < low → without_element e xs ≡ xs
without_below low m e [] h l = refl
without_below low zero e (x ∷ xs) h l = absurd h
without_below low (suc m) e (x ∷ xs) (inl (q, h)) l =
    let ne : e ≢ x = omega arith in
    rw (ne_eqb e x ne) (ap (λ k. x ∷ k) (without_below (low + 1) m e xs h (omega arith)))
without_below low (suc m) e (x ∷ xs) (inr (q, h)) l = without_below (low + 1) m e (x ∷ xs) h (omega arith)

pub count_below : (low m e : ℕ) (xs : List ℕ) → IsSubsetFrom low m xs → e < low → count_above e xs ≡ length xs
count_below low m e [] h l = refl
count_below low zero e (x ∷ xs) h l = absurd h
count_below low (suc m) e (x ∷ xs) (inl (q, h)) l =
    let lt : e < x = omega arith in
    let i = count_below (low + 1) m e xs h (omega arith) in
    rw (lt-ltb e x lt) (omega arith)
count_below low (suc m) e (x ∷ xs) (inr (q, h)) l = count_below (low + 1) m e (x ∷ xs) h (omega arith)

above_step : (e x k n : ℕ) → k ≤ n → cond (nat_lt e x) 1 0 + k ≤ suc n
above_step e x k n l = grind arith

pub above_le : (e : ℕ) (xs : List ℕ) → count_above e xs ≤ length xs
above_le e [] = omega arith
above_le e (x ∷ xs) = above_step e x (count_above e xs) (length xs) (above_le e xs)

pub around_member : (low m e : ℕ) (chi : List ℕ → Sign) (xs : List ℕ) → IsSubsetFrom low m xs → IsMember e xs
    → around chi xs e ≡ product (parity_sign (length xs - count_above e xs)) (chi (without_element e xs))
around_member low m e chi [] h k = absurd k
around_member low zero e chi (x ∷ xs) h k = absurd h
around_member low (suc m) e chi (x ∷ xs) (inl (q, h)) k =
    here (cases_eq e x) (around_member (low + 1) m e (λ t. chi (x ∷ t)) xs h)
  where
    flip : (s t : Sign) (p : ℕ) → t ≡ product (parity_sign p) s → opposite t ≡ product (parity_sign (suc p)) s
    flip s t p r = rw (r, parity_sign-suc p) (sym (product-opposite_left (parity_sign p) s))

    later : IsMember e (x ∷ xs) → e ≢ x → IsMember e xs
    later (inl r) ne = absurd (ne r)
    later (inr r) ne = r

    here : (e ≡ x) ⊎ (e ≡ x → ⊥)
        → (IsMember e xs → around (λ t. chi (x ∷ t)) xs e
        ≡ product (parity_sign (length xs - count_above e xs)) (chi (x ∷ without_element e xs)))
        → opposite (cond (nat_eq e x) (chi xs) (around (λ t. chi (x ∷ t)) xs e))
        ≡ product (parity_sign (suc (length xs) - (cond (nat_lt e x) 1 0 + count_above e xs)))
        (chi (cond (nat_eq e x) (without_element e xs) (x ∷ without_element e xs)))
    here (inl r) i =
        let ge : x ≤ e = omega arith in
        let c : suc (length xs) - (0 + count_above e xs) ≡ 1 = let b = count_below (low + 1) m e xs h (omega arith) in
        omega arith in
        let w = without_below (low + 1) m e xs h (omega arith) in
        rw (eq-eqb e x r, le-ltb e x ge, c, w) refl
    here (inr ne) i =
        let mem = later k ne in
        let lt = (members_from (low + 1) m e xs h mem).0 in
        let ge : x ≤ e = omega arith in
        let b = above_le e xs in
        let c : suc (length xs) - (0 + count_above e xs) ≡ suc (length xs - count_above e xs) = omega arith in
        rw (ne_eqb e x ne, le-ltb e x ge, c)
        (flip (chi (x ∷ without_element e xs)) _ (length xs - count_above e xs) (i mem))
around_member low (suc m) e chi (x ∷ xs) (inr (q, h)) k = around_member (low + 1) m e chi (x ∷ xs) h k

-- an increasing list without one of its elements is one shorter
pub length-without : (low m e : ℕ) (xs : List ℕ) → IsSubsetFrom low m xs → IsMember e xs
    → length (without_element e xs) + 1 ≡ length xs
length-without low m e [] h k = absurd k
length-without low zero e (x ∷ xs) h k = absurd h
length-without low (suc m) e (x ∷ xs) (inl (q, h)) k = here (cases_eq e x) (length-without (low + 1) m e xs h)
  where
    later : IsMember e (x ∷ xs) → e ≢ x → IsMember e xs
    later (inl r) ne = absurd (ne r)
    later (inr r) ne = r

    here : (e ≡ x) ⊎ (e ≡ x → ⊥) → (IsMember e xs → length (without_element e xs) + 1 ≡ length xs)
        → length (cond (nat_eq e x) (without_element e xs) (x ∷ without_element e xs)) + 1 ≡ suc (length xs)
    here (inl r) i = let w = without_below (low + 1) m e xs h (omega arith) in rw (eq-eqb e x r, w) (omega arith)
    here (inr ne) i = let j = i (later k ne) in rw (ne_eqb e x ne) (omega arith)
length-without low (suc m) e (x ∷ xs) (inr (q, h)) k = length-without (low + 1) m e (x ∷ xs) h k

-- the sign from the parities of the size and of the count above
pub around_same : (low m e r : ℕ) (chi : List ℕ → Sign) (xs : List ℕ) → IsSubsetFrom low m xs → IsMember e xs
    → length xs ≡ r + 1 → (r + 1) % 2 ≡ count_above e xs % 2 → chi (without_element e xs) ≡ around chi xs e
around_same low m e r chi xs h k l p =
    let b = above_le e xs in
    let even : (length xs - count_above e xs) % 2 ≡ 0 = omega arith in
    rw (around_member low m e chi xs h k, even) refl

pub around_opposite : (low m e r : ℕ) (chi : List ℕ → Sign) (xs : List ℕ) → IsSubsetFrom low m xs → IsMember e xs
    → length xs ≡ r + 1 → ((r + 1) % 2 ≡ count_above e xs % 2 → ⊥)
    → opposite (chi (without_element e xs)) ≡ around chi xs e
around_opposite low m e r chi xs h k l p =
    let b = above_le e xs in
    let odd : (length xs - count_above e xs) % 2 ≡ 1 = omega arith in
    rw (around_member low m e chi xs h k, odd) refl

-- what the code's test of two parities says
pub parities_same : (s k : ℕ) (b : Bool) → ((b ≡ true) ↔ (k % 2 ≡ 1)) → beq (nat_eq (s % 2) 1) b ≡ true → s % 2 ≡ k % 2
parities_same s k b (f, g) t = elim (cases_eq (s % 2) 1) [
  | inl o ↦ let q = f (only_true b (rw (eq-eqb (s % 2) 1 o) at t)) in omega arith
  | inr z ↦ let q = only_false b (rw (ne_eqb (s % 2) 1 z) at t) in
      elim (cases_eq (k % 2) 1) [ inl o ↦ cc (g o, q) | inr y ↦ omega arith ]
]
  where
    only_true : (b : Bool) → beq true b ≡ true → b ≡ true
    only_true true e = refl
    only_true false e = cc

    only_false : (b : Bool) → beq false b ≡ true → b ≡ false
    only_false true e = cc
    only_false false e = refl

pub parities_differ : (s k : ℕ) (b : Bool) → ((b ≡ true) ↔ (k % 2 ≡ 1)) → beq (nat_eq (s % 2) 1) b ≡ false
    → s % 2 ≡ k % 2 → ⊥
parities_differ s k b (f, g) t e = elim (cases_eq (s % 2) 1) [
  | inl o ↦ let q = g (omega arith) in let r = rw (eq-eqb (s % 2) 1 o, q) at t in cc
  | inr z ↦ let r = only_true b (rw (ne_eqb (s % 2) 1 z) at t) in let q = f r in absurd (omega arith)
]
  where
    only_true : (b : Bool) → beq false b ≡ false → b ≡ true
    only_true true e = refl
    only_true false e = cc
