-- The first element above a number.
--
-- Main results: the first element of a mask above n (first_found), and that there is none (none_found); a mask without
-- elements above n (mask_below).
use Rattle.std.specs.Prelude.{ℕ, ◌≡◌, ◌+◌, ◌/◌, ◌%◌, ◌<◌, ◌≤◌, ◌^◌, List, [], ◌∷◌, Some, None, refl}
use Rattle.std.proofs.Common.{zero, suc, arith, inl, inr, sym, subst}
use Rattle.std.proofs.lemmas.Bool.{cases_eq, cases_lt, eq-eqb, ne_eqb, lt-ltb, le-ltb}
use Rattle.std.proofs.Math.Nat.{pow-succ'}
use Rattle.std.proofs.lemmas.Option.{none-some}
use Rattle.om_signs.specs.declared.limits.TheConstants.{MAX_ELEMENTS}
use Rattle.om_subsets.specs.Subsets.{IsSubsetFrom, IsMember}
use Rattle.om_subsets.specs.Members.{members}
use Rattle.om_subsets.proofs.Order.{members_from}
use Rattle.om_reply.specs.Above.{first_above}

find_first : (low m n e : ℕ) (xs : List ℕ) → IsSubsetFrom low m xs → IsMember e xs → n < e
    → ((k : ℕ) → n < k → k < e → IsMember k xs → ⊥) → first_above n xs ≡ Some e
find_first low m n e [] h member above before = absurd member
find_first low zero n e (x ∷ xs) h member above before = absurd h
find_first low (suc m) n e (x ∷ xs) (inr (q, h)) member above before =
    find_first (low + 1) m n e (x ∷ xs) h member above before
find_first low (suc m) n e (x ∷ xs) (inl (q, h)) (inl same) above before =
    let lt : n < x = omega (arith, above, same) in
    rw (lt-ltb n x lt) (rw same refl)
find_first low (suc m) n e (x ∷ xs) (inl (q, h)) (inr member) above before = elim (cases_lt n x) [
  | inl lt ↦
      let later : low + 1 ≤ e = (members_from (low + 1) m e xs h member).0 in
      absurd (before x lt (omega (arith, later, q)) (inl refl))
  | inr ge ↦ rw (le-ltb n x ge) (find_first (low + 1) m n e xs h member above (λ k l b i. before k l b (inr i)))
]

pub find_none : (n : ℕ) (xs : List ℕ) → ((k : ℕ) → n < k → IsMember k xs → ⊥) → first_above n xs ≡ None
find_none n [] none = refl
find_none n (x ∷ xs) none = elim (cases_lt n x) [
  | inl lt ↦ absurd (none x lt (inl refl))
  | inr ge ↦ rw (le-ltb n x ge) (find_none n xs (λ k l i. none k l (inr i)))
]

above_or_not : (n x k : ℕ) (xs : List ℕ) → x ≤ n → (IsMember k xs → k ≤ n) → IsMember k (x ∷ xs) → k ≤ n
above_or_not n x k xs ge rest (inl same) = omega (arith, ge, same)
above_or_not n x k xs ge rest (inr m) = rest m

pub none_above : (n : ℕ) (xs : List ℕ) → first_above n xs ≡ None → (k : ℕ) → IsMember k xs → k ≤ n
none_above n [] found k member = absurd member
none_above n (x ∷ xs) found k member = elim (cases_lt n x) [
  | inl lt ↦ absurd (none-some x (sym (rw (lt-ltb n x lt) at found)))
  | inr ge ↦ above_or_not n x k xs ge (none_above n xs (rw (le-ltb n x ge) at found) k) member
]

pub first_found : (n e mask : ℕ) (xs : List ℕ) → xs ≡ members mask 1 MAX_ELEMENTS → IsSubsetFrom 1 MAX_ELEMENTS xs
    → IsMember e xs → n < e → ((k : ℕ) → n < k → k < e → IsMember k xs → ⊥)
    → Some e ≡ first_above n (members mask 1 MAX_ELEMENTS)
first_found n e mask xs is lawful member above before =
    subst (λ u. Some e ≡ first_above n u) is (sym (find_first 1 MAX_ELEMENTS n e xs lawful member above before))

pub none_found : (n e mask : ℕ) (xs : List ℕ) → xs ≡ members mask 1 MAX_ELEMENTS → IsSubsetFrom 1 MAX_ELEMENTS xs
    → MAX_ELEMENTS < e → ((k : ℕ) → n < k → k < e → IsMember k xs → ⊥)
    → None ≡ first_above n (members mask 1 MAX_ELEMENTS)
none_found n e mask xs is lawful past before =
    subst (λ u. None ≡ first_above n u) is
    (sym (find_none n xs (λ k l member. let high = (members_from 1 MAX_ELEMENTS k xs lawful member).1 in
    before k l (omega (arith, high, past)) member)))

some_power : (m : ℕ) → 1 ≤ 2 ^ m
some_power zero = omega arith
some_power (suc m) = let i = some_power m in let d = pow-succ' 2 m in omega (arith, i, d)

at_odd : (mask low m n : ℕ) → mask % 2 ≡ 1
    → ((n : ℕ) → ((k : ℕ) → IsMember k (members (mask / 2) (low + 1) m) → k < low + 1 + n) → mask / 2 < 2 ^ n)
    → ((k : ℕ) → IsMember k (low ∷ members (mask / 2) (low + 1) m) → k < low + n) → mask < 2 ^ n
at_odd mask low m zero odd rest none = let l = none low (inl refl) in absurd (omega (arith, l))
at_odd mask low m (suc n) odd rest none =
    let i = rest n (λ k i. let l = none k (inr i) in omega (arith, l)) in
    let d = pow-succ' 2 n in omega (arith, i, d)

at_even : (mask low m n : ℕ) → (mask % 2 ≡ 1 → ⊥)
    → ((n : ℕ) → ((k : ℕ) → IsMember k (members (mask / 2) (low + 1) m) → k < low + 1 + n) → mask / 2 < 2 ^ n)
    → ((k : ℕ) → IsMember k (members (mask / 2) (low + 1) m) → k < low + n) → mask < 2 ^ n
at_even mask low m zero even rest none =
    let i = rest 0 (λ k i. let l = none k i in omega (arith, l)) in
    omega (arith, i, even)
at_even mask low m (suc n) even rest none =
    let i = rest n (λ k i. let l = none k i in omega (arith, l)) in
    let d = pow-succ' 2 n in omega (arith, i, d)

members_below : (mask low m n : ℕ) → mask < 2 ^ m → ((k : ℕ) → IsMember k (members mask low m) → k < low + n)
    → mask < 2 ^ n
members_below mask low zero n small none = let p = some_power n in omega (arith, small, p)
members_below mask low (suc m) n small none =
    let d = pow-succ' 2 m in
    let half : mask / 2 < 2 ^ m = omega (arith, small, d) in
    elim (cases_eq (mask % 2) 1) [
      | inl odd ↦ at_odd mask low m n odd (λ n. members_below (mask / 2) (low + 1) m n half)
          (λ k i. none k (rw (eq-eqb (mask % 2) 1 odd) i))
      | inr even ↦ at_even mask low m n even (λ n. members_below (mask / 2) (low + 1) m n half)
          (λ k i. none k (rw (ne_eqb (mask % 2) 1 even) i))
    ]

pub mask_below : (n mask : ℕ) → mask < 2 ^ MAX_ELEMENTS → first_above n (members mask 1 MAX_ELEMENTS) ≡ None
    → mask < 2 ^ n
mask_below n mask small found =
    members_below mask 1 MAX_ELEMENTS n small
    (λ k i. let l = none_above n (members mask 1 MAX_ELEMENTS) found k i in omega (arith, l))
