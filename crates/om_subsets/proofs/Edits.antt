-- What a bit that is set, cleared or tested does to the members.
--
-- Main definitions: IsEdit
-- Main results: members_same, member_bit, with_members, without_members, count_members, set_edit, clear_edit, set_fits,
-- has_test, odd_test
use Rattle.std.proofs.Common.{ℕ, ◌≡◌, ◌≢◌, ◌+◌, ◌-◌, ◌*◌, ◌/◌, ◌%◌, ◌<◌, ◌≤◌, ◌^◌, List, ◌∷◌, length, zero, suc, refl}
use Rattle.std.proofs.Common.{sym, ◌∙◌, arith, nat_eq, inl, inr, bit_and, bit_or, ◌↔◌, add-one, w32, IsTrue}
use Rattle.std.specs.Int.{bit_at}
use Rattle.std.proofs.Math.Pow.{pow-lt}
use Rattle.std.proofs.lemmas.Bool.{cases_eq, eqb-true, eq-eqb, ne_eqb, lt-ltb, le-ltb}
use Rattle.std.proofs.lemmas.Nat.{one_shl}
use Rattle.std.proofs.lemmas.Nat.Bits.{bit_at-suc, bit_at_lowest, bit_at-lt, bit_at_and, bit_at_or, bit_at_not}
use Rattle.std.proofs.lemmas.Nat.Bits.{bit_at-pow_same, bit_at-pow_other, shr_and_one}
use Rattle.om_subsets.specs.Subsets.{IsMember, with_element, without_element, count_above}
use Rattle.om_subsets.specs.Members.{members}
use Rattle.std.specs.Int.Count.{ones}
use Rattle.std.proofs.Math.Nat.{div-div-eq-div-mul, pow-succ'}
use Rattle.std.proofs.lemmas.Nat.{or_lt}
use Rattle.om_subsets.proofs.Places.{ones-members}

-- two masks that agree at their bits but at j, in place of which the second has bit b
pub record IsEdit (mask next j b m : ℕ) : Type 0 where
  pub here : bit_at next j ≡ b
  pub others : (i : ℕ) → i < m → i ≢ j → bit_at next i ≡ bit_at mask i

abbrev SameBits : ℕ → ℕ → ℕ → Type 0
SameBits a b m = (i : ℕ) → i < m → bit_at a i ≡ bit_at b i

halve_same : (a b m : ℕ) → SameBits a b (suc m) → SameBits (a / 2) (b / 2) m
halve_same a b m h i l = sym (bit_at-suc a i) ∙ h (suc i) (omega arith) ∙ bit_at-suc b i

pub members_same : (a b e m : ℕ) → SameBits a b m → members a e m ≡ members b e m
members_same a b e zero h = refl
members_same a b e (suc m) h =
    let low : a % 2 ≡ b % 2 = sym (bit_at_lowest a) ∙ h 0 (omega arith) ∙ bit_at_lowest b in
    rw (low, members_same (a / 2) (b / 2) (e + 1) m (halve_same a b m h)) refl

-- every member is at least e
below_none : (mask e d f m : ℕ) → f < e + d → IsMember f (members mask (e + d) m) → ⊥
below_none mask e d f zero l h = h
below_none mask e d f (suc m) l h =
    let s : e + d + 1 ≡ e + (d + 1) = omega arith in
    elim (cases_eq (mask % 2) 1) [
      | inl o ↦ first (λ q. below_none (mask / 2) e (d + 1) f m (omega arith) (rw s at q))
          (rw (eq-eqb (mask % 2) 1 o) at h)
      | inr z ↦ below_none (mask / 2) e (d + 1) f m (omega arith) (rw s at (rw (ne_eqb (mask % 2) 1 z) at h))
    ]
  where
    first : (IsMember f (members (mask / 2) (e + d + 1) m) → ⊥)
        → IsMember f ((e + d) ∷ members (mask / 2) (e + d + 1) m) → ⊥
    first k (inl q) = absurd (omega arith)
    first k (inr q) = k q

-- the bit of e + j is that of the member e + j
pub member_bit : (mask e m j : ℕ) → j < m → (bit_at mask j ≡ 1) ↔ IsMember (e + j) (members mask e m)
member_bit mask e zero j l = absurd (omega arith)
member_bit mask e (suc m) zero l =
    let same : e + 0 ≡ e = omega arith in
    elim (cases_eq (mask % 2) 1) [
      | inl o ↦ rw (same, eq-eqb (mask % 2) 1 o) (λ _. inl refl, λ _. bit_at_lowest mask ∙ o)
      | inr z ↦
          rw (same, ne_eqb (mask % 2) 1 z) (
            λ b. absurd (z (sym (bit_at_lowest mask) ∙ b)),
            λ h. absurd (below_none (mask / 2) e 1 e m (omega arith) h),
          )
    ]
member_bit mask e (suc m) (suc j) l =
    let s : e + suc j ≡ e + 1 + j = omega arith in
    let ne : e + 1 + j ≢ e = omega arith in
    let i = member_bit (mask / 2) (e + 1) m j (omega arith) in
    elim (cases_eq (mask % 2) 1) [
      | inl o ↦
          rw (s, eq-eqb (mask % 2) 1 o) (
            λ b. inr (i.0 (sym (bit_at-suc mask j) ∙ b)),
            λ h. bit_at-suc mask j
                ∙ i.1 (later ne h),
          )
      | inr z ↦ rw (s, ne_eqb (mask % 2) 1 z) (λ b. i.0 (sym (bit_at-suc mask j) ∙ b), λ h. bit_at-suc mask j ∙ i.1 h)
    ]
  where
    later : e + 1 + j ≢ e → IsMember (e + 1 + j) (e ∷ members (mask / 2) (e + 1) m)
        → IsMember (e + 1 + j) (members (mask / 2) (e + 1) m)
    later ne (inl q) = absurd (ne q)
    later ne (inr q) = q

halve_edit : (mask next j b m : ℕ) → IsEdit mask next (suc j) b (suc m) → IsEdit (mask / 2) (next / 2) j b m
halve_edit mask next j b m h = record {
  here = sym (bit_at-suc next j) ∙ h.here;
  others = λ i l n. sym (bit_at-suc next i) ∙ h.others (suc i) (omega arith) (omega arith) ∙ bit_at-suc mask i;
}

low_same : (mask next j b m : ℕ) → IsEdit mask next (suc j) b (suc m) → next % 2 ≡ mask % 2
low_same mask next j b m h = sym (bit_at_lowest next) ∙ h.others 0 (omega arith) (omega arith) ∙ bit_at_lowest mask

high_same : (mask next b m : ℕ) → IsEdit mask next 0 b (suc m) → SameBits (next / 2) (mask / 2) m
high_same mask next b m h i l = sym (bit_at-suc next i) ∙ h.others (suc i) (omega arith) (omega arith)
    ∙ bit_at-suc mask i

with_front : (mask e d m : ℕ) → 1 ≤ d → with_element e (members mask (e + d) m) ≡ e ∷ members mask (e + d) m
with_front mask e d zero l = refl
with_front mask e d (suc m) l =
    let ne : e ≢ e + d = omega arith in
    let lt : e < e + d = omega arith in
    let s : e + d + 1 ≡ e + (d + 1) = omega arith in
    elim (cases_eq (mask % 2) 1) [
      | inl o ↦ rw (eq-eqb (mask % 2) 1 o) (rw (ne_eqb e (e + d) ne, lt-ltb e (e + d) lt) refl)
      | inr z ↦ rw (ne_eqb (mask % 2) 1 z, s) (with_front (mask / 2) e (d + 1) m (omega arith))
    ]

without_front : (mask e d m : ℕ) → 1 ≤ d → without_element e (members mask (e + d) m) ≡ members mask (e + d) m
without_front mask e d zero l = refl
without_front mask e d (suc m) l =
    let ne : e ≢ e + d = omega arith in
    let s : e + d + 1 ≡ e + (d + 1) = omega arith in
    elim (cases_eq (mask % 2) 1) [
      | inl o ↦
          rw (eq-eqb (mask % 2) 1 o)
          (rw (ne_eqb e (e + d) ne, s, without_front (mask / 2) e (d + 1) m (omega arith)) refl)
      | inr z ↦ rw (ne_eqb (mask % 2) 1 z, s) (without_front (mask / 2) e (d + 1) m (omega arith))
    ]

count_front : (mask e d m : ℕ) → 1 ≤ d → count_above e (members mask (e + d) m) ≡ length (members mask (e + d) m)
count_front mask e d zero l = refl
count_front mask e d (suc m) l =
    let lt : e < e + d = omega arith in
    let s : e + d + 1 ≡ e + (d + 1) = omega arith in
    elim (cases_eq (mask % 2) 1) [
      | inl o ↦
          rw (eq-eqb (mask % 2) 1 o)
          (rw (lt-ltb e (e + d) lt, s, count_front (mask / 2) e (d + 1) m (omega arith)) (omega arith))
      | inr z ↦ rw (ne_eqb (mask % 2) 1 z, s) (count_front (mask / 2) e (d + 1) m (omega arith))
    ]

pub with_members : (mask next e j m : ℕ) → j < m → IsEdit mask next j 1 m
    → members next e m ≡ with_element (e + j) (members mask e m)
with_members mask next e j zero l h = absurd (omega arith)
with_members mask next e zero (suc m) l h =
    let o : next % 2 ≡ 1 = sym (bit_at_lowest next) ∙ h.here in
    let s : e + 0 ≡ e = omega arith in
    let t = members_same (next / 2) (mask / 2) (e + 1) m (high_same mask next 1 m h) in
    rw (s, o, t) (elim (cases_eq (mask % 2) 1) [
      | inl q ↦ rw (eq-eqb (mask % 2) 1 q) (rw (eq-eqb e e refl) refl)
      | inr z ↦ rw (ne_eqb (mask % 2) 1 z) (sym (with_front (mask / 2) e 1 m (omega arith)))
    ])
with_members mask next e (suc j) (suc m) l h =
    let s : e + suc j ≡ e + 1 + j = omega arith in
    let ne : e + 1 + j ≢ e = omega arith in
    let ge : e ≤ e + 1 + j = omega arith in
    let i = with_members (mask / 2) (next / 2) (e + 1) j m (omega arith) (halve_edit mask next j 1 m h) in
    rw (low_same mask next j 1 m h, s, i) (elim (cases_eq (mask % 2) 1) [
      | inl q ↦ rw (eq-eqb (mask % 2) 1 q) (rw (ne_eqb (e + 1 + j) e ne, le-ltb (e + 1 + j) e ge) refl)
      | inr z ↦ rw (ne_eqb (mask % 2) 1 z) refl
    ])

pub without_members : (mask next e j m : ℕ) → j < m → IsEdit mask next j 0 m
    → members next e m ≡ without_element (e + j) (members mask e m)
without_members mask next e j zero l h = absurd (omega arith)
without_members mask next e zero (suc m) l h =
    let o : next % 2 ≡ 0 = sym (bit_at_lowest next) ∙ h.here in
    let s : e + 0 ≡ e = omega arith in
    let t = members_same (next / 2) (mask / 2) (e + 1) m (high_same mask next 0 m h) in
    rw (s, o, t) (elim (cases_eq (mask % 2) 1) [
      | inl q ↦ rw (eq-eqb (mask % 2) 1 q) (rw (eq-eqb e e refl) (sym (without_front (mask / 2) e 1 m (omega arith))))
      | inr z ↦ rw (ne_eqb (mask % 2) 1 z) (sym (without_front (mask / 2) e 1 m (omega arith)))
    ])
without_members mask next e (suc j) (suc m) l h =
    let s : e + suc j ≡ e + 1 + j = omega arith in
    let ne : e + 1 + j ≢ e = omega arith in
    let i = without_members (mask / 2) (next / 2) (e + 1) j m (omega arith) (halve_edit mask next j 0 m h) in
    rw (low_same mask next j 0 m h, s, i) (elim (cases_eq (mask % 2) 1) [
      | inl q ↦ rw (eq-eqb (mask % 2) 1 q) (rw (ne_eqb (e + 1 + j) e ne) refl)
      | inr z ↦ rw (ne_eqb (mask % 2) 1 z) refl
    ])

pub count_members : (mask e j m : ℕ) → j < m → mask < 2 ^ m
    → ones (mask / 2 ^ (j + 1)) ≡ count_above (e + j) (members mask e m)
count_members mask e j zero l h = absurd (omega arith)
count_members mask e zero (suc m) l h =
    let d = pow-succ' 2 m in
    let s : e + 0 ≡ e = omega arith in
    let half : mask / 2 ^ (0 + 1) ≡ mask / 2 = refl in
    let i = ones-members (mask / 2) (e + 1) m (omega arith) in
    let f = count_front (mask / 2) e 1 m (omega arith) in
    let ge : e ≤ e = omega arith in
    rw (s, half, i) (elim (cases_eq (mask % 2) 1) [
      | inl q ↦ rw (eq-eqb (mask % 2) 1 q) (rw (le-ltb e e ge, f) (omega arith))
      | inr z ↦ rw (ne_eqb (mask % 2) 1 z) (sym f)
    ])
count_members mask e (suc j) (suc m) l h =
    let d = pow-succ' 2 m in
    let s : e + suc j ≡ e + 1 + j = omega arith in
    let p : 2 ^ (suc j + 1) ≡ 2 * 2 ^ (j + 1) = rw add-one (rw add-one (pow-succ' 2 (suc j))) in
    let half : mask / 2 ^ (suc j + 1) ≡ mask / 2 / 2 ^ (j + 1) = rw p (sym (div-div-eq-div-mul mask 2 (2 ^ (j + 1)))) in
    let i = count_members (mask / 2) (e + 1) j m (omega arith) (omega arith) in
    let ge : e ≤ e + 1 + j = omega arith in
    rw (s, half, i) (elim (cases_eq (mask % 2) 1) [
      | inl q ↦ rw (eq-eqb (mask % 2) 1 q) (rw (le-ltb (e + 1 + j) e ge) (omega arith))
      | inr z ↦ rw (ne_eqb (mask % 2) 1 z) refl
    ])

-- ---- the code's masks

pub set_edit : (mask j n : ℕ) → j < n → n < 32 → IsEdit mask (bit_or mask (1 * 2 ^ j % 4294967296)) j 1 n
set_edit mask j n l h = rw (one_shl j 32 (omega arith)) (record {
  here = rw (bit_at_or, bit_at-pow_same j) (let b = bit_at-lt mask j in omega arith);
  others = λ i lt ne. rw (bit_at_or, bit_at-pow_other j i ne) (omega arith);
})

pub clear_edit : (mask j n : ℕ) → mask < 2 ^ n → j < n → n < 32
    → IsEdit mask (bit_and mask (4294967295 - 1 * 2 ^ j % 4294967296)) j 0 n
clear_edit mask j n m l h =
    let p : 2 ^ j < 2 ^ 32 = pow-lt {j = 32} (omega arith) in
    rw (one_shl j 32 (omega arith)) (record {
      here = rw (bit_at_and, bit_at_not w32 (2 ^ j) j p (omega arith), bit_at-pow_same j) (omega arith);
      others = λ i lt ne. rw (bit_at_and, bit_at_not w32 (2 ^ j) i p (omega arith), bit_at-pow_other j i ne)
          (let b = bit_at-lt mask i in omega arith);
    })

pub set_fits : (mask j n : ℕ) → mask < 2 ^ n → j < n → n < 32 → bit_or mask (1 * 2 ^ j % 4294967296) < 2 ^ n
set_fits mask j n m l h = rw (one_shl j 32 (omega arith)) (or_lt n mask (2 ^ j) m (pow-lt l))

pub has_test : (mask j n e : ℕ) (xs : List ℕ) → j < n → 1 + j ≡ e → members mask 1 n ≡ xs
    → IsTrue (nat_eq (bit_and (mask / 2 ^ j) 1) 1) ↔ IsMember e xs
has_test mask j n e xs l ej v =
    let m = member_bit mask 1 n j l in
    rw (← ej, ← v) (λ t. m.0 (sym (shr_and_one mask j) ∙ eqb-true _ 1 t), λ h. eq-eqb _ 1 (shr_and_one mask j ∙ m.1 h))

pub odd_test : (mask j n e : ℕ) (xs : List ℕ) → j < n → j + 1 ≡ e → mask < 2 ^ n → members mask 1 n ≡ xs
    → IsTrue (nat_eq (ones (mask / 2 ^ e) % 2) 1) ↔ (count_above e xs % 2 ≡ 1)
odd_test mask j n e xs l ej h v =
    let o : 1 + j ≡ j + 1 = omega arith in
    let m : ones (mask / 2 ^ (j + 1)) ≡ count_above (j + 1) (members mask 1 n) =
    rw o at (count_members mask 1 j n l h) in
    rw (← ej, ← v, m) (λ t. eqb-true _ 1 t, λ q. eq-eqb _ 1 q)
