-- The members of a mask from a place on that are the last of their size, which the loop for the next set passes over.
--
-- Main definitions: IsLast, IsTail, what holds after a turn of the loop
-- Main results: last_none, last_member, tail_more, tail_same, tail_small; choose_all, the one set of all elements
use Rattle.std.proofs.Common.{ℕ, ◌≡◌, ◌≢◌, ◌+◌, ◌-◌, ◌/◌, ◌<◌, ◌≤◌, ◌^◌, length, zero, suc, refl, sym, ◌∙◌, ap, arith}
use Rattle.std.proofs.Common.{inl, inr, bit_and}
use Rattle.std.proofs.lemmas.Bool.{cases_eq}
use Rattle.om_subsets.specs.Subsets.{choose}
use Rattle.om_subsets.proofs.Places.{from_place, member_here, none_here, rank_from_place, rank_member, rank_skipped}
use Rattle.om_subsets.proofs.Places.{rank_none, length-members}

-- the members from place i on are the last of their size
abbrev pub IsLast : ℕ → ℕ → ℕ → Type 0
IsLast mask i n = rank_from_place i n (from_place mask i n) + 1 ≡ choose (n - i) (length (from_place mask i n))

choose-above : (n k : ℕ) → choose n (n + suc k) ≡ 0
choose-above zero k = let e : 0 + suc k ≡ suc k = omega arith in rw e refl
choose-above (suc n) k =
    let e : suc n + suc k ≡ suc (n + suc k) = omega arith in
    let a = choose-above n k in
    let f : suc (n + suc k) ≡ n + suc (suc k) = omega arith in
    let b = ap (choose n) f ∙ choose-above n (suc k) in
    rw e (omega arith)

-- there is one way to choose all
pub choose_all : (n : ℕ) → choose n n ≡ 1
choose_all zero = refl
choose_all (suc n) =
    let e : n + suc 0 ≡ suc n = omega arith in
    let a = sym (ap (choose n) e) ∙ choose-above n 0 in
    let i = choose_all n in
    omega arith

pub last_none : (mask i n : ℕ) → i < n → bit_and (mask / 2 ^ i) 1 ≢ 1 → IsLast mask (i + 1) n → IsLast mask i n
last_none mask i n l t h = elim (cases_eq (length (from_place mask (i + 1) n)) 0) [
  | inl z ↦
      let same = none_here mask i n l t in
      let a = rank_none i n (from_place mask i n) (rw same z) in
      let b : length (from_place mask i n) ≡ 0 = rw same z in
      rw (a, b) (omega arith)
  | inr some ↦ pascal (n - i) (n - 1 - i) (n - (i + 1)) (length (from_place mask i n))
      (length (from_place mask (i + 1) n)) (rank_from_place i n (from_place mask i n))
      (rank_from_place (i + 1) n (from_place mask (i + 1) n)) (omega arith) (omega arith)
      (ap length (none_here mask i n l t)) some (rank_skipped mask i n l t (omega arith)) h
]
  where
    pascal : (a b c k j r s : ℕ) → a ≡ suc c → b ≡ c → k ≡ j → j ≢ 0 → r ≡ choose b (j - 1) + s → s + 1 ≡ choose c j
        → r + 1 ≡ choose a k
    pascal a b c k zero r s ea eb ek n er es = absurd (n refl)
    pascal a b c k (suc j) r s ea eb ek n er es =
        let m : suc j - 1 ≡ j = omega arith in
        let q = er ∙ ap (λ x. choose b x + s) m ∙ ap (λ x. choose x j + s) eb in
        rw (ea, ek) (omega arith)

pub last_member : (mask i n : ℕ) → i < n → bit_and (mask / 2 ^ i) 1 ≡ 1
    → n - (i + 1) ≤ length (from_place mask (i + 1) n) → IsLast mask (i + 1) n → IsLast mask i n
last_member mask i n l t full h =
    let here = member_here mask i n l t in
    let top = length-members (mask / 2 ^ (i + 1)) (i + 1 + 1) (n - (i + 1)) in
    let k : length (from_place mask (i + 1) n) ≡ n - (i + 1) = omega arith in
    let k2 : length (from_place mask i n) ≡ n - i = ap length here ∙ omega arith in
    let one = h ∙ ap (choose (n - (i + 1))) k ∙ choose_all (n - (i + 1)) in
    let e = rank_member mask i n l t in
    rw k2 (ap (λ x. x + 1) e ∙ one ∙ sym (choose_all (n - i)))

-- what holds after a turn
pub record IsTail (mask n k t : ℕ) : Type 0 where
  pub tail_is : t ≡ length (from_place mask (n - k) n)
  pub last : IsLast mask (n - k) n

pub tail_more : (mask n k t : ℕ) → k < n → bit_and (mask / 2 ^ (n - 1 - k)) 1 ≡ 1 → k ≤ t
    → t ≡ length (from_place mask (n - k) n) → IsLast mask (n - k) n → IsTail mask n (k + 1) (t + 1)
tail_more mask n k t lk test full et last =
    let here : n - k ≡ n - 1 - k + 1 = omega arith in
    let next : n - 1 - k ≡ n - (k + 1) = omega arith in
    let et' : t ≡ length (from_place mask (n - 1 - k + 1) n) = rw here at et in
    let last' : IsLast mask (n - 1 - k + 1) n = rw here at last in
    let l = last_member mask (n - 1 - k) n (omega arith) test (omega arith) last' in
    let m = ap length (member_here mask (n - 1 - k) n (omega arith) test) in
    let e : t + 1 ≡ length (from_place mask (n - 1 - k) n) = omega arith in
    record { tail_is = rw next at e; last = rw next at l }

pub tail_same : (mask n k t : ℕ) → k < n → bit_and (mask / 2 ^ (n - 1 - k)) 1 ≢ 1
    → t ≡ length (from_place mask (n - k) n) → IsLast mask (n - k) n → IsTail mask n (k + 1) t
tail_same mask n k t lk test et last =
    let here : n - k ≡ n - 1 - k + 1 = omega arith in
    let next : n - 1 - k ≡ n - (k + 1) = omega arith in
    let et' : t ≡ length (from_place mask (n - 1 - k + 1) n) = rw here at et in
    let last' : IsLast mask (n - 1 - k + 1) n = rw here at last in
    let l = last_none mask (n - 1 - k) n (omega arith) test last' in
    let m = ap length (none_here mask (n - 1 - k) n (omega arith) test) in
    let e : t ≡ length (from_place mask (n - 1 - k) n) = omega arith in
    record { tail_is = rw next at e; last = rw next at l }

pub tail_small : (mask n k t : ℕ) → n < 32 → t ≡ length (from_place mask (n - k) n) → t < 32
tail_small mask n k t h e = let l = length-members (mask / 2 ^ (n - k)) (n - k + 1) (n - (n - k)) in omega arith
