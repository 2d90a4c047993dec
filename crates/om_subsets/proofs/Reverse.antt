-- The reverse lexicographic order of the increasing lists follows their places, and the next one in it.
--
-- Main definitions: IsReverseTurn
-- Main results: reverse_order, reverse_turn, no_reverse_turn, reverse_small_of
use Rattle.std.proofs.Common.{ℕ, zero, suc, ◌≡◌, ◌+◌, ◌-◌, ◌<◌, ◌≤◌, ◌^◌, ◌↔◌, ◌⊎◌, List, [], ◌∷◌, length, bit_and, w32}
use Rattle.std.proofs.Common.{refl, ◌∙◌, ap, arith, inl, inr}
use Rattle.std.specs.Int.{trailing_zeros}
use Rattle.std.proofs.lemmas.Bool.{cases_lt}
use Rattle.std.proofs.lemmas.List.{ext_get_or}
use Rattle.om_signs.specs.declared.limits.TheConstants.{MAX_PLACES}
use Rattle.om_subsets.specs.declared.binomials.TheConstants.{MOST_SUBSETS}
use Rattle.om_subsets.specs.Subsets.{choose, IsSubsetFrom}
use Rattle.om_subsets.specs.Lists.{IsIncreasing}
use Rattle.om_subsets.specs.Members.{members, members-subset}
use Rattle.om_subsets.specs.Reverse.{number_at, IsRevlexBefore, revlex_rank_from, revlex_rank_of}
use Rattle.om_subsets.proofs.Order.{head_low, increasing, increasing_tail}
use Rattle.om_subsets.proofs.Places.{bits_fit, members-zero}
use Rattle.om_subsets.proofs.Lowest.{lowest, turn}
use Rattle.om_subsets.proofs.Table.{choose_most}
use Rattle.om_subsets.proofs.Counts.{choose_none, choose_grows}
use Rattle.om_subsets.proofs.ReversePlaces.{reverse_small}

-- ---- the order

-- the lists after the first numbers are in order, or they are the same and the first number is smaller
abbrev IsBeforeFromEnd : List ℕ → List ℕ → Type 0
IsBeforeFromEnd [] ys = ⊥
IsBeforeFromEnd (x ∷ xs) [] = ⊥
IsBeforeFromEnd (x ∷ xs) (y ∷ ys) = IsBeforeFromEnd xs ys ⊎ ((xs ≡ ys) × (x < y))

to_places : (xs ys : List ℕ) → IsBeforeFromEnd xs ys → IsRevlexBefore xs ys
to_places [] ys h = absurd h
to_places (x ∷ xs) [] h = absurd h
to_places (x ∷ xs) (y ∷ ys) (inl h) =
    let r = to_places xs ys h in
    record {
      place = suc r.place;
      within = (let l = r.within in omega arith);
      smaller = r.smaller;
      same_after =
          after r;
    }
  where
    after : (r : IsRevlexBefore xs ys) (i : ℕ) → suc r.place < i → i < length (x ∷ xs)
        → number_at (x ∷ xs) i ≡ number_at (y ∷ ys) i
    after r zero l m = absurd (omega arith)
    after r (suc i) l m = r.same_after i (omega arith) (omega arith)
to_places (x ∷ xs) (y ∷ ys) (inr (q, lt)) = record { place = 0; within = omega arith; smaller = lt; same_after = after }
  where
    after : (i : ℕ) → 0 < i → i < length (x ∷ xs) → number_at (x ∷ xs) i ≡ number_at (y ∷ ys) i
    after zero l m = absurd (omega arith)
    after (suc i) l m = ap (λ zs. number_at zs i) q

from_places : (xs ys : List ℕ) (p : ℕ) → length xs ≡ length ys → p < length xs → number_at xs p < number_at ys p
    → ((i : ℕ) → p < i → i < length xs → number_at xs i ≡ number_at ys i) → IsBeforeFromEnd xs ys
from_places [] ys p l w s a = absurd (omega arith)
from_places (x ∷ xs) [] p l w s a = absurd (omega arith)
from_places (x ∷ xs) (y ∷ ys) zero l w s a =
    inr (ext_get_or 0 xs ys (omega arith) (λ i m. a (suc i) (omega arith) (omega arith)), s)
from_places (x ∷ xs) (y ∷ ys) (suc p) l w s a =
    inl (from_places xs ys p (omega arith) (omega arith) s (λ i m n. a (suc i) (omega arith) (omega arith)))

-- what the numbers before the first one count to, where there are i of them and each is below it
abbrev Fits : ℕ → ℕ → List ℕ → Type 0
Fits i a [] = Unit {0}
Fits i a (x ∷ xs) = (1 ≤ x) × (a < choose (x - 1) i)

counted : (i a x : ℕ) → 1 ≤ x → a < choose (x - 1) i → a + choose (x - 1) (i + 1) < choose x (i + 1)
counted i a zero low h = absurd (omega arith)
counted i a (suc x) low h =
    let e : suc x - 1 ≡ x = omega arith in
    let o : i + 1 ≡ suc i = omega arith in
    let g : a < choose x i = rw e at h in
    rw (e, o) (omega arith)

fits_next : (i a x : ℕ) (xs : List ℕ) → Fits i a (x ∷ xs) → IsIncreasing (x ∷ xs)
    → Fits (i + 1) (a + choose (x - 1) (i + 1)) xs
fits_next i a x [] f h = tt
fits_next i a x (y ∷ ys) f h =
    let l : x < y = h.0 in
    let c = counted i a x f.0 f.1 in
    let g = choose_grows x (y - 1) (i + 1) (omega arith) in
    (omega arith, omega arith)

-- the smaller first number counts less
first_counts : (i a b x y : ℕ) → 1 ≤ x → a < choose (x - 1) i → x < y
    → a + choose (x - 1) (i + 1) < b + choose (y - 1) (i + 1)
first_counts i a b x y low h l =
    let c = counted i a x low h in
    let g = choose_grows x (y - 1) (i + 1) (omega arith) in
    omega arith

abbrev IsCountedBefore : ℕ → ℕ → List ℕ → List ℕ → Type 0
IsCountedBefore a b xs ys = IsBeforeFromEnd xs ys ⊎ ((xs ≡ ys) × (a < b))

counts_follow : (i a b : ℕ) (xs ys : List ℕ) → length xs ≡ length ys → IsIncreasing xs → IsIncreasing ys → Fits i a xs
    → Fits i b ys
    → (a + revlex_rank_from (i + 1) xs < b + revlex_rank_from (i + 1) ys) ↔ IsCountedBefore a b xs ys
counts_follow i a b [] [] l hx hy fx fy =
    (λ lt. inr (refl, omega arith), λ h. elim h [ inl n ↦ absurd n | inr q ↦ let lt = q.1 in omega arith ])
counts_follow i a b [] (y ∷ ys) l hx hy fx fy = absurd (omega arith)
counts_follow i a b (x ∷ xs) [] l hx hy fx fy = absurd (omega arith)
counts_follow i a b (x ∷ xs) (y ∷ ys) l hx hy fx fy =
    let rest = counts_follow (i + 1) (a + choose (x - 1) (i + 1)) (b + choose (y - 1) (i + 1)) xs ys (omega arith)
    (increasing_tail x xs hx) (increasing_tail y ys hy) (fits_next i a x xs fx hx) (fits_next i b y ys fy hy) in
    (λ lt. forth (rest.0 (omega arith)), λ h. let lt = rest.1 (back h) in omega arith)
  where
    forth : IsCountedBefore (a + choose (x - 1) (i + 1)) (b + choose (y - 1) (i + 1)) xs ys
        → IsCountedBefore a b (x ∷ xs) (y ∷ ys)
    forth (inl h) = inl (inl h)
    forth (inr (q, lt)) = elim (cases_lt x y) [
      | inl s ↦ inl (inr (q, s))
      | inr ge ↦ elim (cases_lt y x) [
        | inl g ↦ let c = first_counts i b a y x fy.0 fy.1 g in absurd (omega arith)
        | inr le ↦ let e : x ≡ y = omega arith in let c = ap (λ k. choose (k - 1) (i + 1)) e in
            inr (cc (e, q), omega arith)
      ]
    ]

    back : IsCountedBefore a b (x ∷ xs) (y ∷ ys)
        → IsCountedBefore (a + choose (x - 1) (i + 1)) (b + choose (y - 1) (i + 1)) xs ys
    back (inl (inl h)) = inl h
    back (inl (inr (q, s))) = inr (q, first_counts i a b x y fx.0 fx.1 s)
    back (inr (q, lt)) =
        let e : x ≡ y = cc q in
        let c = ap (λ k. choose (k - 1) (i + 1)) e in
        inr (cc q, omega arith)

fits_at_start : (n : ℕ) (xs : List ℕ) → IsSubsetFrom 1 n xs → Fits 0 0 xs
fits_at_start n [] h = tt
fits_at_start n (x ∷ xs) h = let l = head_low 1 n x xs h in let c = choose_none (x - 1) in (l, omega arith)

pub reverse_order : (n : ℕ) (xs ys : List ℕ) → IsSubsetFrom 1 n xs → IsSubsetFrom 1 n ys → length xs ≡ length ys
    → IsRevlexBefore xs ys ↔ (revlex_rank_of xs < revlex_rank_of ys)
reverse_order n xs ys hx hy l = (
  λ r. let lt = c.1 (inl (from_places xs ys r.place l r.within r.smaller r.same_after)) in omega arith,
  λ lt. elim (c.0 (omega arith)) [ inl h ↦ to_places xs ys h | inr q ↦ absurd (let k = q.1 in omega arith) ],
)
  where
    c : (0 + revlex_rank_from 1 xs < 0 + revlex_rank_from 1 ys) ↔ IsCountedBefore 0 0 xs ys
    c = let o : 0 + 1 ≡ 1 = omega arith in
        rw o at (counts_follow 0 0 0 xs ys l (increasing 1 n xs hx) (increasing 1 n ys hy) (fits_at_start n xs hx)
        (fits_at_start n ys hy))

-- one turn of the loop over the members: the mask that is left has one member less
pub record IsReverseTurn (mask n p : ℕ) : Type 0 where
  pub within : bit_and mask (mask - 1) < 2 ^ n
  pub small : trailing_zeros w32 mask + 1 ≤ n
  pub size : length (members mask 1 n) ≡ length (members (bit_and mask (mask - 1)) 1 n) + 1
  pub rank : revlex_rank_from (p + 1) (members mask 1 n) ≡ choose (trailing_zeros w32 mask) (p + 1)
      + revlex_rank_from (p + 1 + 1) (members (bit_and mask (mask - 1)) 1 n)

pub reverse_turn : (mask n p : ℕ) → 0 < mask → mask < 2 ^ n → n ≤ MAX_PLACES → IsReverseTurn mask n p
reverse_turn mask n p some l h =
    let t = turn mask n some l h in
    let e : 1 + trailing_zeros w32 mask - 1 ≡ trailing_zeros w32 mask = omega arith in
    record {
      within = t.within;
      small = t.small;
      size = t.size;
      rank = ap (revlex_rank_from (p + 1)) (lowest mask n some l (bits_fit n h))
          ∙ ap (λ k. choose k (p + 1) + revlex_rank_from (p + 1 + 1) (members (bit_and mask (mask - 1)) 1 n)) e;
    }

pub no_reverse_turn : (mask n p : ℕ) → mask ≡ 0 → revlex_rank_from (p + 1) (members mask 1 n) ≡ 0
no_reverse_turn mask n p z = rw (z, members-zero 1 n) refl

-- a place is small
pub reverse_small_of : (mask n : ℕ) → n ≤ MAX_PLACES → revlex_rank_of (members mask 1 n) ≤ MOST_SUBSETS
reverse_small_of mask n h =
    let l = reverse_small n (members mask 1 n) (members-subset mask 1 n) in
    let m = choose_most n (length (members mask 1 n)) h in
    omega arith
