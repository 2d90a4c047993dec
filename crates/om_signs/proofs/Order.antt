-- The lexicographic order, from the lowest bit in which the masks differ.
--
-- Main results: order_here, order_of_lengths
use Rattle.std.proofs.Common.{ℕ, ◌≡◌, ◌≢◌, ◌+◌, ◌-◌, ◌<◌, ◌≤◌, ◌%◌, ◌^◌, zero, suc, min, max, refl, sym, ◌∙◌, ap, arith}
use Rattle.std.proofs.Common.{bit_or, bit_xor, inl, inr, w32, List, [], ◌∷◌, length}
use Rattle.std.specs.Int.{bit_at, trailing_zeros}
use Rattle.std.specs.Ordering.{ordering_then, nat_cmp}
use Rattle.std.specs.declared.cmp.Ordering.{Ordering}
use Rattle.std.specs.declared.cmp.Ordering.TheVariants.{Less, Equal, Greater}
use Rattle.std.specs.Cmp.{tied_itself}
use Rattle.std.proofs.lemmas.Bool.{cases_eq}
use Rattle.std.proofs.lemmas.Nat.{or_lt, xor_lt}
use Rattle.std.proofs.lemmas.Nat.Bits.{bit_at-zero, bit_at-lt, bit_at_or, bit_at_xor, bit_at-trailing_zeros}
use Rattle.om_signs.specs.declared.sign.Sign.{Sign}
use Rattle.om_signs.specs.Sign.{is_plus, is_minus}
use Rattle.om_signs.specs.SignVec.{at, at_element}
use Rattle.om_signs.specs.Masks.{signs_of, AreSignMasks}
use Rattle.om_signs.specs.Order.{sign_order, lexicographic}
use Rattle.om_signs.specs.OrderLaws.{sign_order-total, same_sign, sign_from_bits}
use Rattle.om_signs.proofs.Views.{Shows, shows, length_is, fits_32}

-- ---- the lists

then_decided : (r s : Ordering) → r ≢ Equal → ordering_then r s ≡ r
then_decided Less s n = refl
then_decided Equal s n = absurd (n refl)
then_decided Greater s n = refl

then_level : (s t : Sign) (r : Ordering) → s ≡ t → ordering_then (sign_order s t) r ≡ r
then_level s t r e =
    let z : sign_order s t ≡ Equal = ap (λ k. sign_order s k) (sym e) ∙ tied_itself sign_order-total s in
    ap (λ o. ordering_then o r) z

-- the first place where the signs differ
pub first_difference : (xs ys : List Sign) (k : ℕ) → k < length xs → k < length ys
    → ((i : ℕ) → i < k → at xs i ≡ at ys i) → at xs k ≢ at ys k → lexicographic xs ys ≡ sign_order (at xs k) (at ys k)
first_difference [] ys k lx ly before differ = absurd (omega arith)
first_difference (x ∷ xs) [] k lx ly before differ = absurd (omega arith)
first_difference (x ∷ xs) (y ∷ ys) zero lx ly before differ =
    then_decided (sign_order x y) (lexicographic xs ys) (λ e. differ (same_sign x y e))
first_difference (x ∷ xs) (y ∷ ys) (suc k) lx ly before differ =
    then_level x y (lexicographic xs ys) (before zero (omega arith))
    ∙ first_difference xs ys k (omega arith) (omega arith) (λ i lt. before (suc i) (omega arith)) differ

nat_cmp-suc : (a b : ℕ) → nat_cmp (suc a) (suc b) ≡ nat_cmp a b
nat_cmp-suc a b = grind arith

nat_cmp-none : (b : ℕ) → Less ≡ nat_cmp 0 (suc b)
nat_cmp-none b = grind arith

nat_cmp-some : (a : ℕ) → Greater ≡ nat_cmp (suc a) 0
nat_cmp-some a = grind arith

-- no place where the signs differ
pub no_difference : (xs ys : List Sign) → ((i : ℕ) → i < length xs → i < length ys → at xs i ≡ at ys i)
    → lexicographic xs ys ≡ nat_cmp (length xs) (length ys)
no_difference [] [] each = refl
no_difference [] (y ∷ ys) each = nat_cmp-none (length ys)
no_difference (x ∷ xs) [] each = nat_cmp-some (length xs)
no_difference (x ∷ xs) (y ∷ ys) each =
    then_level x y (lexicographic xs ys) (each zero (omega arith) (omega arith))
    ∙ no_difference xs ys (λ i lx ly. each (suc i) (omega arith) (omega arith))
    ∙ sym (nat_cmp-suc (length xs) (length ys))

-- ---- the masks

abbrev pub differing : ℕ → ℕ → ℕ → ℕ → ℕ
differing p m p' m' = bit_or (bit_xor p p') (bit_xor m m')

level_bits : (a b c d : ℕ) → a < 2 → b < 2 → c < 2 → d < 2 → max ((a + b) % 2) ((c + d) % 2) ≡ 0 → (a ≡ b) × (c ≡ d)
level_bits a b c d la lb lc ld e = (omega arith, omega arith)

apart_bits : (a b c d : ℕ) → max ((a + b) % 2) ((c + d) % 2) ≡ 1 → a ≡ b → c ≡ d → ⊥
apart_bits a b c d e f g = omega arith

bit_of : (p m p' m' i : ℕ) → bit_at (differing p m p' m') i
    ≡ max ((bit_at p i + bit_at p' i) % 2) ((bit_at m i + bit_at m' i) % 2)
bit_of p m p' m' i = rw (bit_at_or, bit_at_xor p p' i, bit_at_xor m m' i) refl

same_here : (p m p' m' : ℕ) (xs ys : List Sign) (i : ℕ) → Shows p m xs → Shows p' m' ys
    → bit_at (differing p m p' m') i ≡ 0 → at xs i ≡ at ys i
same_here p m p' m' xs ys i f f' z =
    let h = level_bits (bit_at p i) (bit_at p' i) (bit_at m i) (bit_at m' i) (bit_at-lt p i) (bit_at-lt p' i)
    (bit_at-lt m i) (bit_at-lt m' i) (sym (bit_of p m p' m' i) ∙ z) in
    sign_from_bits (at xs i) (at ys i) (sym (f i).0 ∙ h.0 ∙ (f' i).0) (sym (f i).1 ∙ h.1 ∙ (f' i).1)

differ_here : (p m p' m' : ℕ) (xs ys : List Sign) (i : ℕ) → Shows p m xs → Shows p' m' ys
    → bit_at (differing p m p' m') i ≡ 1 → at xs i ≢ at ys i
differ_here p m p' m' xs ys i f f' one e =
    apart_bits (bit_at p i) (bit_at p' i) (bit_at m i) (bit_at m' i) (sym (bit_of p m p' m' i) ∙ one)
    ((f i).0 ∙ ap is_plus e ∙ sym (f' i).0)
    ((f i).1 ∙ ap is_minus e ∙ sym (f' i).1)

-- below the lowest bit no bit is set
none_below : (d i : ℕ) → d < 2 ^ 32 → i < trailing_zeros w32 d → bit_at d i ≡ 0
none_below d i fits lt = elim (cases_eq d 0) [
  | inl z ↦ ap (λ k. bit_at k i) z ∙ bit_at-zero i
  | inr n ↦ (bit_at-trailing_zeros w32 d (omega arith) fits).2 i lt
]

no_lowest : trailing_zeros w32 0 ≡ 32
unfolding lib.Count.count_trailing_zeros
no_lowest = refl

-- a lowest place below 32 is that of a bit
set_at_lowest : (d : ℕ) → d < 2 ^ 32 → trailing_zeros w32 d < 32 → bit_at d (trailing_zeros w32 d) ≡ 1
set_at_lowest d fits lt = elim (cases_eq d 0) [
  | inl z ↦
      let e : trailing_zeros w32 d ≡ 32 = ap (trailing_zeros w32) z ∙ no_lowest in absurd (omega arith)
  | inr n ↦ (bit_at-trailing_zeros w32 d (omega arith) fits).1
]

differing_fits : (p m n p' m' n' : ℕ) → AreSignMasks p m n → AreSignMasks p' m' n' → differing p m p' m' < 2 ^ 32
differing_fits p m n p' m' n' h h' = or_lt 32 (bit_xor p p') (bit_xor m m')
    (xor_lt 32 p p' (fits_32 p n h.high h.plus_within) (fits_32 p' n' h'.high h'.plus_within))
    (xor_lt 32 m m' (fits_32 m n h.high h.minus_within) (fits_32 m' n' h'.high h'.minus_within))

-- a lowest place that both vectors have
pub order_here : (p m n p' m' n' : ℕ) (xs ys : List Sign) → AreSignMasks p m n → signs_of p m n ≡ xs
    → AreSignMasks p' m' n'
    → signs_of p' m' n' ≡ ys → trailing_zeros w32 (differing p m p' m') < min n n'
    → lexicographic xs ys ≡ sign_order (at xs (trailing_zeros w32 (differing p m p' m')))
    (at ys (trailing_zeros w32 (differing p m p' m')))
order_here p m n p' m' n' xs ys h v h' v' lt =
    let f = shows p m n xs h v in
    let f' = shows p' m' n' ys h' v' in
    let l = length_is p m n xs v in
    let l' = length_is p' m' n' ys v' in
    let fits = differing_fits p m n p' m' n' h h' in
    let high = h.high in
    first_difference xs ys (trailing_zeros w32 (differing p m p' m')) (omega arith) (omega arith)
    (λ i below. same_here p m p' m' xs ys i f f' (none_below (differing p m p' m') i fits below))
    (differ_here p m p' m' xs ys _ f f' (set_at_lowest (differing p m p' m') fits (omega arith)))

-- no such place
pub order_of_lengths : (p m n p' m' n' : ℕ) (xs ys : List Sign) → AreSignMasks p m n → signs_of p m n ≡ xs
    → AreSignMasks p' m' n'
    → signs_of p' m' n' ≡ ys → min n n' ≤ trailing_zeros w32 (differing p m p' m') → lexicographic xs ys ≡ nat_cmp n n'
order_of_lengths p m n p' m' n' xs ys h v h' v' ge =
    let f = shows p m n xs h v in
    let f' = shows p' m' n' ys h' v' in
    let l = length_is p m n xs v in
    let l' = length_is p' m' n' ys v' in
    let fits = differing_fits p m n p' m' n' h h' in
    no_difference xs ys
    (λ i lx ly. same_here p m p' m' xs ys i f f' (none_below (differing p m p' m') i fits (omega arith)))
    ∙ rw (l, l') refl

-- an element's place, one lower
pub at_place : (xs ys : List Sign) (k : ℕ) → xs ≡ ys → at_element xs (k + 1) ≡ at ys k
at_place xs ys k e =
    let back : k + 1 - 1 ≡ k = omega arith in
    λ i. at (e i) (back i)
