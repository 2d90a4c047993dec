-- The places of sign vectors of one length.
--
-- Main results: each place is below 3 to the power of the length (base_three-lt); vectors of one length with one place
-- are equal (same_place); the lexicographic order is the order of the places (before_lt); what a change of one sign
-- does to the place (base_three-set).
use Rattle.std.proofs.Common.{ℕ, ◌≡◌, ◌+◌, ◌*◌, ◌^◌, ◌<◌, List, [], ◌∷◌, length, replicate, zero, suc, set, refl, sym}
use Rattle.std.proofs.Common.{◌∙◌, ap, arith}
use Rattle.std.proofs.Common.{pow-suc}
use Rattle.std.proofs.lemmas.List.{length-set}
use Rattle.std.specs.Ordering.{ordering_then}
use Rattle.std.specs.declared.cmp.Ordering.{Ordering}
use Rattle.std.specs.declared.cmp.Ordering.TheVariants.{Less}
use Rattle.om_signs.specs.declared.sign.Sign.{Sign}
use Rattle.om_signs.specs.declared.sign.Sign.TheVariants.{Minus, Zero, Plus}
use Rattle.om_signs.specs.SignVec.{at}
use Rattle.om_signs.specs.Order.{sign_rank, sign_order, lexicographic}
use Rattle.om_oriented.specs.Places.{base_three}

-- the place of a vector is below 3 to the power of its length
pub base_three-lt : (xs : List Sign) → base_three xs < 3 ^ length xs
base_three-lt [] = omega arith
base_three-lt (x ∷ xs) = step x (base_three xs) (length xs) (base_three-lt xs)
  where
    step : (s : Sign) (a n : ℕ) → a < 3 ^ n → sign_rank s * 3 ^ n + a < 3 ^ suc n
    step Minus a n l = let p = pow-suc 3 n in omega arith
    step Zero a n l = let p = pow-suc 3 n in omega arith
    step Plus a n l = let p = pow-suc 3 n in omega arith

pub base_three-least : (n : ℕ) → base_three (replicate n Minus) ≡ 0
base_three-least zero = refl
base_three-least (suc n) = let i = base_three-least n in omega arith

-- ---- equal places

digits_same : (s t : Sign) (a b p : ℕ) → a < p → b < p → sign_rank s * p + a ≡ sign_rank t * p + b → (s ≡ t) × (a ≡ b)
digits_same Minus Minus a b p la lb e = (refl, omega arith)
digits_same Minus Zero a b p la lb e = absurd (omega arith)
digits_same Minus Plus a b p la lb e = absurd (omega arith)
digits_same Zero Minus a b p la lb e = absurd (omega arith)
digits_same Zero Zero a b p la lb e = (refl, omega arith)
digits_same Zero Plus a b p la lb e = absurd (omega arith)
digits_same Plus Minus a b p la lb e = absurd (omega arith)
digits_same Plus Zero a b p la lb e = absurd (omega arith)
digits_same Plus Plus a b p la lb e = (refl, omega arith)

level : (x y n m : ℕ) (a b : ℕ) → n ≡ m → x * 3 ^ n + a ≡ y * 3 ^ m + b → x * 3 ^ n + a ≡ y * 3 ^ n + b
level x y n m a b e h = h ∙ ap (λ k. y * 3 ^ k + b) (sym e)

below_level : (n m b : ℕ) → n ≡ m → b < 3 ^ m → b < 3 ^ n
below_level n m b e l = rw e l

-- vectors of one length with one place are equal
pub same_place : (xs ys : List Sign) → length xs ≡ length ys → base_three xs ≡ base_three ys → xs ≡ ys
same_place [] [] l e = refl
same_place [] (y ∷ ys) l e = absurd (omega arith)
same_place (x ∷ xs) [] l e = absurd (omega arith)
same_place (x ∷ xs) (y ∷ ys) l e =
    let n : length xs ≡ length ys = omega arith in
    let h = digits_same x y (base_three xs) (base_three ys) (3 ^ length xs) (base_three-lt xs)
    (below_level (length xs) (length ys) (base_three ys) n (base_three-lt ys))
    (level (sign_rank x) (sign_rank y) (length xs) (length ys) (base_three xs) (base_three ys) n e) in
    let s = h.0 in
    let t = same_place xs ys n h.1 in
    λ i. s i ∷ t i

-- ---- the order

digits_before : (s t : Sign) (a b p : ℕ) (o : Ordering) → a < p → b < p → ordering_then (sign_order s t) o ≡ Less
    → (o ≡ Less → a < b) → sign_rank s * p + a < sign_rank t * p + b
digits_before Minus Minus a b p o la lb e h = let i = h e in omega arith
digits_before Minus Zero a b p o la lb e h = omega arith
digits_before Minus Plus a b p o la lb e h = omega arith
digits_before Zero Minus a b p o la lb e h = cc
digits_before Zero Zero a b p o la lb e h = let i = h e in omega arith
digits_before Zero Plus a b p o la lb e h = omega arith
digits_before Plus Minus a b p o la lb e h = cc
digits_before Plus Zero a b p o la lb e h = cc
digits_before Plus Plus a b p o la lb e h = let i = h e in omega arith

-- of two vectors of one length, the one that comes first has the lower place
pub before_lt : (xs ys : List Sign) → length xs ≡ length ys → lexicographic xs ys ≡ Less → base_three xs < base_three ys
before_lt [] [] l e = cc
before_lt [] (y ∷ ys) l e = absurd (omega arith)
before_lt (x ∷ xs) [] l e = absurd (omega arith)
before_lt (x ∷ xs) (y ∷ ys) l e =
    let n : length xs ≡ length ys = omega arith in
    let p : 3 ^ length xs ≡ 3 ^ length ys = ap (λ k. 3 ^ k) n in
    let h = digits_before x y (base_three xs) (base_three ys) (3 ^ length xs) (lexicographic xs ys) (base_three-lt xs)
    (below_level (length xs) (length ys) (base_three ys) n (base_three-lt ys)) e (before_lt xs ys n) in
    levelled (sign_rank y) (length xs) (length ys) (sign_rank x * 3 ^ length xs + base_three xs) (base_three ys) n h
  where
    levelled : (y n m a b : ℕ) → n ≡ m → a < y * 3 ^ n + b → a < y * 3 ^ m + b
    levelled y n m a b e l = rw (sym e) l

-- ---- one sign changed

-- the sign at a place with w places behind it
pub base_three-set : (xs : List Sign) (i w : ℕ) (s : Sign) → i + 1 + w ≡ length xs
    → base_three (set xs i s) + sign_rank (at xs i) * 3 ^ w ≡ base_three xs + sign_rank s * 3 ^ w
base_three-set [] i w s l = absurd (omega arith)
base_three-set (x ∷ xs) zero w s l =
    let e : length xs ≡ w = omega arith in
    rw e (omega arith)
base_three-set (x ∷ xs) (suc i) w s l =
    let h = base_three-set xs i w s (omega arith) in
    let n = length-set xs i s in
    rw n (omega arith)
