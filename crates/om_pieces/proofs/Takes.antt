-- The first bytes of lists.
--
-- Main results: take_grows, take_both, take_none, byte_added, byte_left_out, before_byte, line_added.
use Rattle.std.specs.Prelude.{ℕ, zero, suc, ◌≡◌, ◌-◌, ◌<◌, ◌≤◌, List, [], ◌∷◌, ◌++◌, take, length, min}
use Rattle.std.proofs.Common.{refl, sym, ap, ◌∙◌, append-nil, arith}
use Rattle.std.proofs.lemmas.List.{take_all, take-take, length-append}
use Rattle.std.proofs.Math.Seq.{take-append_seam}

pub take_grows : (n : ℕ) (xs ys : List ℕ) → take n (take n xs ++ ys) ≡ take n (xs ++ ys)
take_grows zero xs ys = refl
take_grows (suc n) [] ys = refl
take_grows (suc n) (x ∷ xs) ys = cut_short n n x xs ys (omega arith)
  where
    cut_short : (n m : ℕ) (x : ℕ) (xs ys : List ℕ) → n ≤ m → x ∷ take n (take m xs ++ ys) ≡ x ∷ take n (xs ++ ys)
    cut_short n m x xs ys h = ap (λ l. x ∷ l) (longer n m xs ys h)
      where
        longer : (n m : ℕ) (xs ys : List ℕ) → n ≤ m → take n (take m xs ++ ys) ≡ take n (xs ++ ys)
        longer zero m xs ys h = refl
        longer (suc n) zero xs ys h = absurd (omega (arith, h))
        longer (suc n) (suc m) [] ys h = refl
        longer (suc n) (suc m) (x ∷ xs) ys h = ap (λ l. x ∷ l) (longer n m xs ys (omega (arith, h)))

take_behind : (n m : ℕ) (xs ys : List ℕ) → n ≤ m → take n (xs ++ take m ys) ≡ take n (xs ++ ys)
take_behind zero m xs ys h = refl
take_behind (suc n) m [] ys h = take-take (suc n) m ys h
take_behind (suc n) m (x ∷ xs) ys h = ap (λ l. x ∷ l) (take_behind n m xs ys (omega (arith, h)))

pub take_both : (n : ℕ) (xs ys : List ℕ) → take n (take n xs ++ take n ys) ≡ take n (xs ++ ys)
take_both n xs ys = take_grows n xs (take n ys) ∙ take_behind n n xs ys (omega arith)

pub take_none : (n : ℕ) → ◌≡◌ {A = List ℕ} (take n []) []
take_none zero = refl
take_none (suc n) = refl

pub take_room : (n : ℕ) (xs ys : List ℕ) → length xs ≤ n → take n (xs ++ ys) ≡ xs ++ take (n - length xs) ys
take_room n [] ys h = ap (λ k. take k ys) (let e : n ≡ n - 0 = omega arith in e)
take_room zero (x ∷ xs) ys h = absurd (omega (arith, h))
take_room (suc n) (x ∷ xs) ys h =
    ap (λ l. x ∷ l) (take_room n xs ys (omega (arith, h)) ∙ ap (λ k. xs ++ take k ys) (omega (arith, h)))

take_min : (k : ℕ) (ys : List ℕ) → take (min (length ys) k) ys ≡ take k ys
take_min k [] = take_none (min 0 k) ∙ sym (take_none k)
take_min zero (y ∷ ys) = ap (λ j. take j (y ∷ ys)) (let e : min (length (y ∷ ys)) 0 ≡ 0 = omega arith in e)
take_min (suc k) (y ∷ ys) =
    ap (λ j. take j (y ∷ ys)) (let e : min (length (y ∷ ys)) (suc k) ≡ suc (min (length ys) k) = omega arith in e)
    ∙ ap (λ l. y ∷ l) (take_min k ys)

-- what a byte and a line more make of bytes of which no more than so many are kept
pub byte_added : (n : ℕ) (xs : List ℕ) (b : ℕ) → length xs < n → xs ++ b ∷ [] ≡ take n (xs ++ b ∷ [])
byte_added n xs b h = sym (take_all n (xs ++ b ∷ []) (let e = length-append xs (b ∷ []) in omega (arith, e, h)))

pub byte_left_out : (n : ℕ) (xs : List ℕ) (b : ℕ) → length xs ≤ n → n ≤ length xs → xs ≡ take n (xs ++ b ∷ [])
byte_left_out n xs b h k =
    sym (take_room n xs (b ∷ []) h ∙
    (ap (λ j. xs ++ take j (b ∷ [])) (let e : n - length xs ≡ 0 = omega (arith, h, k) in e) ∙ append-nil xs))

-- the bytes before one that was added, if there was room
pub before_byte : (n : ℕ) (xs : List ℕ) (b : ℕ) → length xs ≤ n → take (length xs) (take n (xs ++ b ∷ [])) ≡ xs
before_byte n xs b h = take-take (length xs) n (xs ++ b ∷ []) h ∙ take-append_seam xs (b ∷ [])

pub line_added : (n : ℕ) (xs ys : List ℕ) → length xs ≤ n → xs ++ take (min (length ys) (n - length xs)) ys ≡ take n
    (xs ++ ys)
line_added n xs ys h = ap (λ l. xs ++ l) (take_min (n - length xs) ys) ∙ sym (take_room n xs ys h)
