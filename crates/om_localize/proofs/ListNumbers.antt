-- The numbers of the lists of signs of one length follow their lexicographic order, and those that begin with some
-- signs lie between two numbers.
--
-- Main definitions: BeginsWith
-- Main results: scaled_mono, number-lt, number_push, number_append, same_number, before_of_number, begins_with
use Rattle.std.proofs.Common.{ℕ, zero, suc, ◌≡◌, ◌+◌, ◌-◌, ◌*◌, ◌<◌, ◌≤◌, List, [], ◌∷◌, ◌++◌, length, take, drop, refl}
use Rattle.std.proofs.Common.{sym, ◌∙◌, ap, arith, inl, inr, length-append}
use Rattle.std.specs.declared.cmp.Ordering.{Ordering}
use Rattle.std.specs.declared.cmp.Ordering.TheVariants.{Less}
use Rattle.std.specs.Ordering.{ordering_then}
use Rattle.std.proofs.lemmas.Bool.{cases_lt}
use Rattle.std.proofs.lemmas.List.{take-append-drop, length-drop, length-take-le}
use Rattle.om_signs.specs.declared.sign.Sign.{Sign}
use Rattle.om_signs.specs.declared.sign.Sign.TheVariants.{Minus, Zero, Plus}
use Rattle.om_signs.specs.Order.{sign_rank, sign_order, lexicographic}
use Rattle.om_signs.proofs.SignRanks.{sign_rank-lt, sign_rank-injective}
use Rattle.om_localize.specs.Listings.{IsBefore}
use Rattle.om_localize.specs.Searches.{scaled, number, start_of, end_of}

-- ---- scaled numbers

pub scaled_mono : (d v w : ℕ) → v ≤ w → scaled d v ≤ scaled d w
scaled_mono zero v w l = l
scaled_mono (suc d) v w l = scaled_mono d (3 * v) (3 * w) (omega arith)

scaled_sum : (d v w : ℕ) → scaled d (v + w) ≡ scaled d v + scaled d w
scaled_sum zero v w = refl
scaled_sum (suc d) v w = let e : 3 * (v + w) ≡ 3 * v + 3 * w = omega arith in ap (scaled d) e
    ∙ scaled_sum d (3 * v) (3 * w)

scaled_three : (d v : ℕ) → scaled d (3 * v) ≡ 3 * scaled d v
scaled_three d v =
    let e : 3 * v ≡ v + (v + v) = omega arith in
    let a = scaled_sum d v (v + v) in
    let b = scaled_sum d v v in
    ap (scaled d) e ∙ omega (arith, a, b)

pub scaled_zero : (d : ℕ) → scaled d 0 ≡ 0
scaled_zero zero = refl
scaled_zero (suc d) = scaled_zero d

-- ---- numbers of lists

pub number-lt : (xs : List Sign) → number xs < scaled (length xs) 1
number-lt [] = omega arith
number-lt (x ∷ xs) =
    let i = number-lt xs in
    let r = sign_rank-lt x in
    let a = scaled_mono (length xs) (sign_rank x + 1) 3 (omega arith) in
    let b = scaled_sum (length xs) (sign_rank x) 1 in
    omega (arith, i, a, b)

pub number_push : (xs : List Sign) (s : Sign) → number (xs ++ s ∷ []) ≡ 3 * number xs + sign_rank s
number_push [] s = omega arith
number_push (x ∷ xs) s =
    let i = number_push xs s in
    let l : length (xs ++ s ∷ []) ≡ suc (length xs) = let k = length-append xs (s ∷ []) in omega arith in
    let a = scaled_three (length xs) (sign_rank x) in
    ap (λ d. scaled d (sign_rank x) + number (xs ++ s ∷ [])) l ∙ omega (arith, i, a)

pub number_append : (xs ys : List Sign) → number (xs ++ ys) ≡ scaled (length ys) (number xs) + number ys
number_append [] ys = let z = scaled_zero (length ys) in omega (arith, z)
number_append (x ∷ xs) ys =
    let i = number_append xs ys in
    let s = scaled_sum (length ys) (scaled (length xs) (sign_rank x)) (number xs) in
    let t = twice (length xs) (length ys) (sign_rank x) in
    let l = length-append xs ys in
    ap (λ d. scaled d (sign_rank x) + number (xs ++ ys)) l ∙ omega (arith, i, s, t)
  where
    twice : (a b v : ℕ) → scaled (a + b) v ≡ scaled b (scaled a v)
    twice zero b v = let e : 0 + b ≡ b = omega arith in ap (λ d. scaled d v) e
    twice (suc a) b v = let e : suc a + b ≡ suc (a + b) = omega arith in ap (λ d. scaled d v) e ∙ twice a b (3 * v)

-- the first sign that differs decides
record IsHead (x y : Sign) (xs ys : List Sign) : Type 0 where
  first : sign_rank x ≡ sign_rank y
  rest : number xs ≡ number ys

-- a list with a smaller first sign has a smaller number
pub smaller_head : (x y : Sign) (xs ys : List Sign) → length xs ≡ length ys → sign_rank x < sign_rank y
    → number (x ∷ xs) < number (y ∷ ys)
smaller_head x y xs ys l lt =
    let i = number-lt xs in
    let a = scaled_mono (length xs) (sign_rank x + 1) (sign_rank y) (omega arith) in
    let b = scaled_sum (length xs) (sign_rank x) 1 in
    let e : scaled (length ys) (sign_rank y) ≡ scaled (length xs) (sign_rank y) =
    ap (λ d. scaled d (sign_rank y)) (sym l) in
    omega (arith, i, a, b, e)

pub same_number : (xs ys : List Sign) → length xs ≡ length ys → number xs ≡ number ys → xs ≡ ys
same_number [] [] l q = refl
same_number [] (y ∷ ys) l q = absurd (omega arith)
same_number (x ∷ xs) [] l q = absurd (omega arith)
same_number (x ∷ xs) (y ∷ ys) l q =
    let k : length xs ≡ length ys = omega arith in
    elim (cases_lt (sign_rank x) (sign_rank y)) [
      | inl lt ↦ let a = smaller_head x y xs ys k lt in absurd (omega (arith, a, q))
      | inr ge ↦ elim (cases_lt (sign_rank y) (sign_rank x)) [
        | inl gt ↦ let a = smaller_head y x ys xs (sym k) gt in absurd (omega (arith, a, q))
        | inr le ↦
            let r : sign_rank x ≡ sign_rank y = omega arith in
            let s = sign_rank-injective x y r in
            let d : scaled (length xs) (sign_rank x) ≡ scaled (length ys) (sign_rank y) =
            ap (λ n. scaled n (sign_rank x)) k ∙ ap (scaled (length ys)) r in
            let t = same_number xs ys k (omega (arith, d, q)) in
            λ i. s i ∷ t i
      ]
    ]

in_order : (x y : Sign) (o : Ordering) → sign_rank x < sign_rank y → ordering_then (sign_order x y) o ≡ Less
in_order Minus Minus o l = absurd (omega arith)
in_order Minus Zero o l = refl
in_order Minus Plus o l = refl
in_order Zero Minus o l = absurd (omega arith)
in_order Zero Zero o l = absurd (omega arith)
in_order Zero Plus o l = refl
in_order Plus Minus o l = absurd (omega arith)
in_order Plus Zero o l = absurd (omega arith)
in_order Plus Plus o l = absurd (omega arith)

pub own_order : (x : Sign) (o : Ordering) → ordering_then (sign_order x x) o ≡ o
own_order Minus o = refl
own_order Zero o = refl
own_order Plus o = refl

pub before_of_number : (xs ys : List Sign) → length xs ≡ length ys → number xs < number ys → IsBefore xs ys
before_of_number [] [] l q = absurd (omega arith)
before_of_number [] (y ∷ ys) l q = absurd (omega arith)
before_of_number (x ∷ xs) [] l q = absurd (omega arith)
before_of_number (x ∷ xs) (y ∷ ys) l q =
    let k : length xs ≡ length ys = omega arith in
    elim (cases_lt (sign_rank x) (sign_rank y)) [
      | inl lt ↦ in_order x y (lexicographic xs ys) lt
      | inr ge ↦ elim (cases_lt (sign_rank y) (sign_rank x)) [
        | inl gt ↦ let a = smaller_head y x ys xs (sym k) gt in absurd (omega (arith, a, q))
        | inr le ↦
            let r : sign_rank x ≡ sign_rank y = omega arith in
            let d : scaled (length xs) (sign_rank x) ≡ scaled (length ys) (sign_rank y) =
            ap (λ n. scaled n (sign_rank x)) k ∙ ap (scaled (length ys)) r in
            ap (λ s. ordering_then (sign_order x s) (lexicographic xs ys)) (sym (sign_rank-injective x y r))
            ∙ own_order x (lexicographic xs ys) ∙ before_of_number xs ys k (omega (arith, d, q))
      ]
    ]

-- ---- the lists that begin with some signs

-- the list begins with these signs
abbrev pub BeginsWith : List Sign → List Sign → Type 0
BeginsWith ys xs = take (length ys) xs ≡ ys

pub begins_with : (n : ℕ) (ys xs : List Sign) → length ys ≤ n → length xs ≡ n → start_of n ys ≤ number xs
    → number xs < end_of n ys → BeginsWith ys xs
begins_with n ys xs few l low high =
    let front = take (length ys) xs in
    let back = drop (length ys) xs in
    let lf : length front ≡ length ys = length-take-le (length ys) xs (omega arith) in
    let lb : length back ≡ n - length ys = let k = length-drop (length ys) xs in omega arith in
    let whole : number xs ≡ scaled (n - length ys) (number front) + number back =
    ap number (sym (take-append-drop (length ys) xs)) ∙ number_append front back
    ∙ ap (λ d. scaled d (number front) + number back) lb in
    let small : number back < scaled (n - length ys) 1 = ap_lt back lb in
    same_number front ys lf
    (between (n - length ys) (number front) (number ys) (number back) (number xs) whole small low high)
  where
    ap_lt : (zs : List Sign) → length zs ≡ n - length ys → number zs < scaled (n - length ys) 1
    ap_lt zs e = let i = number-lt zs in let d : scaled (length zs) 1 ≡ scaled (n - length ys) 1 =
        ap (λ d. scaled d 1) e in omega (arith, i, d)

    between : (d u v b x : ℕ) → x ≡ scaled d u + b → b < scaled d 1 → scaled d v ≤ x → x < scaled d (v + 1) → u ≡ v
    between d u v b x e s low high = elim (cases_lt u v) [
      | inl lt ↦
          let a = scaled_mono d (u + 1) v (omega arith) in
          let c = scaled_sum d u 1 in
          absurd (omega (arith, a, c, e, s, low))
      | inr ge ↦ elim (cases_lt v u) [
        | inl gt ↦ let a = scaled_mono d (v + 1) u (omega arith) in absurd (omega (arith, a, e, s, high))
        | inr le ↦ omega arith
      ]
    ]
