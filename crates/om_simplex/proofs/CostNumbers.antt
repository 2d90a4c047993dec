-- The numbers of the cost row except the last, as the loop over the weights reads them.
--
-- Main definitions: front
-- Main results: front_place, weight_read, stored_weight
use Rattle.std.specs.Prelude.{ℕ, ◌≡◌, ◌-◌, ◌<◌, ◌≤◌, ℤ, pos, neg_ℤ, ◌-ℤ◌, unsigned_abs, List, length, take}
use Rattle.std.proofs.Common.{arith, ◌∙◌, ap, get_or}
use Rattle.std.proofs.lemmas.Int.{ints}
use Rattle.std.proofs.lemmas.List.{get_or-take, length-take-le}
use Rattle.om_signs.specs.declared.limits.TheConstants.{MAX_WEIGHT}
use Rattle.om_signs.proofs.Rings.{zero-minus}
use Rattle.om_rows.specs.Rows.{IsNarrow}
use Rattle.om_rows.proofs.Casts.{stored, stored-narrow}

-- a row without its last number
abbrev pub front : List ℤ → List ℤ
front xs = take (length xs - 1) xs

pub front_place : (xs : List ℤ) (q : ℕ) → 0 < length xs → q < length (front xs) → q < length xs - 1
front_place xs q l t = let e = length-take-le (length xs - 1) xs (omega arith) in omega arith

front_is : (xs row : List ℤ) (q : ℕ) → 0 < length xs → xs ≡ row → q < length (front xs)
    → get_or (front xs) q (pos 0) ≡ get_or row q (pos 0)
front_is xs row q l e t = get_or-take _ xs q (pos 0) (front_place xs q l t) ∙ ap (λ ys. get_or ys q (pos 0)) e

-- what is read of a number is its absolute value
pub weight_read : (xs row : List ℤ) (q r : ℕ) → 0 < length xs → xs ≡ row → q < length (front xs)
    → IsNarrow (get_or (front xs) q (pos 0)) → r ≡ unsigned_abs (stored (get_or (front xs) q (pos 0)))
    → r ≡ unsigned_abs (get_or row q (pos 0))
weight_read xs row q r l e t n f = f ∙ ap unsigned_abs (stored-narrow _ n ∙ front_is xs row q l e t)

narrow_negated : (z : ℤ) → unsigned_abs z ≤ unsigned_abs MAX_WEIGHT → IsNarrow (pos 0 -ℤ z)
narrow_negated z h = omega (arith, ints)

-- a weight is stored as it is
pub stored_weight : (xs row : List ℤ) (q : ℕ) → 0 < length xs → xs ≡ row → q < length (front xs)
    → IsNarrow (get_or (front xs) q (pos 0)) → unsigned_abs (get_or row q (pos 0)) ≤ unsigned_abs MAX_WEIGHT
    → stored (pos 0 -ℤ stored (get_or (front xs) q (pos 0))) ≡ neg_ℤ (get_or row q (pos 0))
stored_weight xs row q l e t n h =
    ap (λ k. stored (pos 0 -ℤ k)) (stored-narrow _ n ∙ front_is xs row q l e t)
    ∙ stored-narrow (pos 0 -ℤ get_or row q (pos 0)) (narrow_negated (get_or row q (pos 0)) h)
    ∙ zero-minus (get_or row q (pos 0))
