-- Masks of places, and what their tests say of the signs.
--
-- Main results: element_within: an element of the separation is one of the vector; separated_bit: a bit of its mask
-- means that its place is separated.
use Rattle.std.proofs.Common.{ℕ, ◌≡◌, ◌+◌, ◌-◌, ◌<◌, ◌≤◌, ◌↔◌, List, length, subst, arith, inl, inr}
use Rattle.std.specs.Int.{bit_at}
use Rattle.std.proofs.lemmas.Bool.{cases_lt}
use Rattle.std.proofs.lemmas.List.{get_or_past}
use Rattle.om_signs.specs.declared.sign.Sign.{Sign}
use Rattle.om_signs.specs.declared.sign.Sign.TheVariants.{Minus, Zero}
use Rattle.om_signs.specs.Sign.{product}
use Rattle.om_signs.specs.SignVec.{at, IsMaskOf, IsSeparated}
use Rattle.om_members.proofs.MaskLaws.{bit_of_mask}
use Rattle.om_covectors.specs.Vectors.{IsSeparatedAt}

-- no place past the end is separated
separated_past : (xs ys : List Sign) (i : ℕ) → length xs ≤ i → IsSeparated xs ys i → ⊥
separated_past xs ys i ge s =
    let q : product Zero (at ys i) ≡ Minus = subst (λ x. product x (at ys i) ≡ Minus) (get_or_past xs i Zero ge) s in
    let d : Zero ≡ Minus = q in
    cc

-- an element of the separation is one of the vector
pub element_within : (xs ys : List Sign) (e n : ℕ) → length xs ≡ n → IsSeparatedAt xs ys e → e < n + 1
element_within xs ys e n l s =
    elim (cases_lt (e - 1) (length xs)) [ inl lt ↦ omega arith | inr ge ↦ absurd (separated_past xs ys (e - 1) ge s) ]

pub separated_bit : (xs ys : List Sign) (m : ℕ) → IsMaskOf (length xs) (IsSeparated xs ys) m → (i : ℕ)
    → (bit_at m i ≡ 1) ↔ IsSeparated xs ys i
separated_bit xs ys m h = bit_of_mask xs (IsSeparated xs ys) m h (separated_past xs ys)
