-- The place of a map among those of its rank on as many elements, as a number.
--
-- Main definitions: place_of_signs
-- Main results: an image that comes before the map has a smaller number (image_falls).
use Rattle.std.proofs.Common.{ℕ, ◌≡◌, ◌+◌, ◌*◌, ◌<◌, List, [], ◌∷◌, length, refl, sym, ◌∙◌, ap, arith}
use Rattle.std.specs.declared.cmp.Ordering.TheVariants.{Less}
use Rattle.om_signs.specs.declared.sign.Sign.{Sign}
use Rattle.om_signs.specs.declared.sign.Sign.TheVariants.{Minus, Zero, Plus}
use Rattle.om_signs.specs.Order.{lexicographic}
use Rattle.om_chirotope.specs.Map.{SignMap, chi_of}
use Rattle.om_symmetry.specs.declared.signed_element.SignedElement.{SignedElement}
use Rattle.om_symmetry.specs.Permutations.{acted}
use Rattle.om_least.specs.Least.{signs_in_reverse, IsBefore}
use Rattle.om_least.proofs.Reverse.{number_of_signs}

-- the number of lists of as many signs
pub lists_of : List Sign → ℕ
lists_of [] = 1
lists_of (x ∷ xs) = 3 * lists_of xs

-- the number of lists of as many signs that come before this one
pub place_of_signs : List Sign → ℕ
place_of_signs [] = 0
place_of_signs (Minus ∷ xs) = place_of_signs xs
place_of_signs (Zero ∷ xs) = lists_of xs + place_of_signs xs
place_of_signs (Plus ∷ xs) = 2 * lists_of xs + place_of_signs xs

same_lists : (xs ys : List Sign) → length xs ≡ length ys → lists_of xs ≡ lists_of ys
unfolding lists_of
same_lists [] [] l = refl
same_lists [] (y ∷ ys) l = absurd (omega arith)
same_lists (x ∷ xs) [] l = absurd (omega arith)
same_lists (x ∷ xs) (y ∷ ys) l = ap (λ k. 3 * k) (same_lists xs ys (omega arith))

place_within : (xs : List Sign) → place_of_signs xs < lists_of xs
unfolding lists_of place_of_signs
place_within [] = omega arith
place_within (Minus ∷ xs) = let l = place_within xs in omega arith
place_within (Zero ∷ xs) = let l = place_within xs in omega arith
place_within (Plus ∷ xs) = let l = place_within xs in omega arith

falls : (xs ys : List Sign) → length xs ≡ length ys → lexicographic xs ys ≡ Less
    → place_of_signs xs < place_of_signs ys
unfolding lists_of place_of_signs
falls [] [] l h = cc
falls [] (y ∷ ys) l h = absurd (omega arith)
falls (x ∷ xs) [] l h = absurd (omega arith)
falls (Minus ∷ xs) (Minus ∷ ys) l h = falls xs ys (omega arith) h
falls (Minus ∷ xs) (Zero ∷ ys) l h =
    let k = same_lists xs ys (omega arith) in let low = place_within xs in omega arith
falls (Minus ∷ xs) (Plus ∷ ys) l h =
    let k = same_lists xs ys (omega arith) in let low = place_within xs in omega arith
falls (Zero ∷ xs) (Minus ∷ ys) l h = cc
falls (Zero ∷ xs) (Zero ∷ ys) l h =
    let k = same_lists xs ys (omega arith) in let f = falls xs ys (omega arith) h in omega arith
falls (Zero ∷ xs) (Plus ∷ ys) l h =
    let k = same_lists xs ys (omega arith) in let low = place_within xs in omega arith
falls (Plus ∷ xs) (Minus ∷ ys) l h = cc
falls (Plus ∷ xs) (Zero ∷ ys) l h = cc
falls (Plus ∷ xs) (Plus ∷ ys) l h =
    let k = same_lists xs ys (omega arith) in let f = falls xs ys (omega arith) h in omega arith

pub image_falls : (m : SignMap) (w : List SignedElement) → IsBefore (acted w m) m
    → place_of_signs (signs_in_reverse (acted w m)) < place_of_signs (signs_in_reverse m)
image_falls m w h = falls (signs_in_reverse (acted w m)) (signs_in_reverse m)
    (number_of_signs m.elements m.rank (chi_of (acted w m)) ∙ sym (number_of_signs m.elements m.rank (chi_of m))) h
