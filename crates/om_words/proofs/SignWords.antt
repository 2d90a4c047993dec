-- The sign vector that a word spells.
--
-- Main results: a vector that is filled sign by sign (filled_more, filled_all).
use Rattle.std.specs.Prelude.{ℕ, ◌≡◌, ◌+◌, ◌-◌, ◌<◌, ◌≤◌, List, length, map, slice_set}
use Rattle.std.proofs.Common.{arith, sym, ◌∙◌, get_or}
use Rattle.std.proofs.lemmas.Grind.{common_steps}
use Rattle.std.proofs.lemmas.List.{ext_get_or, get_or-map, length-map}
use Rattle.om_signs.specs.declared.sign.Sign.{Sign}
use Rattle.om_signs.specs.declared.sign.Sign.TheVariants.{Zero}
use Rattle.om_signs.specs.SignVec.{at}
use Rattle.om_lines.specs.Words.{sign_of_byte}

-- the first k signs are those of the bytes
pub record IsFilled (x : List Sign) (word : List ℕ) (k : ℕ) : Type 0 where
  pub size : length x ≡ length word
  pub signs : (i : ℕ) → i < k → at x i ≡ sign_of_byte (get_or word i 0)

-- one more sign
pub filled_more : (x y : List Sign) (word : List ℕ) (k : ℕ) (s : Sign) → k < length word
    → s ≡ sign_of_byte (get_or word k 0) → y ≡ slice_set x (k + 1 - 1) s → IsFilled x word k → IsFilled y word (k + 1)
filled_more x y word k s l h e f =
    let before : (i : ℕ) → i < k → at x i ≡ sign_of_byte (get_or word i 0) = f.signs in
    let size = f.size in
    record {
      size = grind (arith, common_steps);
      signs = λ i li. grind (arith, common_steps, before i);
    }

-- signs for all bytes
pub filled_all : (x : List Sign) (word : List ℕ) (k : ℕ) → length word ≤ k → IsFilled x word k
    → x ≡ map sign_of_byte word
filled_all x word k l f = ext_get_or Zero x (map sign_of_byte word) (f.size ∙ sym (length-map word sign_of_byte))
    (λ i li.
    let z = f.size in
    let lw : i < length word = omega (arith, z, li) in
    f.signs i (omega (arith, lw, l)) ∙ sym (get_or-map sign_of_byte word i 0 Zero lw))
