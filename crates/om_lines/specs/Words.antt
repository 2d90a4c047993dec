-- What words spell: numbers and signs.
--
-- Trusted: these definitions say what a document is.
use Rattle.std.specs.Prelude.{ℕ, suc, ◌+◌, ◌-◌, ◌*◌, ℤ, pos, negsuc, List, [], ◌∷◌, Bool, false, cond, not, nat_eq}
use Rattle.std.specs.Prelude.{nat_le, ◌&&◌, ◌||◌, length, drop, Option, Some, None, option_map}
use Rattle.std.specs.List.{list_all}
use Rattle.om_signs.specs.declared.limits.TheConstants.{MAX_PLAIN_DIGITS}
use Rattle.om_signs.specs.declared.sign.Sign.{Sign}
use Rattle.om_signs.specs.declared.sign.Sign.TheVariants.{Minus, Zero, Plus}

-- a byte from `0` to `9`
abbrev pub is_digit : ℕ → Bool
is_digit b = nat_le 48 b && nat_le b 57

-- the number that decimal digits spell, continued from the number before them
abbrev pub number_from : ℕ → List ℕ → ℕ
number_from n [] = n
number_from n (b ∷ bs) = number_from (10 * n + (b - 48)) bs

-- whether b is the first byte
abbrev pub begins_with : ℕ → List ℕ → Bool
begins_with b [] = false
begins_with b (x ∷ xs) = nat_eq x b

-- decimal digits with no leading zero, except `0` itself
abbrev pub is_decimal : List ℕ → Bool
is_decimal w = list_all is_digit w && nat_le 1 (length w) && (nat_eq (length w) 1 || not (begins_with 48 w))

-- at most MAX_PLAIN_DIGITS such digits
abbrev pub is_plain : List ℕ → Bool
is_plain w = is_decimal w && nat_le (length w) MAX_PLAIN_DIGITS

-- the plain number that a word spells
abbrev pub plain : List ℕ → Option ℕ
plain w = cond (is_plain w) (Some (number_from 0 w)) None

-- a number that isn't above the limit
abbrev pub up_to : ℕ → ℕ → Option ℕ
up_to limit n = cond (nat_le n limit) (Some n) None

-- the number of at most the limit that a word of decimal digits spells
abbrev pub unsigned : ℕ → List ℕ → Option ℕ
unsigned limit w = cond (is_decimal w) (up_to limit (number_from 0 w)) None

-- the negative of a number other than 0
abbrev pub negative : Option ℕ → Option ℤ
negative (Some (suc n)) = Some (negsuc n)
negative _ = None

-- the number of absolute value at most the limit that a word spells: decimal digits with or without a `-` before
-- them; `0` has no `-`
abbrev pub signed : ℕ → List ℕ → Option ℤ
signed limit w = cond (begins_with 45 w) (negative (unsigned limit (drop 1 w))) (option_map pos (unsigned limit w))

-- `+`, `-` and `0`
abbrev pub is_sign : ℕ → Bool
is_sign b = nat_eq b 43 || nat_eq b 45 || nat_eq b 48

-- the sign that such a byte spells
abbrev pub sign_of_byte : ℕ → Sign
sign_of_byte b = cond (nat_eq b 43) Plus (cond (nat_eq b 45) Minus Zero)

-- the byte of a sign
abbrev pub byte_of : Sign → ℕ
byte_of Minus = 45
byte_of Zero = 48
byte_of Plus = 43
