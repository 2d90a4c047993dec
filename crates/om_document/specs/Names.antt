-- Names of elements.
--
-- Trusted: these definitions say what a document is.
use Rattle.std.specs.Prelude.{ℕ, List, [], ◌∷◌, Bool, true, not, nat_eq, nat_le, ◌&&◌, ◌||◌, length, bytes_eq}
use Rattle.std.specs.List.{list_all, list_any}
use Rattle.om_signs.specs.declared.limits.TheConstants.{MAX_NAME}
use Rattle.om_lines.specs.Words.{is_digit}

-- a letter from `A` to `Z` or from `a` to `z`, a digit, or `_`
abbrev pub is_name_byte : ℕ → Bool
is_name_byte b = (nat_le 65 b && nat_le b 90) || (nat_le 97 b && nat_le b 122) || is_digit b || nat_eq b 95

-- at least one of these bytes, and no more than a name may have
abbrev pub is_name : List ℕ → Bool
is_name w = nat_le 1 (length w) && nat_le (length w) MAX_NAME && list_all is_name_byte w

-- whether no two of the words are equal
abbrev pub are_different : List (List ℕ) → Bool
are_different [] = true
are_different (w ∷ ws) = not (list_any (λ v. bytes_eq w v) ws) && are_different ws

-- a name for each of n elements, and no two of them equal
abbrev pub are_names : ℕ → List (List ℕ) → Bool
are_names n ws = nat_eq (length ws) n && list_all is_name ws && are_different ws
