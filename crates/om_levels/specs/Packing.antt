-- Signs in bytes, four to a byte, two bits each.
use Rattle.std.specs.Prelude.{ℕ, zero, suc, ◌+◌, ◌*◌, ◌/◌, ◌%◌, ◌^◌, List, length, map, slice_index_or}
use Rattle.std.specs.List.{range_with_len}
use Rattle.om_signs.specs.declared.sign.Sign.{Sign}
use Rattle.om_signs.specs.declared.sign.Sign.TheVariants.{Minus, Zero, Plus}
use Rattle.om_signs.specs.Order.{sign_rank}
use Rattle.om_signs.specs.SignVec.{at}

-- the sign for which a number stands: 0 for minus, 1 for zero, and each other for plus
abbrev pub sign_of_code : ℕ → Sign
sign_of_code zero = Minus
sign_of_code (suc zero) = Zero
sign_of_code (suc (suc k)) = Plus

-- the sign at a place of a byte: a byte has four digits to the base 4, the lowest first
abbrev pub sign_in : ℕ → ℕ → Sign
sign_in byte place = sign_of_code (byte / 4 ^ place % 4)

-- how many bytes so many signs take
abbrev pub bytes_for : ℕ → ℕ
bytes_for signs = (signs + 3) / 4

-- the byte with these four signs
abbrev pub byte_of : Sign → Sign → Sign → Sign → ℕ
byte_of a b c d = sign_rank a + 4 * (sign_rank b + 4 * (sign_rank c + 4 * sign_rank d))

-- the byte with the number k of a list of signs, which has zeros behind the last sign
abbrev pub packed_byte : List Sign → ℕ → ℕ
packed_byte signs k = byte_of (at signs (4 * k)) (at signs (4 * k + 1)) (at signs (4 * k + 2)) (at signs (4 * k + 3))

-- the bytes of a list of signs
abbrev pub packed : List Sign → List ℕ
packed signs = map (packed_byte signs) (range_with_len 0 (bytes_for (length signs)))

-- so many signs, of which the bytes begin at a place
abbrev pub unpacked : ℕ → List ℕ → ℕ → List Sign
unpacked count bytes from =
    map (λ place. sign_in (slice_index_or bytes (from + place / 4) 0) (place % 4)) (range_with_len 0 count)
