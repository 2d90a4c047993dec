-- Signs that are packed and unpacked again.
--
-- Main results: unpacked_row, signs from their bytes; same_bytes, signs from bytes that are as before.
use Rattle.std.proofs.Common.{ℕ, zero, suc, List, ◌≡◌, ◌+◌, ◌*◌, ◌/◌, ◌%◌, ◌<◌, ◌≤◌, ◌∷◌, ◌∙◌, refl, sym, ap}
use Rattle.std.proofs.Common.{length, get_or, map, arith}
use Rattle.std.specs.List.{range_with_len}
use Rattle.std.proofs.lemmas.List.FromFn.{fill_by_all}
use Rattle.om_signs.specs.declared.sign.Sign.{Sign}
use Rattle.om_signs.specs.declared.sign.Sign.TheVariants.{Minus, Zero, Plus}
use Rattle.om_signs.specs.Order.{sign_rank}
use Rattle.om_signs.specs.SignVec.{at}
use Rattle.om_levels.specs.Packing.{sign_of_code, sign_in, bytes_for, packed_byte, unpacked}

pub small_code : (s : Sign) → sign_rank s ≤ 2
small_code Minus = omega arith
small_code Zero = omega arith
small_code Plus = omega arith

code_back : (s : Sign) → sign_of_code (sign_rank s) ≡ s
code_back Minus = refl
code_back Zero = refl
code_back Plus = refl

digit_0 : (a b c d : ℕ) → a ≤ 2 → b ≤ 2 → c ≤ 2 → d ≤ 2 → (a + 4 * (b + 4 * (c + 4 * d))) / 1 % 4 ≡ a
digit_0 a b c d k l m n = omega arith

digit_1 : (a b c d : ℕ) → a ≤ 2 → b ≤ 2 → c ≤ 2 → d ≤ 2 → (a + 4 * (b + 4 * (c + 4 * d))) / 4 % 4 ≡ b
digit_1 a b c d k l m n = omega arith

digit_2 : (a b c d : ℕ) → a ≤ 2 → b ≤ 2 → c ≤ 2 → d ≤ 2 → (a + 4 * (b + 4 * (c + 4 * d))) / 16 % 4 ≡ c
digit_2 a b c d k l m n = omega arith

digit_3 : (a b c d : ℕ) → a ≤ 2 → b ≤ 2 → c ≤ 2 → d ≤ 2 → (a + 4 * (b + 4 * (c + 4 * d))) / 64 % 4 ≡ d
digit_3 a b c d k l m n = omega arith

-- the sign at each place of a byte
sign_in_byte : (signs : List Sign) (q r : ℕ) → r < 4 → sign_in (packed_byte signs q) r ≡ at signs (4 * q + r)
sign_in_byte signs q zero l =
    let a = at signs (4 * q) in
    let b = at signs (4 * q + 1) in
    let c = at signs (4 * q + 2) in
    let d = at signs (4 * q + 3) in
    ap sign_of_code (digit_0 (sign_rank a) (sign_rank b) (sign_rank c) (sign_rank d) (small_code a) (small_code b)
    (small_code c) (small_code d)) ∙ code_back a ∙ ap (at signs) (omega arith)
sign_in_byte signs q (suc zero) l =
    let a = at signs (4 * q) in
    let b = at signs (4 * q + 1) in
    let c = at signs (4 * q + 2) in
    let d = at signs (4 * q + 3) in
    ap sign_of_code (digit_1 (sign_rank a) (sign_rank b) (sign_rank c) (sign_rank d) (small_code a) (small_code b)
    (small_code c) (small_code d)) ∙ code_back b
sign_in_byte signs q (suc (suc zero)) l =
    let a = at signs (4 * q) in
    let b = at signs (4 * q + 1) in
    let c = at signs (4 * q + 2) in
    let d = at signs (4 * q + 3) in
    ap sign_of_code (digit_2 (sign_rank a) (sign_rank b) (sign_rank c) (sign_rank d) (small_code a) (small_code b)
    (small_code c) (small_code d)) ∙ code_back c
sign_in_byte signs q (suc (suc (suc zero))) l =
    let a = at signs (4 * q) in
    let b = at signs (4 * q + 1) in
    let c = at signs (4 * q + 2) in
    let d = at signs (4 * q + 3) in
    ap sign_of_code (digit_3 (sign_rank a) (sign_rank b) (sign_rank c) (sign_rank d) (small_code a) (small_code b)
    (small_code c) (small_code d)) ∙ code_back d
sign_in_byte signs q (suc (suc (suc (suc r)))) l = absurd (omega arith)

-- the sign at each place of a list
sign_in_packed : (signs : List Sign) (k : ℕ) → sign_in (packed_byte signs (k / 4)) (k % 4) ≡ at signs k
sign_in_packed signs k = sign_in_byte signs (k / 4) (k % 4) (omega arith) ∙ ap (at signs) (omega arith)

-- a sign's byte is one of those of the signs
pub byte_below : (count k : ℕ) → k < count → k / 4 < bytes_for count
byte_below count k l = omega arith

-- bytes that are those of some signs, from a place on, give these signs
pub unpacked_row : (signs : List Sign) (count from : ℕ) (bytes : List ℕ) → length signs ≡ count
    → ((j : ℕ) → j < bytes_for count → get_or bytes (from + j) 0 ≡ packed_byte signs j)
    → unpacked count bytes from ≡ signs
unpacked_row signs count from bytes len same = sym (fill_by_all
    (λ k. sign_in (get_or bytes (from + k / 4) 0) (k % 4)) signs count Zero len
    (λ k l. sym (ap (λ b. sign_in b (k % 4)) (same (k / 4) (byte_below count k l)) ∙ sign_in_packed signs k)))

-- lists that are made of the same values
pub same_values : {X : Type 0} (f g : ℕ → X) (a n : ℕ) → ((k : ℕ) → a ≤ k → k < a + n → f k ≡ g k)
    → map f (range_with_len a n) ≡ map g (range_with_len a n)
same_values f g a zero same = refl
same_values f g a (suc n) same = λ i. same a (omega arith) (omega arith) i
    ∷ same_values f g (a + 1) n (λ k l m. same k (omega arith) (omega arith)) i

-- bytes that are equal to others give the same signs
pub same_bytes : (count from : ℕ) (bytes others : List ℕ)
    → ((j : ℕ) → j < bytes_for count → get_or bytes (from + j) 0 ≡ get_or others (from + j) 0)
    → unpacked count bytes from ≡ unpacked count others from
same_bytes count from bytes others same = same_values
    (λ k. sign_in (get_or bytes (from + k / 4) 0) (k % 4)) (λ k. sign_in (get_or others (from + k / 4) 0) (k % 4)) 0
    count (λ k l m. ap (λ b. sign_in b (k % 4)) (same (k / 4) (byte_below count k (omega arith))))
