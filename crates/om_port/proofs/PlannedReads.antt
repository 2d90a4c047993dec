-- What a read of bytes in memory returns, and when a read is within a limit.
--
-- Main results: told_of, given_bound, given_whole, given_count, within
use Rattle.std.proofs.Common.{ℕ, ◌≡◌, ◌+◌, ◌-◌, ◌≤◌, List, ◌++◌, length, take, drop, ◌↔◌, Bool, true, arith}
use Rattle.std.specs.Prelude.{min}
use Rattle.std.proofs.lemmas.List.{length-take, length-drop, length-append}
use Rattle.om_port.specs.Calls.{IsListed}

-- whether a call fails, from the plan of the object to its view
pub told_of : (told is : Bool) (xs ys : List ℕ) (m n : ℕ) → ((told ≡ true) ↔ IsListed xs (m + 1)) → told ≡ is
    → xs ≡ ys → m ≡ n → (is ≡ true) ↔ IsListed ys (n + 1)
told_of told is xs ys m n h e f g = rw (← e, ← f, ← g) h

whole_length : (front buf : List ℕ) (k : ℕ) → k ≤ length buf → length front ≡ length (take k buf)
    → length (front ++ drop k buf) ≡ length buf
whole_length front buf k l h =
    omega (arith, length-append front (drop k buf), length-drop k buf, length-take k buf, h, l)

-- the bytes given lie at the front of the buffer
pub given_bound : (front buf : List ℕ) (k : ℕ) → k ≤ length buf → length front ≡ length (take k buf)
    → (k ≤ length (front ++ drop k buf)) × (k ≡ length (take k (front ++ drop k buf)))
given_bound front buf k l h =
    let w = whole_length front buf k l h in
    (omega (arith, w, l), omega (arith, w, l, length-take k (front ++ drop k buf)))

-- how many bytes are given, in one call
pub given_whole : (front buf rest bytes : List ℕ) (k : ℕ) → rest ≡ bytes → k ≡ min (length rest) (length buf)
    → length front ≡ length (take k buf) → k ≡ min (length bytes) (length (front ++ drop k buf))
given_whole front buf rest bytes k r a h =
    let w = whole_length front buf k (omega (arith, a)) h in
    rw (w, ← r) a

-- how many bytes are given, where a call gives at most so many
pub given_count : (front buf rest bytes : List ℕ) (k m p q : ℕ) → rest ≡ bytes → m ≡ min (length rest) (length buf)
    → k ≡ min m p → p ≡ q → length front ≡ length (take k buf)
    → k ≡ min (min (length bytes) (length (front ++ drop k buf))) q
given_count front buf rest bytes k m p q r a b e h =
    let w = whole_length front buf k (omega (arith, a, b)) h in
    rw (w, ← r, ← e, ← a) b

-- the bytes of a read that leaves room for one more are within the limit
pub within : (items : List ℕ) (limit len piece count : ℕ) → length items ≤ limit → length items ≡ len
    → piece ≡ min (limit + 1 - len) 4096 → count ≤ piece → (count ≡ limit + 1 - len → ⊥)
    → length items + count ≤ limit
within items limit len piece count few l p most more = omega (arith, few, l, p, most, more)
