-- Marks of sets: the bits of words of 64 bits, a bit for each set, at the number of its mask.
use Rattle.std.specs.Prelude.{ℕ, ◌≡◌, ◌+◌, ◌*◌, ◌/◌, ◌%◌, ◌<◌, ◌^◌, ◌⊎◌, List, length}
use Rattle.std.specs.Int.{bit_at}
use Rattle.std.proofs.Math.ListN.{get_or}

-- the bit of the set with this mask
abbrev pub mark_at : List ℕ → ℕ → ℕ
mark_at words mask = bit_at (get_or words (mask / 64) 0) (mask % 64)

-- the set with this mask is marked
abbrev pub IsMarked : List ℕ → ℕ → Type 0
IsMarked words mask = mark_at words mask ≡ 1

-- the set with this mask is a marked set with bit e added
abbrev pub IsSpreadFrom : List ℕ → ℕ → ℕ → Type 0
IsSpreadFrom words mask e = (t : ℕ) × (t + 2 ^ e ≡ mask) × (bit_at t e ≡ 0) × IsMarked words t

-- the marks stay, and for each marked set without bit e the set with this bit is marked too, and no other
pub record IsSpread (words words' : List ℕ) (e : ℕ) : Type 0 where
  pub size : length words' ≡ length words
  pub keeps : (s : ℕ) → IsMarked words s → IsMarked words' s
  pub adds : (t : ℕ) → bit_at t e ≡ 0 → t + 2 ^ e < 64 * length words → IsMarked words t → IsMarked words' (t + 2 ^ e)
  pub only : (s : ℕ) → IsMarked words' s → IsMarked words s ⊎ IsSpreadFrom words s e

-- the same in one word, for its places p
pub record IsWordSpread (w w' e : ℕ) : Type 0 where
  pub keeps : (p : ℕ) → bit_at w p ≡ 1 → bit_at w' p ≡ 1
  pub adds : (p : ℕ) → p < 64 → bit_at p e ≡ 0 → bit_at w p ≡ 1 → bit_at w' (p + 2 ^ e) ≡ 1
  pub only : (p : ℕ) → p < 64 → bit_at w' p ≡ 1 → (bit_at w p ≡ 1)
      ⊎ ((q : ℕ) × (q + 2 ^ e ≡ p) × (bit_at q e ≡ 0) × (bit_at w q ≡ 1))
