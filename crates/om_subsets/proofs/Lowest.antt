-- The members of a mask taken off from the lowest on, and the place of a set counted by the sets after it.
--
-- Main definitions: `later n xs`, how many sets of this size come after xs.
-- Main results: `rank_and_later`; `lowest`, what `mask & (mask - 1)` does to the members.
use Rattle.std.proofs.Common.{ℕ, ◌≡◌, ◌+◌, ◌-◌, ◌/◌, ◌%◌, ◌<◌, ◌≤◌, ◌^◌, List, [], ◌∷◌, length, zero, suc, refl, sym}
use Rattle.std.proofs.Common.{◌∙◌, ap, arith, inl, inr, bit_and, w32, subst}
use Rattle.std.specs.Int.{bit_at, trailing_zeros}
use Rattle.std.specs.Int.Bits.{and_self}
use Rattle.std.proofs.lemmas.Bool.{eq-eqb, ne_eqb}
use Rattle.std.proofs.lemmas.Nat.Bits.{bit_at-suc, bit_at_lowest, bit_at-trailing_zeros}
use Rattle.std.proofs.Math.Pow.{pow_mono}
use Rattle.om_subsets.specs.Subsets.{choose, rank_from, rank_of, IsSubsetFrom}
use Rattle.om_signs.specs.declared.limits.TheConstants.{MAX_PLACES}
use Rattle.om_subsets.specs.Members.{members, members-subset}
use Rattle.om_subsets.proofs.Order.{members_from}
use Rattle.om_subsets.proofs.Counts.{choose_none}
use Rattle.std.proofs.lemmas.Nat.{and_le_l}
use Rattle.std.proofs.Math.Nat.{pow-succ'}
use Rattle.om_signs.proofs.Bits.{bit_and-half, bit_and-lowest, zero_has_no_bit}
use Rattle.om_subsets.proofs.Places.{bits_fit, members-zero}

-- how many of the sets of its size of the numbers 1 to n come after an increasing list: those that first differ from
-- it at some member, and go on with later numbers
abbrev pub later : ℕ → List ℕ → ℕ
later n [] = 0
later n (x ∷ xs) = choose (n - x) (suc (length xs)) + later n xs

pub rank_and_later : (low m n : ℕ) (xs : List ℕ) → low + m ≡ n + 1 → IsSubsetFrom low m xs
    → rank_from low m xs + 1 + later n xs ≡ choose m (length xs)
rank_and_later low m n [] e h = let c = choose_none m in omega arith
rank_and_later low zero n (x ∷ xs) e h = absurd h
rank_and_later low (suc m) n (x ∷ xs) e (inl (q, h)) =
    let i = rank_and_later (low + 1) m n xs (omega arith) h in
    let rest : n - x ≡ m = omega arith in
    let c = ap (λ k. choose k (suc (length xs))) rest in
    rw (eq-eqb x low q) (omega arith)
rank_and_later low (suc m) n (x ∷ xs) e (inr (g, h)) =
    let i = rank_and_later (low + 1) m n (x ∷ xs) (omega arith) h in
    rw (ne_eqb x low g) (omega arith)

lowest_at : (mask e m t : ℕ) → mask < 2 ^ m → bit_at mask t ≡ 1 → ((i : ℕ) → i < t → bit_at mask i ≡ 0)
    → members mask e m ≡ (e + t) ∷ members (bit_and mask (mask - 1)) e m
lowest_at mask e zero t l one none =
    let z : mask ≡ 0 = omega arith in
    let b : bit_at 0 t ≡ 1 = rw (← z) one in
    absurd (zero_has_no_bit t b)
lowest_at mask e (suc m) zero l one none =
    let odd : mask % 2 ≡ 1 = sym (bit_at_lowest mask) ∙ one in
    let before : (mask - 1) % 2 ≡ 0 = omega arith in
    let low : bit_and mask (mask - 1) % 2 ≡ 0 = bit_and-lowest mask (mask - 1) ∙ rw (odd, before) refl in
    let same : (mask - 1) / 2 ≡ mask / 2 = omega arith in
    let half : bit_and mask (mask - 1) / 2 ≡ mask / 2 = bit_and-half mask (mask - 1) ∙ rw same (and_self (mask / 2)) in
    let z : e + 0 ≡ e = omega arith in
    rw (low, half, odd, z) refl
lowest_at mask e (suc m) (suc t) l one none =
    let d = pow-succ' 2 m in
    let even : mask % 2 ≡ 0 = sym (bit_at_lowest mask) ∙ none 0 (omega arith) in
    let one' : bit_at (mask / 2) t ≡ 1 = sym (bit_at-suc mask t) ∙ one in
    let none' : (i : ℕ) → i < t → bit_at (mask / 2) i ≡ 0 =
    (λ i l. sym (bit_at-suc mask i) ∙ none (suc i) (omega arith)) in
    let i = lowest_at (mask / 2) (e + 1) m t (omega arith) one' none' in
    let low : bit_and mask (mask - 1) % 2 ≡ 0 = bit_and-lowest mask (mask - 1) ∙ rw even (omega arith) in
    let pred : (mask - 1) / 2 ≡ mask / 2 - 1 = omega arith in
    let half : bit_and mask (mask - 1) / 2 ≡ bit_and (mask / 2) (mask / 2 - 1) = bit_and-half mask (mask - 1)
    ∙ rw pred refl in
    let s : e + 1 + t ≡ e + suc t = omega arith in
    rw (low, half, even) (i ∙ rw s refl)

-- the lowest bit that is set is the first member, and the next mask has the others
pub lowest : (mask n : ℕ) → 0 < mask → mask < 2 ^ n → n < 32
    → members mask 1 n ≡ (1 + trailing_zeros w32 mask) ∷ members (bit_and mask (mask - 1)) 1 n
lowest mask n some l h =
    let p : 2 ^ n ≤ 2 ^ 32 = pow_mono {j = 32} (omega arith) in
    let t = bit_at-trailing_zeros w32 mask some (omega arith) in
    lowest_at mask 1 n (trailing_zeros w32 mask) l t.1 t.2

-- one turn of the loop over the members: the mask that is left has one member less
pub record IsTurn (mask n : ℕ) : Type 0 where
  pub within : bit_and mask (mask - 1) < 2 ^ n
  pub small : trailing_zeros w32 mask + 1 ≤ n
  pub size : length (members mask 1 n) ≡ length (members (bit_and mask (mask - 1)) 1 n) + 1
  pub place : later n (members mask 1 n) ≡ choose (n - (trailing_zeros w32 mask + 1)) (length (members mask 1 n))
      + later n (members (bit_and mask (mask - 1)) 1 n)

-- `mask & (mask - 1)`, for a mask other than 0, makes such a turn
pub turn : (mask n : ℕ) → 0 < mask → mask < 2 ^ n → n ≤ MAX_PLACES → IsTurn mask n
turn mask n some l h =
    let here = lowest mask n some l (bits_fit n h) in
    let head : IsSubsetFrom 1 n ((1 + trailing_zeros w32 mask) ∷ members (bit_and mask (mask - 1)) 1 n) =
    subst (IsSubsetFrom 1 n) here (members-subset mask 1 n) in
    let bound =
    members_from 1 n (1 + trailing_zeros w32 mask)
    ((1 + trailing_zeros w32 mask) ∷ members (bit_and mask (mask - 1)) 1 n) head (inl refl) in
    let less = and_le_l mask (mask - 1) in
    let flip : 1 + trailing_zeros w32 mask ≡ trailing_zeros w32 mask + 1 = omega arith in
    record {
      within = omega arith;
      small = omega arith;
      size = ap length here ∙ omega arith;
      place = rw (here, flip) refl;
    }

pub no_turn : (mask n : ℕ) → mask ≡ 0 → later n (members mask 1 n) ≡ 0
no_turn mask n z = rw (z, members-zero 1 n) refl

pub rank_start : (n : ℕ) (xs : List ℕ) → IsSubsetFrom 1 n xs → rank_of n xs + 1 + later n xs ≡ choose n (length xs)
rank_start n xs h = rank_and_later 1 n n xs (omega arith) h
