-- The lowest bit of a mask, a mask that is cleared bit by bit, and the mask of the rows that aren't zero.
--
-- Main definitions: IsLowest, IsCleared
-- Main results: lowest_bit, left_bit, uncleared, cleared_more, left_later, others_left, all_cleared, live_of_support,
-- dead_of_support, live_more, live_skip, dead_rows, other_rows
use Rattle.std.specs.Prelude.{ℕ, ◌≡◌, ◌≢◌, ◌+◌, ◌-◌, ◌*◌, ◌%◌, ◌<◌, ◌≤◌, ◌^◌, ◌⊎◌, ◌↔◌, List, [], length, bit_and}
use Rattle.std.specs.Prelude.{bit_or}
use Rattle.std.specs.Int.{bit_at, trailing_zeros}
use Rattle.std.proofs.Common.{sym, ◌∙◌, ap, arith, inl, inr, subst, get_or, ⊎_elim, w32}
use Rattle.std.proofs.lemmas.Bool.{cases_eq, cases_lt, cases_order}
use Rattle.std.proofs.lemmas.List.{get_or_past}
use Rattle.std.proofs.lemmas.Nat.{and_le_l}
use Rattle.std.proofs.Math.Pow.{pow_mono}
use Rattle.std.proofs.lemmas.Nat.Bits.{bit_at-zero, bit_at-trailing_zeros, bit_at_clear_other, bit_at_clear_same}
use Rattle.std.proofs.lemmas.Nat.Bits.{bit_at_above, bit_at_set_same, bit_at_set_other}
use Rattle.om_signs.specs.declared.limits.TheConstants.{MAX_PLACES}
use Rattle.om_signs.specs.declared.sign.Sign.{Sign}
use Rattle.om_signs.specs.declared.sign.Sign.TheVariants.{Zero}
use Rattle.om_signs.specs.SignVec.{at, IsMaskOf, IsInSupport}
use Rattle.om_signs.proofs.Bits.{lt_from_bits, some_bit, not_zero_and_one}
use Rattle.om_chirotope.specs.Pictures.{IsLive}

-- ---- the lowest bit of a mask

-- the place of a mask's lowest bit, and the mask without it
pub record IsLowest (mask n i : ℕ) : Type 0 where
  pub here : i < n
  pub bit : bit_at mask i ≡ 1
  pub smaller : bit_and mask (4294967295 - 1 * 2 ^ i % 4294967296) < mask
  pub none : bit_at (bit_and mask (4294967295 - 1 * 2 ^ i % 4294967296)) i ≡ 0
  pub others : (j : ℕ) → j < 32 → j ≢ i → bit_at (bit_and mask (4294967295 - 1 * 2 ^ i % 4294967296)) j ≡ bit_at mask j
  pub lower : (j : ℕ) → j < i → bit_at mask j ≡ 0

pub lowest_bit : (mask n : ℕ) → n ≤ MAX_PLACES → mask < 2 ^ n → mask ≢ 0 → IsLowest mask n (trailing_zeros w32 mask)
lowest_bit mask n few within some =
    let room : 2 ^ n ≤ 2 ^ MAX_PLACES = pow_mono {j = MAX_PLACES} few in
    let t = bit_at-trailing_zeros w32 mask (omega arith) (omega arith) in
    let inside = t.0 in
    let one = t.1 in
    let le = and_le_l mask (4294967295 - 1 * 2 ^ trailing_zeros w32 mask % 4294967296) in
    let cleared = bit_at_clear_same w32 mask (trailing_zeros w32 mask) t.0 in
    record {
      here = elim (cases_lt (trailing_zeros w32 mask) n) [
        | inl l ↦ l
        | inr g ↦
            absurd (not_zero_and_one (bit_at mask (trailing_zeros w32 mask))
            (bit_at_above mask n (trailing_zeros w32 mask) within g) t.1)
      ];
      bit = t.1;
      smaller = elim (cases_eq (bit_and mask (4294967295 - 1 * 2 ^ trailing_zeros w32 mask % 4294967296)) mask) [
        | inl q ↦
            absurd (not_zero_and_one (bit_at mask (trailing_zeros w32 mask))
            (sym (ap (λ k. bit_at k (trailing_zeros w32 mask)) q) ∙ cleared) t.1)
        | inr k ↦ omega arith
      ];
      none = cleared;
      others = λ j l ne. bit_at_clear_other w32 mask (trailing_zeros w32 mask) t.0 j l ne;
      lower = t.2;
    }

-- ---- the rows of a mask

bit_below_32 : (mask n k : ℕ) → n ≤ MAX_PLACES → mask < 2 ^ n → bit_at mask k ≡ 1 → k < 32
bit_below_32 mask n k few w o =
    elim (cases_lt k n) [
      | inl l ↦ omega (arith, l, few)
      | inr g ↦
          absurd (not_zero_and_one (bit_at mask k) (bit_at_above mask n k w g) o)
    ]

-- a bit that is left is one of the mask, and above the lowest
pub left_bit : (rest n i k : ℕ) → n ≤ MAX_PLACES → IsLowest rest n i → rest < 2 ^ n
    → bit_at (bit_and rest (4294967295 - 1 * 2 ^ i % 4294967296)) k ≡ 1 → (bit_at rest k ≡ 1) × (i < k)
left_bit rest n i k few low within o =
    let a = low.smaller in
    let w : bit_and rest (4294967295 - 1 * 2 ^ i % 4294967296) < 2 ^ n = omega (arith, a, within) in
    let small = bit_below_32 (bit_and rest (4294967295 - 1 * 2 ^ i % 4294967296)) n k few w o in
    elim (cases_order k i) [
      | inl q ↦ absurd (not_zero_and_one _
          (ap (bit_at (bit_and rest (4294967295 - 1 * 2 ^ i % 4294967296))) q ∙ low.none) o)
      | inr (inl lt) ↦ let ne : k ≢ i = omega (arith, lt) in
          absurd (not_zero_and_one (bit_at rest k) (low.lower k lt) (sym (low.others k small ne) ∙ o))
      | inr (inr gt) ↦ let ne : k ≢ i = omega (arith, gt) in (sym (low.others k small ne) ∙ o, gt)
    ]

-- a mask is cleared bit by bit, and what has been cleared is done
pub record IsCleared (later rest n : ℕ) (Done : ℕ → Type 0) : Type 0 where
  pub within : rest < 2 ^ n
  pub part : (k : ℕ) → bit_at rest k ≡ 1 → bit_at later k ≡ 1
  pub done : (k : ℕ) → bit_at later k ≡ 1 → (bit_at rest k ≡ 1) ⊎ Done k
  pub above : (j k : ℕ) → bit_at rest j ≡ 1 → j < k → bit_at later k ≡ 1 → bit_at rest k ≡ 1

pub uncleared : (later n : ℕ) (Done : ℕ → Type 0) → later < 2 ^ n → IsCleared later later n Done
uncleared later n Done w = record { within = w; part = λ k h. h; done = λ k h. inl h; above = λ j k h l g. g }

pub cleared_more : (later rest n i : ℕ) (Done : ℕ → Type 0) → n ≤ MAX_PLACES → IsLowest rest n i → Done i
    → IsCleared later rest n Done → IsCleared later (bit_and rest (4294967295 - 1 * 2 ^ i % 4294967296)) n Done
cleared_more later rest n i Done few low here h = record {
  within = (let a = low.smaller in let b = h.within in omega (arith, a, b));
  part = λ k o. h.part k (left_bit rest n i k few low h.within o).0;
  done = λ k o. elim (cases_eq k i) [
    | inl q ↦ inr (subst Done (sym q) here)
    | inr ne ↦ ⊎_elim (λ b. inl (low.others k (bit_below_32 rest n k few h.within b) ne ∙ b)) (λ d. inr d) (h.done k o)
  ];
  above = λ j k o l g.
      let c = left_bit rest n i j few low h.within o in
      let ij = c.1 in
      let ne : k ≢ i = omega (arith, ij, l) in
      let b = h.above j k c.0 l g in
      low.others k (bit_below_32 rest n k few h.within b) ne ∙ b;
}

-- what is left after the lowest bit is later
pub left_later : (later rest n i k : ℕ) (Done : ℕ → Type 0) → n ≤ MAX_PLACES → IsLowest rest n i
    → IsCleared later rest n Done → bit_at (bit_and rest (4294967295 - 1 * 2 ^ i % 4294967296)) k ≡ 1 → (i < k)
    × (bit_at later k ≡ 1)
left_later later rest n i k Done few low h o = let c = left_bit rest n i k few low h.within o in (c.1, h.part k c.0)

-- and all that is later is left
pub others_left : (later rest n i k : ℕ) (Done : ℕ → Type 0) → n ≤ MAX_PLACES → IsLowest rest n i
    → IsCleared later rest n Done → i < k → bit_at later k ≡ 1
    → bit_at (bit_and rest (4294967295 - 1 * 2 ^ i % 4294967296)) k ≡ 1
others_left later rest n i k Done few low h l o =
    let b = h.above i k low.bit l o in
    let ne : k ≢ i = omega (arith, l) in
    low.others k (bit_below_32 rest n k few h.within b) ne ∙ b

-- where nothing is left, all is done
pub all_cleared : (later rest n : ℕ) (Done : ℕ → Type 0) → rest ≡ 0 → IsCleared later rest n Done → (k : ℕ)
    → bit_at later k ≡ 1 → Done k
all_cleared later rest n Done z h k o =
    ⊎_elim (λ b. absurd (none (sym (ap (λ x. bit_at x k) z) ∙ b))) (λ d. d) (h.done k o)
  where
    none : bit_at 0 k ≡ 1 → ⊥
    none q = let e = bit_at-zero k in omega (arith, e, q)

-- ---- the mask of the rows that aren't zero

pub live_of_support : (rows : List (List Sign)) (i n support : ℕ) (u : List Sign) → n ≤ MAX_PLACES → length u ≡ n
    → u ≡ get_or rows i [] → IsMaskOf (length u) (IsInSupport u) support → support ≢ 0 → IsLive rows i
live_of_support rows i n support u few len e is some =
    go (some_bit support some (let w = is.within in let r = room in omega (arith, w, r)))
  where
    room : 2 ^ length u ≤ 2 ^ MAX_PLACES
    room = pow_mono {j = MAX_PLACES} (omega (arith, few, len))

    go : (l : ℕ) × (bit_at support l ≡ 1) → IsLive rows i
    go (l, o) = (l, λ z. (is.holds l inside).0 o (ap (λ v. at v l) e ∙ z))
      where
        inside : l < length u
        inside = elim (cases_lt l (length u)) [
          | inl lt ↦ lt
          | inr g ↦ let none = bit_at_above support (length u) l is.within g in
              absurd (omega (arith, o, none))
        ]

pub dead_of_support : (rows : List (List Sign)) (i support : ℕ) (u : List Sign) → u ≡ get_or rows i []
    → IsMaskOf (length u) (IsInSupport u) support → support ≡ 0 → IsLive rows i → ⊥
dead_of_support rows i support u e is z (l, nz) = elim (cases_lt l (length u)) [
  | inl lt ↦
      let o = (is.holds l lt).1 (λ q. nz (ap (λ v. at v l) (sym e) ∙ q)) in
      let none = sym (ap (λ k. bit_at k l) z) ∙ o in
      let zero = bit_at-zero l in
      omega (arith, none, zero)
  | inr g ↦ nz (ap (λ v. at v l) (sym e) ∙ get_or_past u l Zero g)
]

pub live_more : (P : ℕ → Type 0) (live i : ℕ) → i < 32 → P i → IsMaskOf i P live
    → IsMaskOf (i + 1) P (bit_or live (1 * 2 ^ i % 4294967296))
live_more P live i few here h =
    record { within = lt_from_bits (bit_or live (1 * 2 ^ i % 4294967296)) (i + 1) above; holds = holds }
  where
    above : (j : ℕ) → i + 1 ≤ j → bit_at (bit_or live (1 * 2 ^ i % 4294967296)) j ≡ 0
    above j g = let ne : j ≢ i = omega (arith, g) in bit_at_set_other w32 live i few j ne
        ∙ bit_at_above live i j h.within (omega (arith, g))

    holds : (j : ℕ) → j < i + 1 → (bit_at (bit_or live (1 * 2 ^ i % 4294967296)) j ≡ 1) ↔ P j
    holds j l = elim (cases_eq j i) [
      | inl q ↦ (
        λ o. subst P (sym q) here,
        λ k. ap (bit_at (bit_or live (1 * 2 ^ i % 4294967296))) q
            ∙ bit_at_set_same w32 live i few,
      )
      | inr ne ↦
          let same = bit_at_set_other w32 live i few j ne in
          let old = h.holds j (omega (arith, l, ne)) in
          (λ o. old.0 (sym same ∙ o), λ k. same ∙ old.1 k)
    ]

pub live_skip : (P : ℕ → Type 0) (live i : ℕ) → (P i → ⊥) → IsMaskOf i P live → IsMaskOf (i + 1) P live
live_skip P live i dead h =
    record {
      within = (let w = h.within in let p : 2 ^ i ≤ 2 ^ (i + 1) = pow_mono (omega arith) in omega (arith, w, p));
      holds = holds;
    }
  where
    holds : (j : ℕ) → j < i + 1 → (bit_at live j ≡ 1) ↔ P j
    holds j l = elim (cases_eq j i) [
      | inl q ↦ (
        λ o. let none = bit_at_above live i j h.within (omega (arith, q)) in absurd (omega (arith, o, none)),
        λ k. absurd (dead (subst P q k)),
      )
      | inr ne ↦ h.holds j (omega (arith, l, ne))
    ]

pub dead_rows : (n live : ℕ) (P : ℕ → Type 0) → live ≡ 0 → IsMaskOf n P live → (j : ℕ) → j < n → P j → ⊥
dead_rows n live P z is j l h =
    let o = sym (ap (λ k. bit_at k j) z) ∙ (is.holds j l).1 h in
    let none = bit_at-zero j in
    omega (arith, o, none)

-- a row that isn't the lowest has its bit in the rest, or is zero
pub other_rows : (n live i : ℕ) (P : ℕ → Type 0) → n ≤ MAX_PLACES → IsLowest live n i → IsMaskOf n P live → (j : ℕ)
    → j < n → j ≢ i → (bit_at (bit_and live (4294967295 - 1 * 2 ^ i % 4294967296)) j ≡ 1) ⊎ (P j → ⊥)
other_rows n live i P few low is j l ne = elim (cases_eq (bit_at live j) 1) [
  | inl o ↦ inl (low.others j (omega (arith, l, few)) ne ∙ o)
  | inr k ↦ inr (λ h. k ((is.holds j l).1 h))
]
