-- Sets with their elements from e on moved up by one.
--
-- Main results: the masks and members of such sets (spread_small, spread_code, skipped_members).
use Rattle.std.specs.Prelude.{ℕ, ◌≡◌, ◌≢◌, ◌+◌, ◌-◌, ◌*◌, ◌/◌, ◌%◌, ◌<◌, ◌≤◌, ◌^◌, List, ◌∷◌, map, refl, bit_and}
use Rattle.std.specs.Int.{bit_at}
use Rattle.std.proofs.Common.{zero, suc, sym, ◌∙◌, ap, inl, inr, arith, min, max, bit_or}
use Rattle.std.proofs.lemmas.Bool.{cases_eq, eq-eqb, ne_eqb}
use Rattle.std.proofs.lemmas.Nat.{or_lt, and_le_l, pow-add, pow_pos}
use Rattle.std.proofs.lemmas.Nat.Bits.{bit_at_lowest, bit_at-suc, bit_at-zero, bit_at-lt, bit_at_and, bit_at_or}
use Rattle.std.proofs.lemmas.Nat.Bits.{bit_at_ones, bit_at_ones_above, bit_at_cat_low, bit_at_cat_high}
use Rattle.std.proofs.Math.Nat.{div-mul-le_self, div-div-eq-div-mul, mod-eq_of_lt}
use Rattle.std.proofs.Math.Pow.{pow_mono}
use Rattle.om_signs.specs.declared.limits.TheConstants.{MAX_PLACES}
pub use Rattle.om_signs.specs.Numbers.{skip}
use Rattle.om_signs.proofs.Bits.{one_shl_32, pow-add_one}
use Rattle.om_signs.proofs.Numbers.{skip_below, skip_above}
use Rattle.om_subsets.specs.Members.{members, mask_of}
use Rattle.om_subsets.specs.Subsets.{IsSubsetFrom}
use Rattle.om_subsets.proofs.Edits.{members_same}
use Rattle.om_subsets.proofs.Masks.{members-mask_of}

-- ---- members

-- the members from e on, one number up
members_up : (mask e low m : ℕ) → e ≤ low → members mask (low + 1) m ≡ map (skip e) (members mask low m)
members_up mask e low zero l = refl
members_up mask e low (suc m) l =
    let rest = members_up (mask / 2) e (low + 1) m (omega arith) in
    elim (cases_eq (mask % 2) 1) [
      | inl o ↦
          rw (eq-eqb (mask % 2) 1 o) (ap (λ x. x ∷ members (mask / 2) (low + 1 + 1) m) (sym (skip_above e low l))
          ∙ ap (λ t. skip e low ∷ t) rest)
      | inr z ↦ rw (ne_eqb (mask % 2) 1 z) rest
    ]

-- the low k bits of t are those of the mask, then comes 0, and then the further bits of the mask
pub record IsSpread (t mask k m : ℕ) : Type 0 where
  pub before : (i : ℕ) → i < k → bit_at t i ≡ bit_at mask i
  pub here : bit_at t k ≡ 0
  pub behind : (i : ℕ) → k ≤ i → i < m → bit_at t (suc i) ≡ bit_at mask i

spread_half : (t mask k m : ℕ) → IsSpread t mask (suc k) (suc m) → IsSpread (t / 2) (mask / 2) k m
spread_half t mask k m s = record {
  before = λ i l. sym (bit_at-suc t i) ∙ s.before (suc i) (omega arith) ∙ bit_at-suc mask i;
  here = sym (bit_at-suc t k) ∙ s.here;
  behind = λ i l u. sym (bit_at-suc t (suc i)) ∙ s.behind (suc i) (omega arith) (omega arith) ∙ bit_at-suc mask i;
}

spread_members : (t mask low k m : ℕ) → k ≤ m → IsSpread t mask k m
    → members t low (suc m) ≡ map (skip (low + k)) (members mask low m)
spread_members t mask low zero m l s =
    let even : t % 2 ≢ 1 = (let e = bit_at_lowest t in let h = s.here in omega (arith, e, h)) in
    let top : low + 0 ≡ low = omega arith in
    rw (ne_eqb (t % 2) 1 even)
    (members_same (t / 2) mask (low + 1) m (λ i u. sym (bit_at-suc t i) ∙ s.behind i (omega arith) u)
    ∙ members_up mask low low m (omega arith)
    ∙ ap (λ e. map (skip e) (members mask low m)) (sym top))
spread_members t mask low (suc k) zero l s = absurd (omega arith)
spread_members t mask low (suc k) (suc m) l s =
    let first : t % 2 ≡ mask % 2 = sym (bit_at_lowest t) ∙ s.before 0 (omega arith) ∙ bit_at_lowest mask in
    let top : low + 1 + k ≡ low + suc k = omega arith in
    let rest : members (t / 2) (low + 1) (suc m) ≡ map (skip (low + suc k)) (members (mask / 2) (low + 1) m) =
    spread_members (t / 2) (mask / 2) (low + 1) k m (omega arith) (spread_half t mask k m s)
    ∙ ap (λ e. map (skip e) (members (mask / 2) (low + 1) m)) top in
    elim (cases_eq (mask % 2) 1) [
      | inl o ↦
          let p : t % 2 ≡ 1 = first ∙ o in
          rw (eq-eqb (t % 2) 1 p, eq-eqb (mask % 2) 1 o)
          (ap (λ x. x ∷ members (t / 2) (low + 1) (suc m)) (sym (skip_below (low + suc k) low (omega arith)))
          ∙ ap (λ u. skip (low + suc k) low ∷ u) rest)
      | inr z ↦
          let p : t % 2 ≢ 1 = (λ q. z (sym first ∙ q)) in
          rw (ne_eqb (t % 2) 1 p, ne_eqb (mask % 2) 1 z) rest
    ]

-- ---- the mask that the code makes

abbrev pub spread : ℕ → ℕ → ℕ
spread mask k = bit_or (bit_and mask (2 ^ k - 1)) (mask / 2 ^ k * 2 ^ (k + 1))

bit_of_quotient : (mask k i : ℕ) → bit_at (mask / 2 ^ k) i ≡ bit_at mask (k + i)
bit_of_quotient mask k i =
    ap (λ x. x % 2) (div-div-eq-div-mul mask (2 ^ k) (2 ^ i) ∙ ap (λ x. mask / x) (sym (pow-add 2 k i)))

spread_bits : (mask k m : ℕ) → IsSpread (spread mask k) mask k m
spread_bits mask k m = record {
  before = λ i l. (let a = low i in let b = none i (omega arith) in let c = ones i l in let d = bit_at-lt mask i in
      omega (arith, a, b, c, d));
  here = (let a = low k in let b = none k (omega arith) in let c = bit_at_ones_above k k (omega arith) in
      omega (arith, a, b, c));
  behind = λ i l u. (let a = low (suc i) in let b = high i l in let c = bit_at_ones_above k (suc i) (omega arith) in
      omega (arith, a, b, c));
}
  where
    low : (i : ℕ) → bit_at (spread mask k) i ≡ max (min (bit_at mask i) (bit_at (2 ^ k - 1) i))
        (bit_at (mask / 2 ^ k * 2 ^ (k + 1)) i)
    low i = bit_at_or (bit_and mask (2 ^ k - 1)) (mask / 2 ^ k * 2 ^ (k + 1)) i
        ∙ ap (λ x. max x (bit_at (mask / 2 ^ k * 2 ^ (k + 1)) i)) (bit_at_and mask (2 ^ k - 1) i)

    ones : (i : ℕ) → i < k → bit_at (2 ^ k - 1) i ≡ 1
    ones i l = bit_at_ones k i l

    plain : mask / 2 ^ k * 2 ^ (k + 1) + 0 ≡ mask / 2 ^ k * 2 ^ (k + 1)
    plain = omega arith

    none : (i : ℕ) → i < k + 1 → bit_at (mask / 2 ^ k * 2 ^ (k + 1)) i ≡ 0
    none i l = ap (λ x. bit_at x i) (sym plain) ∙ bit_at_cat_low (mask / 2 ^ k) (k + 1) 0 i l ∙ bit_at-zero i

    high : (i : ℕ) → k ≤ i → bit_at (mask / 2 ^ k * 2 ^ (k + 1)) (suc i) ≡ bit_at mask i
    high i l =
        let a : suc i - (k + 1) ≡ i - k = omega arith in
        let b : k + (i - k) ≡ i = omega arith in
        ap (λ x. bit_at x (suc i)) (sym plain)
        ∙ bit_at_cat_high (mask / 2 ^ k) (k + 1) 0 (suc i) (pow_pos (k + 1)) (omega arith)
        ∙ ap (bit_at (mask / 2 ^ k)) a ∙ bit_of_quotient mask k (i - k) ∙ ap (bit_at mask) b

behind_small : (mask k n : ℕ) → mask < 2 ^ n → mask / 2 ^ k * 2 ^ (k + 1) < 2 ^ (n + 1)
behind_small mask k n l =
    let p = div-mul-le_self mask (2 ^ k) in
    rw (pow-add_one k, pow-add_one n) (omega (arith, p, l))

pub spread_small : (mask k n : ℕ) → mask < 2 ^ n → spread mask k < 2 ^ (n + 1)
spread_small mask k n l =
    let b = pow-add_one n in
    let a = and_le_l mask (2 ^ k - 1) in
    or_lt (n + 1) (bit_and mask (2 ^ k - 1)) (mask / 2 ^ k * 2 ^ (k + 1)) (omega (arith, a, b, l))
    (behind_small mask k n l)

-- what the code computes for a set and an element e
pub skipped_members : (n e : ℕ) (xs : List ℕ) → 1 ≤ e → e ≤ n + 1 → IsSubsetFrom 1 n xs
    → members (spread (mask_of 1 xs n) (e - 1)) 1 (n + 1) ≡ map (skip e) xs
skipped_members n e xs low high h =
    let up : n + 1 ≡ suc n = omega arith in
    let here : 1 + (e - 1) ≡ e = omega arith in
    ap (members (spread (mask_of 1 xs n) (e - 1)) 1) up
    ∙ spread_members (spread (mask_of 1 xs n) (e - 1)) (mask_of 1 xs n) 1 (e - 1) n (omega arith)
    (spread_bits (mask_of 1 xs n) (e - 1) n)
    ∙ ap (λ g. map (skip g) (members (mask_of 1 xs n) 1 n)) here
    ∙ ap (map (skip e)) (members-mask_of 1 n xs h)

-- the mask that the code computes in 32 bits
pub spread_code : (mask n e : ℕ) → 1 ≤ e → e ≤ n + 1 → n < MAX_PLACES → mask < 2 ^ n
    → bit_or (bit_and mask (1 * 2 ^ (e - 1) % 4294967296 - 1)) (mask / 2 ^ (e - 1) * 2 ^ e % 4294967296)
    ≡ spread mask (e - 1)
spread_code mask n e low high room l =
    let up : e ≡ e - 1 + 1 = omega arith in
    let small : 2 ^ (n + 1) ≤ 2 ^ MAX_PLACES = pow_mono {i = n + 1} {j = MAX_PLACES} (omega arith) in
    let fits : mask / 2 ^ (e - 1) * 2 ^ e < 4294967296 =
    (let b = behind_small mask (e - 1) n l in rw (ap (λ j. 2 ^ j) up) (omega (arith, b, small))) in
    rw (one_shl_32 (e - 1) (omega arith), mod-eq_of_lt {n = mask / 2 ^ (e - 1) * 2 ^ e} {m = 4294967296} fits)
    (ap (λ j. bit_or (bit_and mask (2 ^ (e - 1) - 1)) (mask / 2 ^ (e - 1) * 2 ^ j)) up)
