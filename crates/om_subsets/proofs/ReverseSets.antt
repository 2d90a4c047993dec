-- The set at a place of the reverse lexicographic order, chosen from the greatest number on.
--
-- Main definitions: IsReverseBegun
-- Main results: reverse_skip, reverse_take, reverse_end
use Rattle.std.proofs.Common.{ℕ, zero, suc, ◌≡◌, ◌+◌, ◌-◌, ◌*◌, ◌/◌, ◌%◌, ◌<◌, ◌≤◌, ◌^◌, [], ◌∷◌, ◌++◌, bit_or, refl}
use Rattle.std.proofs.Common.{sym, ◌∙◌, ap, arith}
use Rattle.std.proofs.lemmas.List.{append_assoc}
use Rattle.std.proofs.lemmas.Nat.{one_shl, or_lt, or_shifted}
use Rattle.std.proofs.Math.Pow.{pow-lt, pow_pos}
use Rattle.std.proofs.Math.Nat.{pow-succ'}
use Rattle.om_subsets.specs.Subsets.{choose}
use Rattle.om_subsets.specs.Members.{members}
use Rattle.om_subsets.specs.Reverse.{revlex_subset_at}
use Rattle.om_subsets.proofs.Counts.{choose_none}
use Rattle.om_subsets.proofs.ReversePlaces.{reverse_front, reverse_back}

-- ---- the set at a place

-- the mask has the members above m of the set at place k, and the others are the set at place `rest` of those of `left`
-- of the numbers 1 to m
pub record IsReverseBegun (mask m left rest r k n : ℕ) : Type 0 where
  pub high : ℕ
  pub mask_is : mask ≡ high * 2 ^ m
  pub within : mask < 2 ^ n
  pub place : rest < choose m left
  pub listed : revlex_subset_at n r k ≡ revlex_subset_at m left rest ++ members high (m + 1) (n - m)

times_double : (h p : ℕ) → h * (2 * p) ≡ 2 * h * p
times_double h p = omega arith

-- no set of `left` of the numbers 1 to i comes after this place
pub reverse_skip : (mask i left rest r k n : ℕ) → i < n → rest < choose i left
    → IsReverseBegun mask (suc i) left rest r k n → IsReverseBegun mask i left rest r k n
reverse_skip mask i left rest r k n l few b = record {
  high = 2 * b.high;
  mask_is = b.mask_is ∙ rw (pow-succ' 2 i) (times_double b.high (2 ^ i));
  within = b.within;
  place = few;
  listed = b.listed ∙ ap (λ xs. xs ++ members b.high (suc i + 1) (n - suc i)) (reverse_front i left rest few)
      ∙ ap (λ xs. revlex_subset_at i left rest ++ xs) same;
}
  where
    same : members b.high (suc i + 1) (n - suc i) ≡ members (2 * b.high) (i + 1) (n - i)
    same =
        let s : n - i ≡ suc (n - suc i) = omega arith in
        let o : suc i + 1 ≡ i + 1 + 1 = omega arith in
        let low : 2 * b.high % 2 ≡ 0 = omega arith in
        let half : 2 * b.high / 2 ≡ b.high = omega arith in
        rw (s, low, half, o) refl

some_left : (i left rest : ℕ) → choose i left ≤ rest → rest < choose (suc i) left → 0 < left
some_left i zero rest a b = let c = choose_none i in absurd (omega arith)
some_left i (suc left) rest a b = omega arith

-- the sets without i + 1 come before this place
pub reverse_take : (mask i left rest r k n : ℕ) → i < n → n < 32 → choose i left ≤ rest
    → IsReverseBegun mask (suc i) left rest r k n
    → IsReverseBegun (bit_or mask (1 * 2 ^ i % 4294967296)) i (left - 1) (rest - choose i left) r k n
reverse_take mask i zero rest r k n l h ge b = let s = some_left i zero rest ge b.place in absurd (omega arith)
reverse_take mask i (suc left) rest r k n l h ge b = let o : suc left - 1 ≡ left = omega arith in
    rw (one_shl i 32 (omega arith), o) (record {
      high = 1 + 2 * b.high;
      mask_is = whole;
      within = or_lt n mask (2 ^ i) b.within (pow-lt l);
      place = few;
      listed = b.listed ∙ ap (λ xs. xs ++ members b.high (suc i + 1) (n - suc i)) back
          ∙ append_assoc (revlex_subset_at i left (rest - choose i (suc left))) (suc i ∷ [])
          (members b.high (suc i + 1) (n - suc i))
          ∙ ap (λ xs. revlex_subset_at i left (rest - choose i (suc left)) ++ xs) same;
    })
  where
    few : rest - choose i (suc left) < choose i left
    few = let p = b.place in omega arith

    whole : bit_or mask (2 ^ i) ≡ (1 + 2 * b.high) * 2 ^ i
    whole =
        let d = pow-succ' 2 i in
        let p = pow_pos i in
        let less : 2 ^ i < 2 ^ suc i = omega arith in
        ap (λ m. bit_or m (2 ^ i)) b.mask_is ∙ or_shifted b.high (suc i) (2 ^ i) less ∙ rw d (omega arith)

    back : revlex_subset_at (suc i) (suc left) rest ≡ revlex_subset_at i left (rest - choose i (suc left)) ++ suc i ∷ []
    back =
        let e : choose i (suc left) + (rest - choose i (suc left)) ≡ rest = omega arith in
        ap (revlex_subset_at (suc i) (suc left)) (sym e) ∙ reverse_back i left (rest - choose i (suc left)) few

    same : suc i ∷ members b.high (suc i + 1) (n - suc i) ≡ members (1 + 2 * b.high) (i + 1) (n - i)
    same =
        let s : n - i ≡ suc (n - suc i) = omega arith in
        let o : suc i + 1 ≡ i + 1 + 1 = omega arith in
        let f : suc i ≡ i + 1 = omega arith in
        let low : (1 + 2 * b.high) % 2 ≡ 1 = omega arith in
        let half : (1 + 2 * b.high) / 2 ≡ b.high = omega arith in
        rw (s, low, half, o) (ap (λ j. j ∷ members b.high (i + 1 + 1) (n - suc i)) f)

none_left : (left rest : ℕ) → rest < choose zero left → revlex_subset_at 0 left rest ≡ []
none_left zero zero l = refl
none_left zero (suc rest) l = absurd (omega arith)
none_left (suc left) rest l = absurd (omega arith)

pub reverse_end : (mask left rest r k n : ℕ) → IsReverseBegun mask 0 left rest r k n
    → members mask 1 n ≡ revlex_subset_at n r k
reverse_end mask left rest r k n b =
    let one : mask ≡ b.high = b.mask_is ∙ omega arith in
    let z : n - 0 ≡ n = omega arith in
    let o : 0 + 1 ≡ 1 = omega arith in
    sym (b.listed ∙ ap (λ xs. xs ++ members b.high (0 + 1) (n - 0)) (none_left left rest b.place) ∙ rw (z, o, one) refl)
