-- Marks of sets as bits of words, spread from each set to the set with one element more.
--
-- Main definitions: AreSpreadBelow, IsSpreadBelow
-- Main results: spread_word, spread_within, spread_on, spread_off, spread_over, mark_more, mark_others
use Rattle.std.specs.Prelude.{ℕ, ◌≡◌, ◌≢◌, ◌+◌, ◌-◌, ◌*◌, ◌/◌, ◌%◌, ◌<◌, ◌≤◌, ◌^◌, ◌⊎◌, List, length, bit_or}
use Rattle.std.specs.Int.{bit_at}
use Rattle.std.proofs.Common.{sym, ◌∙◌, ap, arith, inl, inr, subst, get_or, set, w64}
use Rattle.std.proofs.lemmas.Bool.{cases_eq, cases_lt}
use Rattle.std.proofs.lemmas.List.{get_or-set_same, get_or-set_other, get_or_past, length-set}
use Rattle.std.proofs.lemmas.Nat.{shr-shr}
use Rattle.std.proofs.Math.Pow.{pow_pos}
use Rattle.std.proofs.lemmas.Nat.Bits.{bit_at-lt, bit_at-zero, bit_at_or, bit_at_cat_low, bit_at_set_same}
use Rattle.std.proofs.lemmas.Nat.Bits.{bit_at_set_other}
use Rattle.om_signs.proofs.Bits.{not_zero_and_one, bit_one_or_zero, pow-add_one}
use Rattle.om_chirotope.specs.Marks.{mark_at, IsMarked, IsSpreadFrom, IsSpread, IsWordSpread}
use Rattle.om_chirotope.proofs.WordBits.{add_bit_same, take_bit, stays_within}

-- ---- over words

past : (words : List ℕ) (i p : ℕ) → length words ≤ i → bit_at (get_or words i 0) p ≡ 1 → ⊥
past words i p g h =
    not_zero_and_one (bit_at (get_or words i 0) p) (ap (λ w. bit_at w p) (get_or_past words i 0 g) ∙ bit_at-zero p) h

-- a bit of a mask below the sixth is one of the place in its word
place_bit : (s e : ℕ) → e < 6 → bit_at (s % 64) e ≡ bit_at s e
place_bit s e l =
    let w : s / 64 * 2 ^ 6 + s % 64 ≡ s = omega arith in
    sym (bit_at_cat_low (s / 64) 6 (s % 64) e l) ∙ ap (λ k. bit_at k e) w

-- the words below a place are spread, and the others are as they were
pub record AreSpreadBelow (words words' : List ℕ) (e k : ℕ) : Type 0 where
  pub size : length words' ≡ length words
  pub done : (i : ℕ) → i < k → IsWordSpread (get_or words i 0) (get_or words' i 0) e
  pub rest : (i : ℕ) → k ≤ i → get_or words' i 0 ≡ get_or words i 0

-- one word more is spread
pub spread_word : {words words' : List ℕ} {e k w : ℕ} → AreSpreadBelow words words' e k → k < length words
    → IsWordSpread (get_or words' k 0) w e → AreSpreadBelow words (set words' k w) e (k + 1)
spread_word {words} {words'} {e} {k} {w} h l spread =
    let size = h.size in
    let here : get_or (set words' k w) k 0 ≡ w = get_or-set_same words' k w 0 (omega (arith, l, size)) in
    record {
      size = length-set words' k w ∙ size;
      done = λ i below.
          elim (cases_lt i k) [
            | inl before ↦
                subst (λ x. IsWordSpread (get_or words i 0) x e) (sym (get_or-set_other words' k i w 0 (omega arith)))
                (h.done i before)
            | inr ge ↦
                let same : k ≡ i = omega (arith, below, ge) in
                subst (λ j. IsWordSpread (get_or words j 0) (get_or (set words' k w) j 0) e) same
                (subst (λ x. IsWordSpread (get_or words k 0) x e) (sym here)
                (subst (λ x. IsWordSpread x w e) (h.rest k (omega arith)) spread))
          ];
      rest = λ i g. get_or-set_other words' k i w 0 (omega arith) ∙ h.rest i (omega arith);
    }

pub spread_within : (words words' : List ℕ) (e : ℕ) → e < 6 → length words' ≡ length words
    → ((i : ℕ) → i < length words → IsWordSpread (get_or words i 0) (get_or words' i 0) e) → IsSpread words words' e
spread_within words words' e le len each = record { size = len; keeps = keeps; adds = adds; only = only }
  where
    keeps : (s : ℕ) → IsMarked words s → IsMarked words' s
    keeps s h = elim (cases_lt (s / 64) (length words)) [
      | inl l ↦ (each (s / 64) l).keeps (s % 64) h
      | inr g ↦ absurd (past words (s / 64) (s % 64) g h)
    ]

    adds : (t : ℕ) → bit_at t e ≡ 0 → t + 2 ^ e < 64 * length words → IsMarked words t → IsMarked words' (t + 2 ^ e)
    adds t z l h =
        let zp : bit_at (t % 64) e ≡ 0 = place_bit t e le ∙ z in
        let room = stays_within e (t % 64) le (omega arith) zp in
        let div : (t + 2 ^ e) / 64 ≡ t / 64 = omega arith in
        let rem : (t + 2 ^ e) % 64 ≡ t % 64 + 2 ^ e = omega arith in
        ap (λ i. bit_at (get_or words' i 0) ((t + 2 ^ e) % 64)) div ∙ ap (bit_at (get_or words' (t / 64) 0)) rem
        ∙ (each (t / 64) (omega arith)).adds (t % 64) (omega arith) zp h

    only : (s : ℕ) → IsMarked words' s → IsMarked words s ⊎ IsSpreadFrom words s e
    only s h = elim (cases_lt (s / 64) (length words)) [
      | inl l ↦ back s ((each (s / 64) l).only (s % 64) (omega arith) h)
      | inr g ↦ absurd (past words' (s / 64) (s % 64) (omega arith) h)
    ]
      where
        back : (s : ℕ) → (bit_at (get_or words (s / 64) 0) (s % 64) ≡ 1)
            ⊎ ((q : ℕ) × (q + 2 ^ e ≡ s % 64) × (bit_at q e ≡ 0) × (bit_at (get_or words (s / 64) 0) q ≡ 1))
            → IsMarked words s ⊎ IsSpreadFrom words s e
        back s (inl k) = inl k
        back s (inr (q, sum, z, on)) =
            let div : (64 * (s / 64) + q) / 64 ≡ s / 64 = omega arith in
            let rem : (64 * (s / 64) + q) % 64 ≡ q = omega arith in
            inr (
              64 * (s / 64) + q,
              omega arith,
              sym (place_bit (64 * (s / 64) + q) e le) ∙ ap (λ k. bit_at k e) rem
                  ∙ z,
              ap (λ i. bit_at (get_or words i 0) ((64 * (s / 64) + q) % 64)) div
                  ∙ ap (bit_at (get_or words (s / 64) 0)) rem ∙ on,
            )

-- the first k words have what lies below them by 2 ^ d too, where their number has bit d
pub record IsSpreadBelow (words words' : List ℕ) (d k : ℕ) : Type 0 where
  pub size : length words' ≡ length words
  pub on : (i : ℕ) → i < k → bit_at i d ≡ 1 → get_or words' i 0 ≡ bit_or (get_or words i 0) (get_or words (i - 2 ^ d) 0)
  pub off : (i : ℕ) → i < k → bit_at i d ≡ 0 → get_or words' i 0 ≡ get_or words i 0
  pub rest : (i : ℕ) → k ≤ i → get_or words' i 0 ≡ get_or words i 0

pub spread_on : (words words' : List ℕ) (d k : ℕ) → k < length words' → bit_at k d ≡ 1 → IsSpreadBelow words words' d k
    → IsSpreadBelow words (set words' k (bit_or (get_or words' k 0) (get_or words' (k - 2 ^ d) 0))) d (k + 1)
spread_on words words' d k l one h =
    record {
      size = length-set _ _ _ ∙ h.size;
      on = on;
      off = off;
      rest =
          λ i g. get_or-set_other words' k i _ 0 (omega arith) ∙ h.rest i (omega arith);
    }
  where
    here : get_or (set words' k (bit_or (get_or words' k 0) (get_or words' (k - 2 ^ d) 0))) k 0
        ≡ bit_or (get_or words k 0) (get_or words (k - 2 ^ d) 0)
    here =
        let t = take_bit k d one in
        let le = t.0 in
        let p = pow_pos d in
        get_or-set_same words' k _ 0 l ∙ ap (λ w. bit_or w (get_or words' (k - 2 ^ d) 0)) (h.rest k (omega arith))
        ∙ ap (bit_or (get_or words k 0)) (h.off (k - 2 ^ d) (omega (arith, le, p)) t.1)

    on : (i : ℕ) → i < k + 1 → bit_at i d ≡ 1
        → get_or (set words' k (bit_or (get_or words' k 0) (get_or words' (k - 2 ^ d) 0))) i 0
        ≡ bit_or (get_or words i 0) (get_or words (i - 2 ^ d) 0)
    on i li b = elim (cases_eq i k) [
      | inl q ↦
          subst (λ j. get_or (set words' k (bit_or (get_or words' k 0) (get_or words' (k - 2 ^ d) 0))) j 0
          ≡ bit_or (get_or words j 0) (get_or words (j - 2 ^ d) 0)) (sym q) here
      | inr n ↦ get_or-set_other words' k i _ 0 n ∙ h.on i (omega arith) b
    ]

    off : (i : ℕ) → i < k + 1 → bit_at i d ≡ 0
        → get_or (set words' k (bit_or (get_or words' k 0) (get_or words' (k - 2 ^ d) 0))) i 0 ≡ get_or words i 0
    off i li z = elim (cases_eq i k) [
      | inl q ↦ absurd (not_zero_and_one (bit_at i d) z (ap (λ j. bit_at j d) q ∙ one))
      | inr n ↦ get_or-set_other words' k i _ 0 n ∙ h.off i (omega arith) z
    ]

pub spread_off : (words words' : List ℕ) (d k : ℕ) → (bit_at k d ≡ 1 → ⊥) → IsSpreadBelow words words' d k
    → IsSpreadBelow words words' d (k + 1)
spread_off words words' d k apart h = record {
  size = h.size;
  on = λ i l b. elim (cases_eq i k) [
    | inl q ↦ absurd (apart (sym (ap (λ j. bit_at j d) q) ∙ b))
    | inr n ↦
        h.on i (omega arith) b
  ];
  off = λ i l z. elim (cases_eq i k) [ inl q ↦ h.rest i (omega arith) | inr n ↦ h.off i (omega arith) z ];
  rest = λ i l. h.rest i (omega arith);
}

-- a bit of a mask from the sixth on is one of the number of its word
word_bit : (s d : ℕ) → bit_at (s / 64) d ≡ bit_at s (d + 6)
word_bit s d = let q : 6 + d ≡ d + 6 = omega arith in ap (λ x. x % 2) (shr-shr s 6 d) ∙ ap (bit_at s) q

pub spread_over : (words words' : List ℕ) (d e : ℕ) → d + 6 ≡ e → IsSpreadBelow words words' d (length words)
    → IsSpread words words' e
spread_over words words' d e q h =
    subst (IsSpread words words') q (record { size = h.size; keeps = keeps; adds = adds; only = only })
  where
    step : 2 ^ (d + 6) ≡ 64 * 2 ^ d
    step = times (d + 5) (d + 6) (omega arith)
        ∙ omega (
          arith,
          times (d + 4) (d + 5) (omega arith),
          times (d + 3) (d + 4) (omega arith),
          times (d + 2) (d + 3) (omega arith),
          times (d + 1) (d + 2) (omega arith),
          times d (d + 1) (omega arith),
        )
      where
        times : (j i : ℕ) → i ≡ j + 1 → 2 ^ i ≡ 2 * 2 ^ j
        times j i q = ap (λ k. 2 ^ k) q ∙ pow-add_one j

    keeps : (s : ℕ) → IsMarked words s → IsMarked words' s
    keeps s m = elim (cases_lt (s / 64) (length words)) [
      | inl l ↦ elim (bit_one_or_zero (s / 64) d) [
        | inl one ↦
            let o = bit_at_or (get_or words (s / 64) 0) (get_or words (s / 64 - 2 ^ d) 0) (s % 64) in
            let b = bit_at-lt (get_or words (s / 64 - 2 ^ d) 0) (s % 64) in
            ap (λ w. bit_at w (s % 64)) (h.on (s / 64) l one) ∙ omega (arith, o, b, m)
        | inr z ↦ ap (λ w. bit_at w (s % 64)) (h.off (s / 64) l z) ∙ m
      ]
      | inr g ↦ absurd (past words (s / 64) (s % 64) g m)
    ]

    adds : (t : ℕ) → bit_at t (d + 6) ≡ 0 → t + 2 ^ (d + 6) < 64 * length words → IsMarked words t
        → IsMarked words' (t + 2 ^ (d + 6))
    adds t z l m =
        let st = step in
        let zw : bit_at (t / 64) d ≡ 0 = word_bit t d ∙ z in
        let div : (t + 2 ^ (d + 6)) / 64 ≡ t / 64 + 2 ^ d = omega arith in
        let rem : (t + 2 ^ (d + 6)) % 64 ≡ t % 64 = omega arith in
        let back : t / 64 + 2 ^ d - 2 ^ d ≡ t / 64 = omega arith in
        let within : t / 64 + 2 ^ d < length words = omega arith in
        let o = bit_at_or (get_or words (t / 64 + 2 ^ d) 0) (get_or words (t / 64) 0) (t % 64) in
        let b = bit_at-lt (get_or words (t / 64 + 2 ^ d) 0) (t % 64) in
        ap (λ i. bit_at (get_or words' i 0) ((t + 2 ^ (d + 6)) % 64)) div
        ∙ ap (bit_at (get_or words' (t / 64 + 2 ^ d) 0)) rem
        ∙ ap (λ w. bit_at w (t % 64)) (h.on (t / 64 + 2 ^ d) within (add_bit_same (t / 64) d zw))
        ∙ ap (λ i. bit_at (bit_or (get_or words (t / 64 + 2 ^ d) 0) (get_or words i 0)) (t % 64)) back
        ∙ omega (arith, o, b, m)

    only : (s : ℕ) → IsMarked words' s → IsMarked words s ⊎ IsSpreadFrom words s (d + 6)
    only s m = elim (cases_lt (s / 64) (length words)) [
      | inl l ↦ elim (bit_one_or_zero (s / 64) d) [
        | inl one ↦ elim (bit_one_or_zero (get_or words (s / 64) 0) (s % 64)) [
          | inl here ↦ inl here
          | inr none ↦
              let st = step in
              let t = take_bit (s / 64) d one in
              let le = t.0 in
              let o = bit_at_or (get_or words (s / 64) 0) (get_or words (s / 64 - 2 ^ d) 0) (s % 64) in
              let both : bit_at (bit_or (get_or words (s / 64) 0) (get_or words (s / 64 - 2 ^ d) 0)) (s % 64) ≡ 1 =
              sym (ap (λ w. bit_at w (s % 64)) (h.on (s / 64) l one)) ∙ m in
              let low : bit_at (get_or words (s / 64 - 2 ^ d) 0) (s % 64) ≡ 1 = omega (arith, o, both, none) in
              let sum : s - 64 * 2 ^ d + 2 ^ (d + 6) ≡ s = omega (arith, st, le) in
              let div : (s - 64 * 2 ^ d) / 64 ≡ s / 64 - 2 ^ d = omega (arith, le) in
              let rem : (s - 64 * 2 ^ d) % 64 ≡ s % 64 = omega (arith, le) in
              inr (
                s - 64 * 2 ^ d,
                sum,
                sym (word_bit (s - 64 * 2 ^ d) d) ∙ ap (λ i. bit_at i d) div ∙ t.1,
                ap (λ i. bit_at (get_or words i 0) ((s - 64 * 2 ^ d) % 64)) div
                    ∙ ap (bit_at (get_or words (s / 64 - 2 ^ d) 0)) rem ∙ low,
              )
        ]
        | inr z ↦ inl (sym (ap (λ w. bit_at w (s % 64)) (h.off (s / 64) l z)) ∙ m)
      ]
      | inr g ↦ let n = h.size in absurd (past words' (s / 64) (s % 64) (omega (arith, g, n)) m)
    ]

-- ---- a mark more

pub mark_more : (words : List ℕ) (s : ℕ) → s / 64 < length words
    → IsMarked (set words (s / 64) (bit_or (get_or words (s / 64) 0) (1 * 2 ^ (s % 64) % 18446744073709551616))) s
mark_more words s l = ap (λ w. bit_at w (s % 64)) (get_or-set_same words (s / 64) _ 0 l)
    ∙ bit_at_set_same w64 (get_or words (s / 64) 0) (s % 64) (omega arith)

pub mark_others : (words : List ℕ) (s j : ℕ) → s / 64 < length words → j ≢ s
    → mark_at (set words (s / 64) (bit_or (get_or words (s / 64) 0) (1 * 2 ^ (s % 64) % 18446744073709551616))) j
    ≡ mark_at words j
mark_others words s j l n = elim (cases_eq (j / 64) (s / 64)) [
  | inl q ↦
      let apart : j % 64 ≢ s % 64 = (λ e. n (omega arith)) in
      ap (λ i. bit_at
      (get_or (set words (s / 64) (bit_or (get_or words (s / 64) 0) (1 * 2 ^ (s % 64) % 18446744073709551616))) i 0)
      (j % 64)) q ∙ ap (λ w. bit_at w (j % 64)) (get_or-set_same words (s / 64) _ 0 l)
      ∙ bit_at_set_other w64 (get_or words (s / 64) 0) (s % 64) (omega arith) (j % 64) apart
      ∙ ap (λ i. bit_at (get_or words i 0) (j % 64)) (sym q)
  | inr ne ↦ ap (λ w. bit_at w (j % 64)) (get_or-set_other words (s / 64) (j / 64) _ 0 ne)
]
