-- The orders in which the wires of a sweep cross each other: crossed wires, the wires that a wire crosses next, and
-- three wires that one wire meets at once.
--
-- Main definitions: AreCrossed, CrossesNext, IsSweepState, Uncrossed, Crossed, Next
-- Main results: balanced_not_minus, zero_if_neither_minus
-- Reference: Björner, Las Vergnas, Sturmfels, White and Ziegler, Oriented Matroids, chapter 6.
use Rattle.std.specs.Prelude.{◌≡◌, ◌≢◌, ◌⊎◌, ℕ, ◌+◌, ◌-◌, ◌<◌, refl}
use Rattle.std.proofs.Common.{sym, ap, ◌∙◌, ⊎_elim, inl, inr, arith}
use Rattle.om_signs.specs.declared.sign.Sign.{Sign}
use Rattle.om_signs.specs.declared.sign.Sign.TheVariants.{Minus, Zero, Plus}
use Rattle.om_signs.specs.Sign.{opposite}
use Rattle.om_signs.proofs.SignLaws.{minus_or_not, zero_if_opposite, minus_if_opposite_plus}
use Rattle.om_laws.specs.Sorting.{IsElement}
use Rattle.om_laws.specs.ThreeTerm.{AreBalanced}
use Rattle.om_wiring.specs.Sweeps.{AreUncrossed}

pub plus_if_opposite_minus : (s t : Sign) → s ≡ opposite t → t ≡ Minus → s ≡ Plus
plus_if_opposite_minus s t e h = grind arith

pub balanced_not_minus : (bc bd cd : Sign) → AreBalanced bc (opposite bd) cd → bc ≢ Minus → cd ≢ Minus → bd ≢ Minus
balanced_not_minus bc bd cd b m n e = grind arith

strict_left : (bc bd cd : Sign) → AreBalanced bc (opposite bd) cd → bc ≡ Plus → cd ≢ Minus → bd ≡ Plus
strict_left bc bd cd b m n = grind arith

pub strict_right : (bc bd cd : Sign) → AreBalanced bc (opposite bd) cd → bc ≢ Minus → cd ≡ Plus → bd ≡ Plus
strict_right bc bd cd b m n = grind arith

pub zero_if_neither_minus : (s t : Sign) → t ≡ opposite s → s ≢ Minus → t ≢ Minus → s ≡ Zero
zero_if_neither_minus Minus t e h k = absurd (h refl)
zero_if_neither_minus Zero t e h k = refl
zero_if_neither_minus Plus t e h k = absurd (k e)

pub zero_or_plus : (s : Sign) → s ≢ Minus → (s ≡ Zero) ⊎ (s ≡ Plus)
zero_or_plus Minus h = absurd (h refl)
zero_or_plus Zero h = inl refl
zero_or_plus Plus h = inr refl

pub gap : (k l : ℕ) → k < l → (d : ℕ) × (k + 1 + d ≡ l)
gap k l h = (l - (k + 1), omega (arith, h))

pub below_or_above : (a b : ℕ) → a ≢ b → (a < b) ⊎ (b < a)
below_or_above a b n = grind (arith, n)

-- two wires that stand in the other order than that of their labels, where wire x stands at position pos x
abbrev pub AreCrossed : (ℕ → ℕ) → ℕ → ℕ → Type 0
AreCrossed pos x y = ((x < y) × (pos y < pos x)) ⊎ ((y < x) × (pos x < pos y))

-- b is among the wires that p crosses next: no wire that p has not crossed comes before it
abbrev pub CrossesNext : (ℕ → Type 0) → (ℕ → ℕ → ℕ → Sign) → (ℕ → ℕ) → ℕ → ℕ → Type 0
CrossesNext Wire ord pos p b = (c : ℕ) → Wire c → AreUncrossed pos p c → ord p b c ≢ Minus

-- a state of a sweep over the wires 1 to n: ord p b c says whether p meets b before c (plus), at once (zero) or after
-- (minus)
pub record IsSweepState (n : ℕ) (ord : ℕ → ℕ → ℕ → Sign) (pos : ℕ → ℕ) : Type 0 where
  pub alternating : (p b c : ℕ) → ord p c b ≡ opposite (ord p b c)
  pub balanced : (p b c d : ℕ) → IsElement n p → IsElement n b → IsElement n c → IsElement n d → b ≢ p → c ≢ p → d ≢ p
      → AreBalanced (ord p b c) (opposite (ord p b d)) (ord p c d)
  pub one : (a b c : ℕ) → IsElement n a → IsElement n b → IsElement n c → a < b → b < c → ord a b c ≡ ord b a c
  pub two : (a b c : ℕ) → IsElement n a → IsElement n b → IsElement n c → a < b → b < c → ord b a c ≡ ord c a b
  pub good : (p b c : ℕ) → IsElement n p → IsElement n b → IsElement n c → AreCrossed pos p c → b ≢ p → b ≢ c
      → ord p b c ≢ Minus → AreCrossed pos p b
  pub apart : (a b : ℕ) → pos a ≡ pos b → a ≡ b

-- ord p b c: whether p meets b before c (plus), at once (zero) or after (minus); pos: the position of a wire
module _ (Wire : ℕ → Type 0) (ord : ℕ → ℕ → ℕ → Sign) (pos : ℕ → ℕ)
    (alternating : (p b c : ℕ) → ord p c b ≡ opposite (ord p b c))
    (balanced : (p b c d : ℕ) → Wire p → Wire b → Wire c → Wire d → b ≢ p → c ≢ p → d ≢ p
    → AreBalanced (ord p b c) (opposite (ord p b d)) (ord p c d))
    (one : (a b c : ℕ) → Wire a → Wire b → Wire c → a < b → b < c → ord a b c ≡ ord b a c)
    (two : (a b c : ℕ) → Wire a → Wire b → Wire c → a < b → b < c → ord b a c ≡ ord c a b)
  where
    abbrev pub Uncrossed : ℕ → ℕ → Type 0
    Uncrossed = AreUncrossed pos

    abbrev pub Crossed : ℕ → ℕ → Type 0
    Crossed = AreCrossed pos

    pub not_crossed_and_uncrossed : (x y : ℕ) → Crossed x y → Uncrossed x y → ⊥
    not_crossed_and_uncrossed x y (inl c) (inl u) = let h = c.1 in let k = u.1 in omega (arith, h, k)
    not_crossed_and_uncrossed x y (inl c) (inr u) = let h = c.0 in let k = u.0 in omega (arith, h, k)
    not_crossed_and_uncrossed x y (inr c) (inl u) = let h = c.0 in let k = u.0 in omega (arith, h, k)
    not_crossed_and_uncrossed x y (inr c) (inr u) = let h = c.1 in let k = u.1 in omega (arith, h, k)

    pub partner_ne : (x y : ℕ) → Uncrossed x y → y ≢ x
    partner_ne x y (inl u) e = let h = u.0 in omega (arith, h, e)
    partner_ne x y (inr u) e = let h = u.0 in omega (arith, h, e)

    abbrev pub Next : ℕ → ℕ → Type 0
    Next = CrossesNext Wire ord pos

    module _ (good : (p b c : ℕ) → Wire p → Wire b → Wire c → Crossed p c → b ≢ p → b ≢ c → ord p b c ≢ Minus
        → Crossed p b) where
      pub later : (p b c : ℕ) → Wire p → Wire b → Wire c → Crossed p b → Uncrossed p c → c ≢ p → c ≢ b → ord p b c
          ≡ Plus
      later p b c ip ib ic k u n m =
          ⊎_elim
          (λ q. plus_if_opposite_minus (ord p b c) (ord p c b) (alternating p c b) q)
          (λ q. absurd (not_crossed_and_uncrossed p c (good p c b ip ic ib k n m q) u))
          (minus_or_not (ord p c b))

      pub below_ne : (a b : ℕ) → a < b → a ≢ b
      below_ne a b h e = omega (arith, h, e)

      pub above_ne : (a b : ℕ) → b < a → a ≢ b
      above_ne a b h e = omega (arith, h, e)

      -- three wires that each meet the next one first, in a circle on one wire
      pub circle : (p b c d : ℕ) → Wire p → Wire b → Wire c → Wire d → b ≢ p → c ≢ p → d ≢ p → ord p b c ≡ Plus
          → ord p c d ≢ Minus → ord p d b ≢ Minus → ⊥
      circle p b c d ip ib ic id nb nc nd h k l =
          l (minus_if_opposite_plus (ord p d b) (ord p b d) (alternating p b d)
          (strict_left (ord p b c) (ord p b d) (ord p c d) (balanced p b c d ip ib ic id nb nc nd) h k))

      -- on the middle and on the lower wire: the same sign; a < b < c
      pub from_mid : (a b c : ℕ) → Wire a → Wire b → Wire c → a < b → b < c → ord b a c ≢ Minus → ord a b c ≢ Minus
      from_mid a b c i0 i1 i2 h k n e = n (sym (one a b c i0 i1 i2 h k) ∙ e)

      -- w < x < z: x meets z before w or at once, then w meets z before x or at once
      pub from_mid' : (w x z : ℕ) → Wire w → Wire x → Wire z → w < x → x < z → ord x z w ≢ Minus → ord w z x ≢ Minus
      from_mid' w x z i0 i1 i2 h k n e =
          n (alternating x w z ∙ ap opposite (sym (one w x z i0 i1 i2 h k)) ∙ sym (alternating w x z) ∙ e)

      -- a < b < c: what c says of a and b, a says of b and c
      pub top_low : (a b c : ℕ) → Wire a → Wire b → Wire c → a < b → b < c → ord c a b ≡ ord a b c
      top_low a b c i0 i1 i2 h k = sym (one a b c i0 i1 i2 h k ∙ two a b c i0 i1 i2 h k)

      -- three wires that one wire meets at once meet at once on the others: by the order of the labels
      zero_in_order : (a b c : ℕ) → Wire a → Wire b → Wire c → a < b → b < c → (ord a b c ≡ Zero)
          ⊎ ((ord b a c ≡ Zero) ⊎ (ord c a b ≡ Zero)) → (ord a b c ≡ Zero) × (ord b a c ≡ Zero) × (ord c a b ≡ Zero)
      zero_in_order a b c ia ib ic h k (inl z) = let y = sym (one a b c ia ib ic h k) ∙ z in
          (z, y, sym (two a b c ia ib ic h k) ∙ y)
      zero_in_order a b c ia ib ic h k (inr (inl z)) = (one a b c ia ib ic h k ∙ z, z, sym (two a b c ia ib ic h k) ∙ z)
      zero_in_order a b c ia ib ic h k (inr (inr z)) = let y = two a b c ia ib ic h k ∙ z in
          (one a b c ia ib ic h k ∙ y, y, z)

      pub flip : (p b c : ℕ) → ord p b c ≡ Zero → ord p c b ≡ Zero
      flip p b c z = zero_if_opposite (ord p c b) (ord p b c) (alternating p b c) z

      pub zero_triple : (a b c : ℕ) → Wire a → Wire b → Wire c → a ≢ b → a ≢ c → b ≢ c → ord a b c ≡ Zero → ord b a c
          ≡ Zero
      zero_triple a b c ia ib ic nab nac nbc z =
          ⊎_elim
          (λ ab. ⊎_elim
          (λ bc. (zero_in_order a b c ia ib ic ab bc (inl z)).1)
          (λ cb. ⊎_elim
          (λ ac. (zero_in_order a c b ia ic ib ac cb (inl (flip a b c z))).2)
          (λ ca. flip b c a ((zero_in_order c a b ic ia ib ca ab (inr (inl (flip a b c z)))).2))
          (below_or_above a c nac))
          (below_or_above b c nbc))
          (λ ba. ⊎_elim
          (λ bc. ⊎_elim
          (λ ac. (zero_in_order b a c ib ia ic ba ac (inr (inl z))).0)
          (λ ca. flip b c a ((zero_in_order b c a ib ic ia bc ca (inr (inr z))).0))
          (below_or_above a c nac))
          (λ cb. flip b c a ((zero_in_order c b a ic ib ia cb ba (inr (inr (flip a b c z)))).1))
          (below_or_above b c nbc))
          (below_or_above a b nab)

      pub uncrossed_sym : (x y : ℕ) → Uncrossed x y → Uncrossed y x
      uncrossed_sym x y (inl u) = inr u
      uncrossed_sym x y (inr u) = inl u

      pub crossed_or_not : (x y : ℕ) → x ≢ y → pos x ≢ pos y → Crossed x y ⊎ Uncrossed x y
      crossed_or_not x y n m =
          ⊎_elim
          (λ h. ⊎_elim (λ k. inr (inl (h, k))) (λ k. inl (inl (h, k))) (below_or_above (pos x) (pos y) m))
          (λ h. ⊎_elim (λ k. inl (inr (h, k))) (λ k. inr (inr (h, k))) (below_or_above (pos x) (pos y) m))
          (below_or_above x y n)
