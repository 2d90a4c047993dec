-- What the operations on the masks of one or two vectors tell: support, separation, orthogonality and conformity.
--
-- Main results: support_made, separation_made, orthogonal_test, conforms_test
-- Reference: Björner, Las Vergnas, Sturmfels, White and Ziegler, Oriented Matroids, chapter 3.
use Rattle.std.proofs.Common.{ℕ, ◌≡◌, ◌≢◌, ◌-◌, ◌<◌, ◌≤◌, ◌↔◌, min, max, refl, sym, ◌∙◌, ap, arith, bit_and, bit_or}
use Rattle.std.proofs.Common.{inl, inr, List, length, nat_eq, IsTrue}
use Rattle.std.specs.Int.{bit_at}
use Rattle.std.proofs.lemmas.Bool.{cases_eq, eq-eqb, eqb-true}
use Rattle.std.proofs.lemmas.Nat.Bits.{bit_at-zero, bit_at_and, bit_at_or, same_from_bits}
use Rattle.std.proofs.lemmas.Bool.{ne_eqb}
use Rattle.std.specs.Bool.{beq}
use Rattle.std.proofs.lemmas.Nat.{and_le_l}
use Rattle.om_signs.specs.declared.sign.Sign.{Sign}
use Rattle.om_signs.specs.declared.sign.Sign.TheVariants.{Minus, Zero, Plus}
use Rattle.om_signs.specs.Sign.{product, is_plus, is_minus}
use Rattle.om_signs.specs.SignVec.{at, HasProduct, IsOrthogonal, IsConformal, IsInSupport, IsSeparated, IsMaskOf}
use Rattle.om_signs.specs.Masks.{signs_of, AreSignMasks}
use Rattle.om_signs.proofs.Bits.{bit_at_and_not, some_bit, nonzero_from_bit}
use Rattle.std.proofs.lemmas.Nat.{or_lt}
use Rattle.om_signs.proofs.Views.{Shows, length_is, shows, fits_32, from_plus_bit, from_minus_bit}

same_plus : (s t : Sign) → max (min (is_plus s) (is_plus t)) (min (is_minus s) (is_minus t)) ≡ is_plus (product s t)
same_plus Minus Minus = refl
same_plus Minus Zero = refl
same_plus Minus Plus = refl
same_plus Zero Minus = refl
same_plus Zero Zero = refl
same_plus Zero Plus = refl
same_plus Plus Minus = refl
same_plus Plus Zero = refl
same_plus Plus Plus = refl

apart_minus : (s t : Sign) → max (min (is_plus s) (is_minus t)) (min (is_minus s) (is_plus t)) ≡ is_minus (product s t)
apart_minus Minus Minus = refl
apart_minus Minus Zero = refl
apart_minus Minus Plus = refl
apart_minus Zero Minus = refl
apart_minus Zero Zero = refl
apart_minus Zero Plus = refl
apart_minus Plus Minus = refl
apart_minus Plus Zero = refl
apart_minus Plus Plus = refl

-- the two masks of `orthogonal`, which have the places of plus and of minus products
pub bit_same : (p m p' m' : ℕ) (xs ys : List Sign) → Shows p m xs → Shows p' m' ys → (i : ℕ)
    → bit_at (bit_or (bit_and p p') (bit_and m m')) i ≡ is_plus (product (at xs i) (at ys i))
bit_same p m p' m' xs ys f f' i =
    rw (bit_at_or, bit_at_and p p' i, bit_at_and m m' i, (f i).0, (f i).1, (f' i).0, (f' i).1)
    (same_plus (at xs i) (at ys i))

pub bit_apart : (p m p' m' : ℕ) (xs ys : List Sign) → Shows p m xs → Shows p' m' ys → (i : ℕ)
    → bit_at (bit_or (bit_and p m') (bit_and m p')) i ≡ is_minus (product (at xs i) (at ys i))
bit_apart p m p' m' xs ys f f' i =
    rw (bit_at_or, bit_at_and p m' i, bit_at_and m p' i, (f i).0, (f i).1, (f' i).0, (f' i).1)
    (apart_minus (at xs i) (at ys i))

-- a mask whose bits are those of a test of the products
pub separation_made : (p m n p' m' n' : ℕ) (xs ys : List Sign) → AreSignMasks p m n → signs_of p m n ≡ xs
    → AreSignMasks p' m' n'
    → signs_of p' m' n' ≡ ys → length xs ≡ length ys
    → IsMaskOf (length xs) (IsSeparated xs ys) (bit_or (bit_and p m') (bit_and m p'))
separation_made p m n p' m' n' xs ys h v h' v' same =
    let f = shows p m n xs h v in
    let f' = shows p' m' n' ys h' v' in
    record {
      within = rw (length_is p m n xs v) (or_lt n (bit_and p m') (bit_and m p')
          (let a = and_le_l p m' in let b = h.plus_within in omega arith)
          (let a = and_le_l m p' in let b = h.minus_within in omega arith));
      holds = λ i lt. (
        λ one. from_minus_bit _ (sym (bit_apart p m p' m' xs ys f f' i) ∙ one),
        λ e. bit_apart p m p' m' xs ys f f' i ∙ ap is_minus e,
      );
    }

support_bit : (s : Sign) → (max (is_plus s) (is_minus s) ≡ 1) ↔ (s ≢ Zero)
support_bit Minus = (λ _ e. cc, λ _. refl)
support_bit Zero = (λ e. cc, λ n. absurd (n refl))
support_bit Plus = (λ _ e. cc, λ _. refl)

pub support_made : (p m n : ℕ) (xs : List Sign) → AreSignMasks p m n → signs_of p m n ≡ xs
    → IsMaskOf (length xs) (IsInSupport xs) (bit_or p m)
support_made p m n xs h v =
    let f = shows p m n xs h v in
    record {
      within = rw (length_is p m n xs v) (or_lt n p m h.plus_within h.minus_within);
      holds = λ i lt. rw (bit_at_or p m i, (f i).0, (f i).1) (support_bit (at xs i));
    }

-- the test that `orthogonal` makes of its two masks
pub orthogonal_test : (p m n p' m' n' : ℕ) (xs ys : List Sign) → AreSignMasks p m n → signs_of p m n ≡ xs
    → AreSignMasks p' m' n'
    → signs_of p' m' n' ≡ ys
    → IsTrue (beq (nat_eq (bit_or (bit_and p p') (bit_and m m')) 0) (nat_eq (bit_or (bit_and p m') (bit_and m p')) 0))
    ↔ IsOrthogonal xs ys
orthogonal_test p m n p' m' n' xs ys h v h' v' =
    let f = shows p m n xs h v in
    let f' = shows p' m' n' ys h' v' in
    let fp = fits_32 p n h.high h.plus_within in
    let fm = fits_32 m n h.high h.minus_within in
    test_iff _ _ (HasProduct xs ys Plus) (HasProduct xs ys Minus)
    (λ z. let (i, one) = some_bit _ z (or_lt 32 _ _ (le_lt (and_le_l p p') fp) (le_lt (and_le_l m m') fm)) in
    (i, from_plus_bit _ (sym (bit_same p m p' m' xs ys f f' i) ∙ one)))
    (λ w. nonzero_from_bit _ w.0 (bit_same p m p' m' xs ys f f' w.0 ∙ ap is_plus w.1))
    (λ z. let (i, one) = some_bit _ z (or_lt 32 _ _ (le_lt (and_le_l p m') fp) (le_lt (and_le_l m p') fm)) in
    (i, from_minus_bit _ (sym (bit_apart p m p' m' xs ys f f' i) ∙ one)))
    (λ w. nonzero_from_bit _ w.0 (bit_apart p m p' m' xs ys f f' w.0 ∙ ap is_minus w.1))
  where
    le_lt : {a b c : ℕ} → a ≤ b → b < c → a < c
    le_lt u w = omega arith

    test_iff : (s t : ℕ) (P Q : Type 0) → (s ≢ 0 → P) → (P → s ≢ 0) → (t ≢ 0 → Q) → (Q → t ≢ 0)
        → IsTrue (beq (nat_eq s 0) (nat_eq t 0)) ↔ (P ↔ Q)
    test_iff s t P Q sp ps tq qt = elim (cases_eq s 0) [
      | inl s0 ↦ elim (cases_eq t 0) [
        | inl t0 ↦ rw (s0, t0) (λ _. (λ w. absurd (ps w s0), λ w. absurd (qt w t0)), λ _. refl)
        | inr t1 ↦ rw (s0, ne_eqb t 0 t1) (λ e. cc, λ w. absurd (ps (w.1 (tq t1)) s0))
      ]
      | inr s1 ↦ elim (cases_eq t 0) [
        | inl t0 ↦ rw (ne_eqb s 0 s1, t0) (λ e. cc, λ w. absurd (qt (w.0 (sp s1)) t0))
        | inr t1 ↦ rw (ne_eqb s 0 s1, ne_eqb t 0 t1) (λ _. (λ _. tq t1, λ _. sp s1), λ _. refl)
      ]
    ]

-- the test that `conforms` makes
outside : (s t : Sign) → (max (min (is_plus s) (1 - is_plus t)) (min (is_minus s) (1 - is_minus t)) ≡ 0)
    ↔ (s ≢ Zero → s ≡ t)
outside Minus Minus = (λ _ _. refl, λ _. refl)
outside Minus Zero = (λ e. cc, λ h. cc (h (λ e. cc)))
outside Minus Plus = (λ e. cc, λ h. cc (h (λ e. cc)))
outside Zero t = (λ _ n. absurd (n refl), λ _. omega arith)
outside Plus Minus = (λ e. cc, λ h. cc (h (λ e. cc)))
outside Plus Zero = (λ e. cc, λ h. cc (h (λ e. cc)))
outside Plus Plus = (λ _ _. refl, λ _. refl)

pub conforms_test : (p m n p' m' n' : ℕ) (xs ys : List Sign) → AreSignMasks p m n → signs_of p m n ≡ xs
    → AreSignMasks p' m' n'
    → signs_of p' m' n' ≡ ys → IsTrue (nat_eq (bit_or (bit_and p (4294967295 - p')) (bit_and m (4294967295 - m'))) 0)
    ↔ IsConformal xs ys
conforms_test p m n p' m' n' xs ys h v h' v' = (
  λ t i. (outside (at xs i) (at ys i)).0 (sym (bit i) ∙ ap (λ k. bit_at k i) (eqb-true _ 0 t) ∙ bit_at-zero i),
  λ c. eq-eqb _ 0 (same_from_bits _ 0 (λ i. bit i ∙ (outside (at xs i) (at ys i)).1 (c i) ∙ sym (bit_at-zero i))),
)
  where
    bit : (i : ℕ) → bit_at (bit_or (bit_and p (4294967295 - p')) (bit_and m (4294967295 - m'))) i
        ≡ max (min (is_plus (at xs i)) (1 - is_plus (at ys i))) (min (is_minus (at xs i)) (1 - is_minus (at ys i)))
    bit i =
        let f = shows p m n xs h v i in
        let f' = shows p' m' n' ys h' v' i in
        let fp = fits_32 p n h.high h.plus_within in
        let fm = fits_32 m n h.high h.minus_within in
        let fp' = fits_32 p' n' h'.high h'.plus_within in
        let fm' = fits_32 m' n' h'.high h'.minus_within in
        rw (bit_at_or, bit_at_and_not p p' i fp fp', bit_at_and_not m m' i fm fm', f.0, f.1, f'.0, f'.1) refl
