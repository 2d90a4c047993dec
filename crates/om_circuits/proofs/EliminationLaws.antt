-- The masks of an elimination.
--
-- Main results: opposed_bit, opposed_if_tested, tested_if_opposed, none_opposed: the places where two vectors are
-- opposed; eliminates_within, has_within_eliminator: a vector eliminates an element exactly where it lies within the
-- masks of the code.
use Rattle.std.proofs.Common.{ℕ, ◌≡◌, ◌≢◌, ◌+◌, ◌-◌, ◌*◌, ◌%◌, ◌<◌, ◌^◌, ◌↔◌, ◌⊎◌, List, length, bit_and, bit_or, min}
use Rattle.std.proofs.Common.{max, refl, sym, ◌∙◌, ap, subst, arith, inl, inr}
use Rattle.std.specs.Int.{bit_at}
use Rattle.std.proofs.lemmas.Nat.Bits.{bit_at-lt, bit_at_or, bit_at_and, bit_at-pow_same, bit_at-pow_other}
use Rattle.std.proofs.Math.Pow.{pow-lt}
use Rattle.std.proofs.lemmas.Nat.{or_lt}
use Rattle.om_signs.specs.declared.sign.Sign.{Sign}
use Rattle.om_signs.specs.declared.sign.Sign.TheVariants.{Minus, Zero, Plus}
use Rattle.om_signs.specs.SignVec.{at, at_element, IsMaskOf, IsPlus, IsMinus}
use Rattle.om_signs.proofs.Bits.{bit_at_and_not, one_shl_32, bit_from_test, no_bit_from_test, bit_one_or_zero}
use Rattle.om_signs.proofs.SignLaws.{zero_if_neither}
use Rattle.om_circuits.specs.Vectors.{IsOpposedAt, Eliminates}
use Rattle.om_circuits.specs.Axioms.{HasEliminator}
use Rattle.om_circuits.specs.Scans.{IsWithin, HasWithin}
use Rattle.om_members.proofs.MaskLaws.{plus_bit, minus_bit, zero_mask}

-- `x.plus() & y.minus()`
pub opposed_bit : (xs ys : List Sign) (p m : ℕ) → IsMaskOf (length xs) (IsPlus xs) p
    → IsMaskOf (length ys) (IsMinus ys) m → (e : ℕ) → (bit_at (bit_and p m) (e - 1) ≡ 1) ↔ IsOpposedAt xs ys e
opposed_bit xs ys p m hp hm e = (
  λ one.
      let b : min (bit_at p (e - 1)) (bit_at m (e - 1)) ≡ 1 = sym (bit_at_and p m (e - 1)) ∙ one in
      let lp = bit_at-lt p (e - 1) in
      let lm = bit_at-lt m (e - 1) in
      record { plus = (plus_bit xs p hp (e - 1)).0 (omega arith); minus = (minus_bit ys m hm (e - 1)).0 (omega arith) },
  λ o. bit_at_and p m (e - 1) ∙ rw ((plus_bit xs p hp (e - 1)).1 o.plus, (minus_bit ys m hm (e - 1)).1 o.minus) refl,
)

-- `(a | b) & !bit`: the bits of a and of b, without one place
open_bit : (a b k i : ℕ) → a < 2 ^ 32 → b < 2 ^ 32 → k < 32 → (bit_at (bit_and (bit_or a b) (4294967295 - 2 ^ k)) i ≡ 1)
    ↔ (((bit_at a i ≡ 1) ⊎ (bit_at b i ≡ 1)) × (i ≢ k))
open_bit a b k i la lb lk = (λ one. (some one, other one), λ h. all h.0 h.1)
  where
    whole : bit_at (bit_and (bit_or a b) (4294967295 - 2 ^ k)) i
        ≡ min (max (bit_at a i) (bit_at b i)) (1 - bit_at (2 ^ k) i)
    whole = bit_at_and_not (bit_or a b) (2 ^ k) i (or_lt 32 a b la lb) (pow-lt lk)
        ∙ ap (λ n. min n (1 - bit_at (2 ^ k) i)) (bit_at_or a b i)

    some : bit_at (bit_and (bit_or a b) (4294967295 - 2 ^ k)) i ≡ 1 → (bit_at a i ≡ 1) ⊎ (bit_at b i ≡ 1)
    some one = elim (bit_one_or_zero a i) [
      | inl x ↦ inl x
      | inr x ↦ elim (bit_one_or_zero b i) [
        | inl y ↦ inr y
        | inr y ↦ let e = whole in absurd (omega arith)
      ]
    ]

    other : bit_at (bit_and (bit_or a b) (4294967295 - 2 ^ k)) i ≡ 1 → i ≢ k
    other one q = let e = whole in let same : bit_at (2 ^ k) i ≡ 1 = rw q (bit_at-pow_same k) in absurd (omega arith)

    all : (bit_at a i ≡ 1) ⊎ (bit_at b i ≡ 1) → i ≢ k → bit_at (bit_and (bit_or a b) (4294967295 - 2 ^ k)) i ≡ 1
    all (inl x) n = let none = bit_at-pow_other k i n in let l = bit_at-lt b i in whole ∙ omega arith
    all (inr y) n = let none = bit_at-pow_other k i n in let l = bit_at-lt a i in whole ∙ omega arith

-- what holds of the sign at each element holds at each place
from_places : (xs ys zs : List Sign) (s : Sign)
    → ((f : ℕ) → at_element zs f ≡ s → (at_element xs f ≡ s) ⊎ (at_element ys f ≡ s)) → (i : ℕ) → at zs i ≡ s
    → (at xs i ≡ s) ⊎ (at ys i ≡ s)
from_places xs ys zs s h i q =
    let e : i + 1 - 1 ≡ i = omega arith in
    subst (λ k. (at xs k ≡ s) ⊎ (at ys k ≡ s)) e (h (i + 1) (subst (λ k. at zs k ≡ s) (sym e) q))

-- the masks of the code
pub eliminates_within : (xs ys zs : List Sign) (xp xm yp ym e : ℕ) → xp < 2 ^ 32 → xm < 2 ^ 32 → yp < 2 ^ 32
    → ym < 2 ^ 32 → e - 1 < 32
    → IsMaskOf (length xs) (IsPlus xs) xp → IsMaskOf (length xs) (IsMinus xs) xm → IsMaskOf (length ys) (IsPlus ys) yp
    → IsMaskOf (length ys) (IsMinus ys) ym
    → IsWithin (bit_and (bit_or xp yp) (4294967295 - 2 ^ (e - 1))) (bit_and (bit_or xm ym) (4294967295 - 2 ^ (e - 1)))
    zs ↔ Eliminates xs ys e zs
eliminates_within xs ys zs xp xm yp ym e lxp lxm lyp lym le hxp hxm hyp hym = (
  λ w. record {
    zero = zero_if_neither (at_element zs e)
        (λ q. ((open_bit xp yp (e - 1) (e - 1) lxp lyp le).0 (w.pluses (e - 1) q)).1 refl)
        (λ q. ((open_bit xm ym (e - 1) (e - 1) lxm lym le).0 (w.minuses (e - 1) q)).1 refl);
    plus = λ f q. either (plus_bit xs xp hxp (f - 1)).0 (plus_bit ys yp hyp (f - 1)).0
        ((open_bit xp yp (e - 1) (f - 1) lxp lyp le).0 (w.pluses (f - 1) q)).0;
    minus = λ f q. either (minus_bit xs xm hxm (f - 1)).0 (minus_bit ys ym hym (f - 1)).0
        ((open_bit xm ym (e - 1) (f - 1) lxm lym le).0 (w.minuses (f - 1) q)).0;
  },
  λ z. record {
    pluses = λ i q. (open_bit xp yp (e - 1) i lxp lyp le).1 (
      either (plus_bit xs xp hxp i).1 (plus_bit ys yp hyp i).1 (from_places xs ys zs Plus z.plus i q),
      elsewhere z.zero i Plus (λ d. cc) q,
    );
    minuses =
        λ i q. (open_bit xm ym (e - 1) i lxm lym le).1 (
          either (minus_bit xs xm hxm i).1 (minus_bit ys ym hym i).1 (from_places xs ys zs Minus z.minus i q),
          elsewhere z.zero i Minus (λ d. cc) q,
        );
  },
)
  where
    either : {A B C D : Type 0} → (A → C) → (B → D) → A ⊎ B → C ⊎ D
    either f g (inl a) = inl (f a)
    either f g (inr b) = inr (g b)

    elsewhere : at zs (e - 1) ≡ Zero → (i : ℕ) (s : Sign) → s ≢ Zero → at zs i ≡ s → i ≢ e - 1
    elsewhere z i s n q d = n (sym q ∙ ap (at zs) d ∙ z)

-- some member lies within the masks exactly where some member eliminates the element
pub has_within_eliminator : (members : List (List Sign)) (xs ys : List Sign) (xp xm yp ym e bit : ℕ) → xp < 2 ^ 32
    → xm < 2 ^ 32 → yp < 2 ^ 32 → ym < 2 ^ 32 → e - 1 < 32 → bit ≡ 1 * 2 ^ (e - 1) % 4294967296
    → IsMaskOf (length xs) (IsPlus xs) xp → IsMaskOf (length xs) (IsMinus xs) xm → IsMaskOf (length ys) (IsPlus ys) yp
    → IsMaskOf (length ys) (IsMinus ys) ym
    → HasWithin members (bit_and (bit_or xp yp) (4294967295 - bit)) (bit_and (bit_or xm ym) (4294967295 - bit))
    ↔ HasEliminator members xs ys e
has_within_eliminator members xs ys xp xm yp ym e bit lxp lxm lyp lym le q hxp hxm hyp hym =
    rw (q ∙ one_shl_32 (e - 1) le) (
      λ h. (h.0, h.1, (eliminates_within xs ys h.0 xp xm yp ym e lxp lxm lyp lym le hxp hxm hyp hym).0 h.2),
      λ h. (h.0, h.1, (eliminates_within xs ys h.0 xp xm yp ym e lxp lxm lyp lym le hxp hxm hyp hym).1 h.2),
    )

-- the test of one element
pub opposed_if_tested : (xs ys : List Sign) (p m e : ℕ) → e - 1 < 32 → IsMaskOf (length xs) (IsPlus xs) p
    → IsMaskOf (length ys) (IsMinus ys) m → bit_and (bit_and p m) (1 * 2 ^ (e - 1) % 4294967296) ≢ 0
    → IsOpposedAt xs ys e
opposed_if_tested xs ys p m e le hp hm t =
    (opposed_bit xs ys p m hp hm e).0 (bit_from_test (bit_and p m) (e - 1) (rw (one_shl_32 (e - 1) le) at t))

pub tested_if_opposed : (xs ys : List Sign) (p m e : ℕ) → e - 1 < 32 → IsMaskOf (length xs) (IsPlus xs) p
    → IsMaskOf (length ys) (IsMinus ys) m → bit_and (bit_and p m) (1 * 2 ^ (e - 1) % 4294967296) ≡ 0
    → IsOpposedAt xs ys e → ⊥
tested_if_opposed xs ys p m e le hp hm t o =
    let none = no_bit_from_test (bit_and p m) (e - 1) (rw (one_shl_32 (e - 1) le) at t) in
    let one = (opposed_bit xs ys p m hp hm e).1 o in
    absurd (omega arith)

-- no place has a plus and a minus
pub none_opposed : (xs ys : List Sign) (p m e : ℕ) → IsMaskOf (length xs) (IsPlus xs) p
    → IsMaskOf (length ys) (IsMinus ys) m → bit_and p m ≡ 0 → IsOpposedAt xs ys e → ⊥
none_opposed xs ys p m e hp hm z o = (zero_mask (bit_and p m)).0 z (e - 1) ((opposed_bit xs ys p m hp hm e).1 o)
