-- The walk over the sign vectors of one length, and what it has seen of two sets of them.
--
-- Main definitions: IsCarried, AgreeBefore
-- Main results: raising the last sign that is no plus gives the next place (raised_minus, raised_zero), and where there
-- is none the vector is the last one (last); two sets that agree before x agree before the next vector (agree_on), and
-- after the last one they are the same (agree_at_last); else x is their first difference (first_difference).
use Rattle.std.proofs.Common.{ℕ, ◌≡◌, ◌+◌, ◌-◌, ◌*◌, ◌^◌, ◌<◌, ◌↔◌, List, length, suc, set, refl, sym, ◌∙◌, ap, subst}
use Rattle.std.proofs.Common.{◌≤◌, arith, inl, inr, Bool, true, false, not, IsTrue, replicate}
use Rattle.std.proofs.Common.{pow-suc}
use Rattle.std.specs.Bool.{beq}
use Rattle.std.proofs.lemmas.Bool.{cases_eq}
use Rattle.std.proofs.lemmas.List.{ext_get_or, length-set, length-replicate, get_or-set_other, get_or-replicate}
use Rattle.om_signs.specs.declared.sign.Sign.{Sign}
use Rattle.om_signs.specs.declared.sign.Sign.TheVariants.{Minus, Zero, Plus}
use Rattle.om_signs.specs.SignVec.{at}
use Rattle.om_signs.specs.Order.{sign_rank}
use Rattle.om_oriented.specs.Places.{base_three}
use Rattle.om_denotation.specs.Denotation.{DenoteTheSame, IsOfOneAlone, HaveDifference, IsFirstDifference}
use Rattle.om_oriented.proofs.PlaceLaws.{base_three-lt, base_three-set, base_three-least, same_place, before_lt}

-- the last k signs, plus before, are now minus, and the others are as before
pub record IsCarried (x next : List Sign) (k : ℕ) : Type 0 where
  pub size : length next ≡ length x
  pub few : k ≤ length x
  pub same : (i : ℕ) → i + k < length x → at next i ≡ at x i
  pub number : base_three next + 3 ^ k ≡ base_three x + 1

-- at the start none has been changed
pub carried_none : (x : List Sign) (k : ℕ) → k ≡ 0 → IsCarried x x k
carried_none x k e = subst (IsCarried x x) (sym e) (record {
  size = refl;
  few = omega arith;
  same = λ i lt. refl;
  number = refl;
})

-- two sets have the same vectors of length n before x
pub record AgreeBefore (n : ℕ) (P Q : List Sign → Type 0) (x : List Sign) : Type 0 where
  pub size : length x ≡ n
  pub before : (Y : List Sign) → length Y ≡ n → base_three Y < base_three x → P Y ↔ Q Y

-- one sign changed, behind which the last k signs have been changed
changed : (x next y : List Sign) (k i : ℕ) (s t : Sign) → IsCarried x next k → i + 1 + k ≡ length x → at x i ≡ s
    → y ≡ set next i t → (base_three y + 3 ^ k + sign_rank s * 3 ^ k ≡ base_three x + 1 + sign_rank t * 3 ^ k)
    × (length y ≡ length x)
changed x next y k i s t h l is e =
    let n = h.size in
    let old : at next i ≡ s = h.same i (omega arith) ∙ is in
    let rank : sign_rank (at next i) * 3 ^ k ≡ sign_rank s * 3 ^ k = ap (λ r. sign_rank r * 3 ^ k) old in
    let set_is = base_three-set next i k t (omega arith) in
    let number = h.number in
    let size = length-set next i t in
    (rw e (omega arith), rw e (omega arith))

-- the last sign that is no plus is raised, behind it the signs are now minus
pub raised_minus : (x next y : List Sign) (k i : ℕ) → IsCarried x next k → i + 1 + k ≡ length x → at x i ≡ Minus
    → y ≡ set next i Zero → (base_three y ≡ base_three x + 1) × (length y ≡ length x)
raised_minus x next y k i h l is e = let r = changed x next y k i Minus Zero h l is e in let n = r.0 in
    (omega arith, r.1)

pub raised_zero : (x next y : List Sign) (k i : ℕ) → IsCarried x next k → i + 1 + k ≡ length x → at x i ≡ Zero
    → y ≡ set next i Plus → (base_three y ≡ base_three x + 1) × (length y ≡ length x)
raised_zero x next y k i h l is e = let r = changed x next y k i Zero Plus h l is e in let n = r.0 in (omega arith, r.1)

-- a vector with a vector behind it is not the last one
pub not_last : (x y : List Sign) → (base_three y ≡ base_three x + 1) × (length y ≡ length x)
    → base_three x + 1 ≡ 3 ^ length x → ⊥
not_last x y (n, l) e =
    let below = base_three-lt y in
    let p : 3 ^ length y ≡ 3 ^ length x = ap (λ k. 3 ^ k) l in
    absurd (omega arith)

pub carried_on : (x next y : List Sign) (k i : ℕ) → IsCarried x next k → i + 1 + k ≡ length x → at x i ≡ Plus
    → y ≡ set next i Minus → IsCarried x y (k + 1)
carried_on x next y k i h l is e =
    let r = changed x next y k i Plus Minus h l is e in
    let n = r.0 in
    let p : 3 ^ (k + 1) ≡ 3 ^ k * 3 = power k in
    record {
      size = r.1;
      few = omega arith;
      same = λ j lt. rw e (get_or-set_other next i j Minus Zero (omega arith)) ∙ h.same j (omega arith);
      number = omega arith;
    }
  where
    power : (k : ℕ) → 3 ^ (k + 1) ≡ 3 ^ k * 3
    power k = let s : k + 1 ≡ suc k = omega arith in rw s (pow-suc 3 k)

-- the vectors that are left become fewer
pub fewer : (x y : List Sign) → length y ≡ length x → base_three y ≡ base_three x + 1
    → 3 ^ length y - base_three y < 3 ^ length x - base_three x
fewer x y l next =
    let below = base_three-lt y in
    let p : 3 ^ length y ≡ 3 ^ length x = ap (λ k. 3 ^ k) l in
    omega arith

-- all signs have been changed: it was the last vector
pub last : (x next : List Sign) (k : ℕ) → IsCarried x next k → k ≡ length x → base_three x + 1 ≡ 3 ^ length x
last x next k h l =
    let number = h.number in
    let below = base_three-lt x in
    let p : 3 ^ k ≡ 3 ^ length x = ap (λ j. 3 ^ j) l in
    omega arith

pub all_minus : (n : ℕ) (x : List Sign) → length x ≡ n → ((k : ℕ) → k < n → at x k ≡ Minus) → x ≡ replicate n Minus
all_minus n x l h = ext_get_or Zero x (replicate n Minus) (l ∙ sym (length-replicate n Minus)) (λ k lt.
    let few : k < n = omega arith in
    h k few ∙ sym (get_or-replicate n k Minus Zero few))

-- ---- two sets

module _ (n : ℕ) (P Q : List Sign → Type 0) where
  -- no vector comes before the least one
  pub agree_at_first : (x : List Sign) (m : ℕ) → x ≡ replicate m Minus → m ≡ n → AgreeBefore n P Q x
  agree_at_first x m e l = record {
    size = ap length e ∙ length-replicate m Minus ∙ l;
    before = λ Y size lt.
        let z = ap base_three e ∙ base_three-least m in
        absurd (omega arith);
  }

  -- x is of both or of neither
  agree_here : (a b : Bool) (x : List Sign) → (IsTrue a ↔ P x) → (IsTrue b ↔ Q x) → not (beq a b) ≡ false → P x ↔ Q x
  agree_here true true x f g e = (λ _. g.0 refl, λ _. f.0 refl)
  agree_here true false x f g e = cc
  agree_here false true x f g e = cc
  agree_here false false x f g e =
      (λ p. let d : false ≡ true = f.1 p in cc d, λ q. let d : false ≡ true = g.1 q in cc d)

  pub agree_up_to : (a b : Bool) (x Y : List Sign) → AgreeBefore n P Q x → (IsTrue a ↔ P x) → (IsTrue b ↔ Q x)
      → not (beq a b) ≡ false → length Y ≡ n → base_three Y < base_three x + 1 → P Y ↔ Q Y
  agree_up_to a b x Y h f g e size lt = elim (cases_eq (base_three Y) (base_three x)) [
    | inl same ↦
        let here : Y ≡ x = same_place Y x (size ∙ sym h.size) same in
        subst (λ Z. P Z ↔ Q Z) (sym here) (agree_here a b x f g e)
    | inr other ↦ h.before Y size (omega arith)
  ]

  pub agree_on : (a b : Bool) (x y : List Sign) → AgreeBefore n P Q x → (IsTrue a ↔ P x) → (IsTrue b ↔ Q x)
      → not (beq a b) ≡ false → length y ≡ length x → base_three y ≡ base_three x + 1 → AgreeBefore n P Q y
  agree_on a b x y h f g e l next =
      record { size = l ∙ h.size; before = λ Y size lt. agree_up_to a b x Y h f g e size (omega arith) }

  -- after the last vector
  pub agree_at_last : (a b : Bool) (x : List Sign) → AgreeBefore n P Q x → (IsTrue a ↔ P x) → (IsTrue b ↔ Q x)
      → not (beq a b) ≡ false → base_three x + 1 ≡ 3 ^ length x → DenoteTheSame n P Q
  agree_at_last a b x h f g e end Y size =
      let below = base_three-lt Y in
      let p : 3 ^ length Y ≡ 3 ^ length x = ap (λ k. 3 ^ k) (size ∙ sym h.size) in
      agree_up_to a b x Y h f g e size (omega arith)

  -- x is of one alone
  of_one_alone : (a b : Bool) (x : List Sign) → (IsTrue a ↔ P x) → (IsTrue b ↔ Q x) → not (beq a b) ≡ true
      → IsOfOneAlone P Q x
  of_one_alone true true x f g e = cc
  of_one_alone true false x f g e = inl (f.0 refl, λ q. let d : false ≡ true = g.1 q in cc d)
  of_one_alone false true x f g e = inr (λ p. let d : false ≡ true = f.1 p in cc d, g.0 refl)
  of_one_alone false false x f g e = cc

  pub first_difference : (a b : Bool) (x : List Sign) → AgreeBefore n P Q x → (IsTrue a ↔ P x) → (IsTrue b ↔ Q x)
      → not (beq a b) ≡ true → IsFirstDifference n P Q x
  first_difference a b x h f g e = record {
    size = h.size;
    differs = of_one_alone a b x f g e;
    first = λ Y size before. h.before Y size (before_lt Y x (size ∙ sym h.size) before);
  }

  -- the same sets have no difference
  pub no_difference : DenoteTheSame n P Q → HaveDifference n P Q → ⊥
  no_difference h (X, size, differs) = apart (h X size) differs
    where
      apart : {X : List Sign} → P X ↔ Q X → IsOfOneAlone P Q X → ⊥
      apart e (inl (p, q)) = q (e.0 p)
      apart e (inr (p, q)) = p (e.1 q)
