-- The relations of all lists include the three-term relations.
--
-- Main results: balanced_from; three_terms_of_relations.
-- Reference: Björner, Las Vergnas, Sturmfels, White and Ziegler, Oriented Matroids, chapter 3.
use Rattle.std.specs.Prelude.{ℕ, ◌≡◌, ◌≢◌, ◌⊎◌, List, [], ◌∷◌, ◌++◌, refl}
use Rattle.std.proofs.Common.{sym, ap, subst, inl, inr, arith, append_assoc}
use Rattle.om_signs.specs.declared.sign.Sign.{Sign}
use Rattle.om_signs.specs.declared.sign.Sign.TheVariants.{Minus, Zero, Plus}
use Rattle.om_signs.specs.Sign.{opposite, product}
use Rattle.om_signs.proofs.SignLaws.{opposite_nonzero, plus_nonzero}
use Rattle.om_laws.specs.Signs.{IsNonzero}
use Rattle.om_laws.specs.Members.{IsMember}
use Rattle.om_laws.specs.Tuples.{IsAlternating}
use Rattle.om_laws.specs.Relations.{along, HasTerm, HasRelations}
use Rattle.om_laws.specs.ThreeTerm.{AreBalanced, HasThreeTermRelations}
use Rattle.om_laws.proofs.BlockLaws.{negated_for, negated_for_nonzero, negated_for_opposite}
use Rattle.om_laws.proofs.MemberLaws.{member_left}
use Rattle.om_laws.proofs.TupleLaws.{last_repeat_zero}

-- ---- three signs

-- one of three signs is s
abbrev pub IsOneOf : Sign → Sign → Sign → Sign → Type 0
IsOneOf x y z s = (x ≡ s) ⊎ ((y ≡ s) ⊎ (z ≡ s))

none : (x y z s : Sign) → x ≢ s → y ≢ s → z ≢ s → IsOneOf x y z s → ⊥
none x y z s p q r (inl e) = p e
none x y z s p q r (inr (inl e)) = q e
none x y z s p q r (inr (inr e)) = r e

-- three signs that include a plus exactly if they include a minus are balanced
pub balanced_from : (x y z : Sign) → (IsOneOf x y z Plus → IsOneOf x y z Minus)
    → (IsOneOf x y z Minus → IsOneOf x y z Plus) → AreBalanced x y z
balanced_from Minus Minus Minus f g = absurd (none Minus Minus Minus Plus (λ e. cc) (λ e. cc) (λ e. cc) (g (inl refl)))
balanced_from Minus Minus Zero f g = absurd (none Minus Minus Zero Plus (λ e. cc) (λ e. cc) (λ e. cc) (g (inl refl)))
balanced_from Minus Minus Plus f g = tt
balanced_from Minus Zero Minus f g = absurd (none Minus Zero Minus Plus (λ e. cc) (λ e. cc) (λ e. cc) (g (inl refl)))
balanced_from Minus Zero Zero f g = absurd (none Minus Zero Zero Plus (λ e. cc) (λ e. cc) (λ e. cc) (g (inl refl)))
balanced_from Minus Zero Plus f g = tt
balanced_from Minus Plus Minus f g = tt
balanced_from Minus Plus Zero f g = tt
balanced_from Minus Plus Plus f g = tt
balanced_from Zero Minus Minus f g =
    absurd (none Zero Minus Minus Plus (λ e. cc) (λ e. cc) (λ e. cc) (g (inr (inl refl))))
balanced_from Zero Minus Zero f g =
    absurd (none Zero Minus Zero Plus (λ e. cc) (λ e. cc) (λ e. cc) (g (inr (inl refl))))
balanced_from Zero Minus Plus f g = tt
balanced_from Zero Zero Minus f g =
    absurd (none Zero Zero Minus Plus (λ e. cc) (λ e. cc) (λ e. cc) (g (inr (inr refl))))
balanced_from Zero Zero Zero f g = tt
balanced_from Zero Zero Plus f g = absurd (none Zero Zero Plus Minus (λ e. cc) (λ e. cc) (λ e. cc) (f (inr (inr refl))))
balanced_from Zero Plus Minus f g = tt
balanced_from Zero Plus Zero f g = absurd (none Zero Plus Zero Minus (λ e. cc) (λ e. cc) (λ e. cc) (f (inr (inl refl))))
balanced_from Zero Plus Plus f g = absurd (none Zero Plus Plus Minus (λ e. cc) (λ e. cc) (λ e. cc) (f (inr (inl refl))))
balanced_from Plus Minus Minus f g = tt
balanced_from Plus Minus Zero f g = tt
balanced_from Plus Minus Plus f g = tt
balanced_from Plus Zero Minus f g = tt
balanced_from Plus Zero Zero f g = absurd (none Plus Zero Zero Minus (λ e. cc) (λ e. cc) (λ e. cc) (f (inl refl)))
balanced_from Plus Zero Plus f g = absurd (none Plus Zero Plus Minus (λ e. cc) (λ e. cc) (λ e. cc) (f (inl refl)))
balanced_from Plus Plus Minus f g = tt
balanced_from Plus Plus Zero f g = absurd (none Plus Plus Zero Minus (λ e. cc) (λ e. cc) (λ e. cc) (f (inl refl)))
balanced_from Plus Plus Plus f g = absurd (none Plus Plus Plus Minus (λ e. cc) (λ e. cc) (λ e. cc) (f (inl refl)))

balanced_either : (x y z s : Sign) → IsNonzero s → (IsOneOf x y z s → IsOneOf x y z (opposite s))
    → (IsOneOf x y z (opposite s) → IsOneOf x y z s) → AreBalanced x y z
balanced_either x y z Minus n f g = balanced_from x y z g f
balanced_either x y z Zero n f g = absurd (n refl)
balanced_either x y z Plus n f g = balanced_from x y z f g

-- ---- terms behind a list at whose elements the vector is zero

no_product : (s t w : Sign) → IsNonzero w → t ≡ Zero → product s t ≡ opposite w → ⊥
no_product s t w n z e = grind arith

behind : (chi : List ℕ → Sign) (p xs : List ℕ) (u : ℕ → Sign) (s : Sign) → IsNonzero s
    → ((e : ℕ) → IsMember e p → u e ≡ Zero) → HasTerm chi (p ++ xs) u s
    → HasTerm (λ t. chi (p ++ t)) xs u (negated_for p s)
behind chi [] xs u s n z h = h
behind chi (x ∷ p) xs u s n z (inl e) = absurd (no_product (chi (p ++ xs)) (u x) s n (z x (inl refl)) e)
behind chi (x ∷ p) xs u s n z (inr h) =
    subst (HasTerm (λ t. chi (x ∷ (p ++ t))) xs u) (negated_for_opposite p s)
    (behind (λ t. chi (x ∷ t)) p xs u (opposite s) (opposite_nonzero s n) (λ e m. z e (inr m)) h)

before : (chi : List ℕ → Sign) (p xs : List ℕ) (u : ℕ → Sign) (s : Sign)
    → HasTerm (λ t. chi (p ++ t)) xs u (negated_for p s) → HasTerm chi (p ++ xs) u s
before chi [] xs u s h = h
before chi (x ∷ p) xs u s h =
    inr (before (λ t. chi (x ∷ t)) p xs u (opposite s)
    (subst (HasTerm (λ t. chi (x ∷ (p ++ t))) xs u) (sym (negated_for_opposite p s)) h))

-- ---- the three terms

first_term : (s t t' w : Sign) → t ≡ t' → product s t ≡ opposite w → product t' s ≡ opposite w
first_term s t t' w q e = grind arith

second_term : (s t t' w : Sign) → t ≡ t' → product s t ≡ opposite (opposite w) → opposite (product t' s) ≡ opposite w
second_term s t t' w q e = grind arith

third_term : (s t t' w : Sign) → t ≡ t' → product s t ≡ opposite (opposite (opposite w)) → product t' s ≡ opposite w
third_term s t t' w q e = grind arith

first_back : (s t t' w : Sign) → t ≡ t' → product t' s ≡ opposite w → product s t ≡ opposite w
first_back s t t' w q e = grind arith

second_back : (s t t' w : Sign) → t ≡ t' → opposite (product t' s) ≡ opposite w → product s t ≡ opposite (opposite w)
second_back s t t' w q e = grind arith

third_back : (s t t' w : Sign) → t ≡ t' → product t' s ≡ opposite w → product s t ≡ opposite (opposite (opposite w))
third_back s t t' w q e = grind arith

module _ (chi : List ℕ → Sign) (alt : IsAlternating chi) (rel : HasRelations chi) (p : List ℕ) (a b c d : ℕ) where
  abbrev psi : ℕ → ℕ → Sign
  psi x y = chi (p ++ x ∷ y ∷ [])

  abbrev u : ℕ → Sign
  u = along chi (p ++ a ∷ [])

  abbrev IsTerm : Sign → Type 0
  IsTerm = IsOneOf (product (psi a b) (psi c d)) (opposite (product (psi a c) (psi b d))) (product (psi a d) (psi b c))

  at_element : (e : ℕ) → u e ≡ psi a e
  at_element e = ap chi (append_assoc p (a ∷ []) (e ∷ []))

  off : (e : ℕ) → IsMember e p → u e ≡ Zero
  off e m = last_repeat_zero chi alt (p ++ a ∷ []) e (member_left e p (a ∷ []) m)

  to_terms : (s : Sign) → HasTerm (λ t. chi (p ++ t)) (b ∷ c ∷ d ∷ []) u s → IsTerm (opposite s)
  to_terms s (inl e) = inl (first_term (psi c d) (u b) (psi a b) s (at_element b) e)
  to_terms s (inr (inl e)) = inr (inl (second_term (psi b d) (u c) (psi a c) s (at_element c) e))
  to_terms s (inr (inr (inl e))) = inr (inr (third_term (psi b c) (u d) (psi a d) s (at_element d) e))
  to_terms s (inr (inr (inr h))) = absurd h

  from_terms : (s : Sign) → IsTerm (opposite s) → HasTerm (λ t. chi (p ++ t)) (b ∷ c ∷ d ∷ []) u s
  from_terms s (inl e) = inl (first_back (psi c d) (u b) (psi a b) s (at_element b) e)
  from_terms s (inr (inl e)) = inr (inl (second_back (psi b d) (u c) (psi a c) s (at_element c) e))
  from_terms s (inr (inr e)) = inr (inr (inl (third_back (psi b c) (u d) (psi a d) s (at_element d) e)))

  three_terms : AreBalanced (product (psi a b) (psi c d)) (opposite (product (psi a c) (psi b d)))
      (product (psi a d) (psi b c))
  three_terms =
      let k = negated_for p Plus in
      let nk : IsNonzero k = negated_for_nonzero p Plus plus_nonzero in
      let turned : negated_for p Minus ≡ opposite k = negated_for_opposite p Plus in
      let r = rel (p ++ b ∷ c ∷ d ∷ []) (p ++ a ∷ []) in
      balanced_either _ _ _ (opposite k) (opposite_nonzero k nk)
      (λ h. to_terms (opposite k) (subst (HasTerm (λ t. chi (p ++ t)) (b ∷ c ∷ d ∷ []) u) turned
      (behind chi p (b ∷ c ∷ d ∷ []) u Minus (λ e. cc) off
      (r.0 (before chi p (b ∷ c ∷ d ∷ []) u Plus (from_terms k h))))))
      (λ h. to_terms k (behind chi p (b ∷ c ∷ d ∷ []) u Plus (λ e. cc) off (r.1 (before chi p (b ∷ c ∷ d ∷ []) u Minus
      (subst (HasTerm (λ t. chi (p ++ t)) (b ∷ c ∷ d ∷ []) u) (sym turned) (from_terms (opposite k) h))))))

-- an alternating map with the relations of all lists has the three-term relations
pub three_terms_of_relations : (chi : List ℕ → Sign) → IsAlternating chi → HasRelations chi → HasThreeTermRelations chi
three_terms_of_relations chi alt rel p a b c d = three_terms chi alt rel p a b c d
