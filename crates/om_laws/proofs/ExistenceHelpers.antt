-- Helpers.
--
-- Main definitions: Vanishes
-- Main results: left_of_two, right_of_two, zero_of_two, distinct_insert, same_nonzero, negated_for_none,
-- negated_for_one, negated_for_swap, nonzero_from_negated_for
use Rattle.std.specs.Prelude.{ℕ, ◌≡◌, ◌⊎◌, List, [], ◌∷◌, ◌++◌, refl}
use Rattle.std.proofs.Common.{sym, ◌∙◌, ap, subst, inl, inr, ⊎_elim}
use Rattle.om_signs.specs.declared.sign.Sign.{Sign}
use Rattle.om_signs.specs.declared.sign.Sign.TheVariants.{Zero}
use Rattle.om_signs.specs.Sign.{opposite}
use Rattle.om_signs.proofs.SignLaws.{zero_or_nonzero, opposite_nonzero, nonzero_from_opposite}
use Rattle.om_laws.specs.Signs.{IsNonzero}
use Rattle.om_laws.specs.Members.{IsMember, IsDistinct}
use Rattle.om_laws.specs.Vectors.{SignVector, AreEqualUpToSign}
use Rattle.om_laws.proofs.MemberLaws.{member_drop}
use Rattle.om_laws.proofs.BlockLaws.{negated_for}

pub left_of_two : (z s t : Sign) → t ≡ Zero → IsNonzero z → (IsNonzero z → (z ≡ s) ⊎ (z ≡ t)) → z ≡ s
left_of_two z s t b n h = either (h n)
  where
    either : (z ≡ s) ⊎ (z ≡ t) → z ≡ s
    either (inl q) = q
    either (inr q) = absurd (n (q ∙ b))

pub right_of_two : (z s t : Sign) → s ≡ Zero → IsNonzero z → (IsNonzero z → (z ≡ s) ⊎ (z ≡ t)) → z ≡ t
right_of_two z s t b n h = either (h n)
  where
    either : (z ≡ s) ⊎ (z ≡ t) → z ≡ t
    either (inl q) = absurd (n (q ∙ b))
    either (inr q) = q

pub zero_of_two : (z s t : Sign) → s ≡ Zero → t ≡ Zero → (IsNonzero z → (z ≡ s) ⊎ (z ≡ t)) → z ≡ Zero
zero_of_two z s t a b h = zero (zero_or_nonzero z)
  where
    either : (z ≡ s) ⊎ (z ≡ t) → z ≡ Zero
    either (inl q) = q ∙ a
    either (inr q) = q ∙ b

    zero : (z ≡ Zero) ⊎ IsNonzero z → z ≡ Zero
    zero (inl q) = q
    zero (inr n) = either (h n)

pub distinct_insert : (u : List ℕ) (h : ℕ) (v : List ℕ) → IsDistinct (u ++ v) → (IsMember h (u ++ v) → ⊥)
    → IsDistinct (u ++ h ∷ v)
distinct_insert [] h v r n = (n, r)
distinct_insert (c ∷ u) h v r n = (
  λ m. ⊎_elim (λ q. n (inl (sym q))) (λ k. r.0 k) (member_drop c u h v m),
  distinct_insert u h v r.1 (λ m. n (inr m)),
)

abbrev pub Vanishes : SignVector → List ℕ → Type 0
Vanishes x l = (e : ℕ) → IsMember e l → x e ≡ Zero

pub same_nonzero : (x y : SignVector) → AreEqualUpToSign x y → (g : ℕ) → IsNonzero (y g) → IsNonzero (x g)
same_nonzero x y s g n =
    ⊎_elim (λ q. subst IsNonzero (sym (q g)) n) (λ q. subst IsNonzero (sym (q g)) (opposite_nonzero (y g) n)) s

pub negated_for_none : (t : Sign) → negated_for [] t ≡ t
negated_for_none t = refl

pub negated_for_one : (x : ℕ) (v : List ℕ) (t : Sign) → negated_for (x ∷ v) t ≡ opposite (negated_for v t)
negated_for_one x v t = refl

pub negated_for_swap : (u : List ℕ) (x y : ℕ) (v : List ℕ) (t : Sign)
    → negated_for (u ++ x ∷ y ∷ v) t ≡ negated_for (u ++ y ∷ x ∷ v) t
negated_for_swap [] x y v t = refl
negated_for_swap (z ∷ u) x y v t = ap opposite (negated_for_swap u x y v t)

pub nonzero_from_negated_for : (u : List ℕ) (t : Sign) → IsNonzero (negated_for u t) → IsNonzero t
nonzero_from_negated_for [] t n = n
nonzero_from_negated_for (z ∷ u) t n = nonzero_from_negated_for u t (nonzero_from_opposite (negated_for u t) n)
