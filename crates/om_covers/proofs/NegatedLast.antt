-- Half of the signatures are enough: the negation of the new element takes those that are led by plus to those that are
-- led by minus.
--
-- Main results: negated_extension, negated_signature; a list of signs is led by minus, led by plus or zero
-- (led_or_zero).
use Rattle.std.proofs.Common.{ℕ, zero, suc, ◌≡◌, ◌≢◌, ◌+◌, ◌<◌, ◌≤◌, ◌⊎◌, List, [], ◌∷◌, ◌++◌, length, map, refl}
use Rattle.std.proofs.Common.{sym, ap, subst, ◌∙◌, inl, inr, ⊎_elim, arith, Bool, nat_eq, append-nil}
use Rattle.std.proofs.lemmas.Bool.{eq-eqb, ne_eqb}
use Rattle.om_signs.specs.declared.sign.Sign.{Sign}
use Rattle.om_signs.specs.declared.sign.Sign.TheVariants.{Minus, Zero, Plus}
use Rattle.om_signs.specs.Sign.{opposite, product}
use Rattle.om_signs.specs.SignVec.{at}
use Rattle.om_signs.proofs.ListPlaces.{at-map-opposite}
use Rattle.om_subsets.specs.Subsets.{IsSubsetFrom, IsMember, all_subsets}
use Rattle.om_subsets.proofs.Statements.{subset_is_increasing}
use Rattle.om_laws.specs.Reorientation.{turning, signs_product, reoriented}
use Rattle.om_laws.proofs.TurnedVectors.{signs_product_middle}
use Rattle.om_chirotope.specs.Map.{SignMap, chi_of, IsLedBy}
use Rattle.om_denotation.proofs.Rules.{rule_at}
use Rattle.om_localize.specs.Extensions.{IsExtension, signature_of}
use Rattle.om_symmetry.specs.declared.signed_element.SignedElement.{SignedElement}
use Rattle.om_symmetry.specs.Permutations.{IsSignedPermutation, acted, negated_on}
use Rattle.om_symmetry.proofs.Products.{reorientation_permutation}
use Rattle.om_symmetry.proofs.Images.{same_listed}
use Rattle.om_symmetry.proofs.Reorientations.{acted_reorientation}
use Rattle.om_symmetry.proofs.Axioms.{acted_chirotope}
use Rattle.om_covers.proofs.Shorter.{longer}

-- ---- the first nonzero sign

pub led_or_zero : (xs : List Sign) → IsLedBy Minus xs ⊎ (IsLedBy Plus xs ⊎ ((k : ℕ) → at xs k ≡ Zero))
led_or_zero [] = inr (inr (λ k. refl))
led_or_zero (Minus ∷ xs) = inl (0, refl, λ j l. absurd (omega arith))
led_or_zero (Plus ∷ xs) = inr (inl (0, refl, λ j l. absurd (omega arith)))
led_or_zero (Zero ∷ xs) = elim (led_or_zero xs) [
  | inl k ↦ inl (suc k.0, k.1, later k.0 k.2)
  | inr r ↦ elim r [
    | inl k ↦ inr (inl (suc k.0, k.1, later k.0 k.2))
    | inr none ↦ inr (inr (each none))
  ]
]
  where
    later : (k : ℕ) → ((j : ℕ) → j < k → at xs j ≡ Zero) → (j : ℕ) → j < suc k → at (Zero ∷ xs) j ≡ Zero
    later k h zero l = refl
    later k h (suc j) l = h j (omega arith)

    each : ((k : ℕ) → at xs k ≡ Zero) → (k : ℕ) → at (Zero ∷ xs) k ≡ Zero
    each h zero = refl
    each h (suc k) = h k

pub led_negated : (xs : List Sign) → IsLedBy Plus xs → IsLedBy Minus (map opposite xs)
led_negated xs (k, q, before) =
    (k, at-map-opposite xs k ∙ ap opposite q, λ j l. at-map-opposite xs j ∙ ap opposite (before j l))

-- ---- the negation of the last element

abbrev is_last : ℕ → ℕ → Bool
is_last n i = nat_eq i (suc n)

others_plus : (n : ℕ) (xs : List ℕ) → ((e : ℕ) → IsMember e xs → e ≤ n)
    → signs_product (turning (is_last n)) xs ≡ Plus
others_plus n [] h = refl
others_plus n (x ∷ xs) h =
    let high = h x (inl refl) in
    let other : x ≢ suc n = omega arith in
    rw (ne_eqb x (suc n) other) (others_plus n xs (λ e m. h e (inr m)))

last_minus : (n : ℕ) (xs : List ℕ) → ((e : ℕ) → IsMember e xs → e ≤ n)
    → signs_product (turning (is_last n)) (xs ++ suc n ∷ []) ≡ Minus
last_minus n xs h = signs_product_middle (turning (is_last n)) xs [] (suc n)
    ∙ ap (λ l. product (turning (is_last n) (suc n)) (signs_product (turning (is_last n)) l)) (append-nil xs)
    ∙ ap (product (turning (is_last n) (suc n))) (others_plus n xs h)
    ∙ rw (eq-eqb (suc n) (suc n) refl) refl

fused : (f : List ℕ → Sign) (xss : List (List ℕ)) → map (λ xs. opposite (f xs)) xss ≡ map opposite (map f xss)
fused f [] = refl
fused f (xs ∷ xss) = ap (λ l. opposite (f xs) ∷ l) (fused f xss)

module _ (m y : SignMap) (ext : IsExtension m y) where
  abbrev pub last_negated : List SignedElement
  last_negated = negated_on y.elements (is_last m.elements)

  one_more : suc m.elements ≡ y.elements
  one_more = let e = ext.elements in omega arith

  negated_sign : (xs : List ℕ) → IsSubsetFrom 1 y.elements xs → length xs ≡ y.rank
      → chi_of (acted last_negated y) xs ≡ reoriented (is_last m.elements) (chi_of y) xs
  negated_sign xs h l = ap (λ k. chi_of k xs) (acted_reorientation y (is_last m.elements))
      ∙ rule_at y.rank y.elements (reoriented (is_last m.elements) (chi_of y)) xs h l

  pub negation_permutation : IsSignedPermutation y.elements last_negated
  negation_permutation = reorientation_permutation y.elements (is_last m.elements)

  pub negated_extension : IsExtension m (acted last_negated y)
  negated_extension = record {
    rank = ext.rank;
    elements = ext.elements;
    agrees = λ xs h l.
        negated_sign xs (subst (λ n. IsSubsetFrom 1 n xs) one_more (longer m.elements xs h)) (l ∙ sym ext.rank)
        ∙ ap (λ s. product s (chi_of y xs))
        (others_plus m.elements xs (λ e k. (((subset_is_increasing m.elements xs).0 h).1 e k).1))
        ∙ ext.agrees xs h l;
    chirotope = acted_chirotope y last_negated negation_permutation ext.chirotope;
  }

  -- the sign of a pair with the new element is negated
  negated_pair : y.rank ≡ 3 → (pair : List ℕ) → IsSubsetFrom 1 m.elements pair → length pair ≡ 2
      → chi_of (acted last_negated y) (pair ++ (m.elements + 1) ∷ [])
      ≡ opposite (chi_of y (pair ++ (m.elements + 1) ∷ []))
  negated_pair three (a ∷ b ∷ []) h l =
      let k = (subset_is_increasing m.elements (a ∷ b ∷ [])).0 h in
      let more = one_more in
      let e : m.elements + 1 ≡ suc m.elements = omega arith in
      let low = (k.1 a (inl refl)).0 in
      let high = (k.1 b (inr (inl refl))).1 in
      let lt = k.0.0 in
      let list : IsSubsetFrom 1 y.elements (a ∷ b ∷ suc m.elements ∷ []) =
      (subset_is_increasing y.elements (a ∷ b ∷ suc m.elements ∷ [])).1 (
        (lt, (omega arith, tt)),
        λ e k. ⊎_elim (λ q. (omega arith, omega arith))
            (λ j. ⊎_elim (λ q. (omega arith, omega arith))
            (λ i. ⊎_elim (λ q. (omega arith, omega arith)) (λ none. absurd none) i) j) k,
      ) in
      subst (λ z. chi_of (acted last_negated y) (a ∷ b ∷ z ∷ []) ≡ opposite (chi_of y (a ∷ b ∷ z ∷ []))) (sym e)
      (negated_sign (a ∷ b ∷ suc m.elements ∷ []) list (sym three)
      ∙ ap (λ s. product s (chi_of y (a ∷ b ∷ suc m.elements ∷ [])))
      (last_minus m.elements (a ∷ b ∷ []) (λ e j. (k.1 e j).1)))
  negated_pair three [] h l = absurd (omega arith)
  negated_pair three (a ∷ []) h l = absurd (omega arith)
  negated_pair three (a ∷ b ∷ c ∷ d) h l = absurd (omega arith)

  pub negated_signature : y.rank ≡ 3
      → signature_of m.elements (acted last_negated y) ≡ map opposite (signature_of m.elements y)
  negated_signature three =
      same_listed 2 m.elements (λ pair. chi_of (acted last_negated y) (pair ++ (m.elements + 1) ∷ []))
      (λ pair. opposite (chi_of y (pair ++ (m.elements + 1) ∷ []))) (negated_pair three)
      ∙ fused (λ pair. chi_of y (pair ++ (m.elements + 1) ∷ [])) (all_subsets m.elements 2)
