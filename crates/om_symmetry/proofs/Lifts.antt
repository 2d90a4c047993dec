-- The lift of a signed permutation to one more element.
--
-- Main results: it is what it was at 1 to n (lifted_at), and n + 1 stays (lifted_last); it is a signed permutation
-- (lifted_permutation).
use Rattle.std.proofs.Common.{ℕ, zero, suc, ◌≡◌, ◌+◌, ◌⊎◌, List, [], ◌∷◌, length, refl, sym, ap}
use Rattle.std.proofs.Common.{subst, ◌∙◌, inl, inr, arith, false}
use Rattle.std.proofs.lemmas.Bool.{cases_eq}
use Rattle.std.proofs.lemmas.List.{get_or_append_left, get_or_push, length_push}
use Rattle.om_laws.specs.Sorting.{IsElement}
use Rattle.om_symmetry.specs.declared.signed_element.SignedElement.{SignedElement}
use Rattle.om_symmetry.specs.Permutations.{IsSignedPermutation, no_element, signed_at, element_at, lifted}
use Rattle.om_symmetry.proofs.Places.{permutation_length, element_within, element_apart, permutation_by}

module _ (n : ℕ) (w : List SignedElement) (l : length w ≡ n) where
  -- the lift has at the places 1 to n what was there before
  pub lifted_at : (i : ℕ) → IsElement n i → signed_at (lifted w) i ≡ signed_at w i
  lifted_at zero (low, high) = refl
  lifted_at (suc i) (low, high) =
      get_or_append_left w ((record { element = length w + 1; negated = false }) ∷ []) no_element i (omega arith)

  pub lifted_last : signed_at (lifted w) (suc n) ≡ record { element = suc n; negated = false }
  lifted_last =
      get_or_push w (record { element = length w + 1; negated = false }) no_element n l
      ∙ (let e : length w + 1 ≡ suc n = omega arith in ap (λ k. record { element = k; negated = false }) e)

  pub length_lifted : length (lifted w) ≡ suc n
  length_lifted = length_push w (record { element = length w + 1; negated = false }) ∙ omega arith

-- an element of 1 to n + 1 is one of 1 to n, or the last
pub last_or_before : (n i : ℕ) → IsElement (suc n) i → IsElement n i ⊎ (i ≡ suc n)
last_or_before n i (low, high) = elim (cases_eq i (suc n)) [
  | inl q ↦ inr q
  | inr d ↦ inl (low, omega arith)
]

module _ (n : ℕ) (w : List SignedElement) (p : IsSignedPermutation n w) where
  old_at : (i : ℕ) → IsElement n i → element_at (lifted w) i ≡ element_at w i
  old_at i h = ap (λ (a : SignedElement). a.element) (lifted_at n w (permutation_length n w p) i h)

  last_at : (i : ℕ) → i ≡ suc n → element_at (lifted w) i ≡ suc n
  last_at i q = ap (element_at (lifted w)) q
      ∙ ap (λ (a : SignedElement). a.element) (lifted_last n w (permutation_length n w p))

  lifted_within : (i : ℕ) → IsElement (suc n) i → IsElement (suc n) (element_at (lifted w) i)
  lifted_within i h = elim (last_or_before n i h) [
    | inl k ↦
        let q = old_at i k in
        let b = element_within n w p i k in
        let low = b.0 in
        let high = b.1 in
        (omega arith, omega arith)
    | inr q ↦ let e = last_at i q in (omega arith, omega arith)
  ]

  lifted_apart : (i j : ℕ) → IsElement (suc n) i → IsElement (suc n) j
      → element_at (lifted w) i ≡ element_at (lifted w) j → i ≡ j
  lifted_apart i j hi hj e = elim (last_or_before n i hi) [
    | inl ki ↦ elim (last_or_before n j hj) [
      | inl kj ↦ element_apart n w p i j ki kj (sym (old_at i ki) ∙ e ∙ old_at j kj)
      | inr qj ↦
          let a = old_at i ki in
          let b = last_at j qj in
          let high = (element_within n w p i ki).1 in
          absurd (omega arith)
    ]
    | inr qi ↦ elim (last_or_before n j hj) [
      | inl kj ↦
          let a = last_at i qi in
          let b = old_at j kj in
          let high = (element_within n w p j kj).1 in
          absurd (omega arith)
      | inr qj ↦ qi ∙ sym qj
    ]
  ]

  -- the lift of a signed permutation of 1 to n is one of 1 to n + 1
  pub lifted_permutation : IsSignedPermutation (suc n) (lifted w)
  lifted_permutation = permutation_by (suc n) (lifted w) (length_lifted n w (permutation_length n w p)) lifted_within
      lifted_apart

-- the same, of the length of a list
pub lawful_lift : (w : List SignedElement) → IsSignedPermutation (length w) w
    → IsSignedPermutation (length (lifted w)) (lifted w)
lawful_lift w p = subst (λ k. IsSignedPermutation k (lifted w)) (sym (length_lifted (length w) w refl))
    (lifted_permutation (length w) w p)
