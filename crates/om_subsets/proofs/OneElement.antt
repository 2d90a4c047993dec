-- Increasing lists with one element more, and with one less.
--
-- Main results: a list without an element increases (subset_without), and is the same where it hadn't the element
-- (without_other); an element below a list is put at its front (with_below); an element left out and put back
-- (with_without).
use Rattle.std.specs.Prelude.{ℕ, ◌≡◌, ◌≢◌, ◌+◌, ◌<◌, ◌≤◌, List, [], ◌∷◌, refl}
use Rattle.std.proofs.Common.{zero, suc, ap, ◌∙◌, ⊎_elim, inl, inr, arith}
use Rattle.std.proofs.lemmas.Bool.{cases_eq, eq-eqb, ne_eqb, lt-ltb, le-ltb}
use Rattle.om_subsets.specs.Subsets.{IsSubsetFrom, IsMember, with_element, without_element}
use Rattle.om_subsets.proofs.Order.{head_low, members_from}

-- a list of numbers above low is one of numbers from low on
pub later_list : (low m : ℕ) (ys : List ℕ) → IsSubsetFrom (low + 1) m ys → IsSubsetFrom low (suc m) ys
later_list low m [] h = tt
later_list low m (y ∷ ys) h = let above = head_low (low + 1) m y ys h in let ne : y ≢ low = omega arith in inr (ne, h)

-- a list of some of m numbers is one of some of m + 1
pub subset_wider : (low m : ℕ) (xs : List ℕ) → IsSubsetFrom low m xs → IsSubsetFrom low (suc m) xs
subset_wider low m [] h = tt
subset_wider low zero (x ∷ xs) h = absurd h
subset_wider low (suc m) (x ∷ xs) (inl (e, h)) = inl (e, subset_wider (low + 1) m xs h)
subset_wider low (suc m) (x ∷ xs) (inr (n, h)) = inr (n, subset_wider (low + 1) m (x ∷ xs) h)

-- the first number isn't among the later ones
pub not_later : (low m e : ℕ) (xs : List ℕ) → IsSubsetFrom (low + 1) m xs → e ≡ low → IsMember e xs → ⊥
not_later low m e xs h q k = let b = (members_from (low + 1) m e xs h k).0 in omega (arith, b, q)

-- a list of one number has no other member
pub not_in_single : (x e : ℕ) → e ≢ x → IsMember e (x ∷ []) → ⊥
not_in_single x e n (inl q) = n q
not_in_single x e n (inr h) = h

-- a list stays the same without a number that it doesn't have
pub without_other : (e : ℕ) (xs : List ℕ) → (IsMember e xs → ⊥) → without_element e xs ≡ xs
without_other e [] n = refl
without_other e (x ∷ xs) n = rw (ne_eqb e x (λ q. n (inl q))) (ap (λ l. x ∷ l) (without_other e xs (λ k. n (inr k))))

-- an increasing list without a number is an increasing list of some of the same m numbers
pub subset_without : (low m e : ℕ) (ys : List ℕ) → IsSubsetFrom low m ys → IsSubsetFrom low m (without_element e ys)
subset_without low m e [] h = tt
subset_without low zero e (x ∷ xs) h = absurd h
subset_without low (suc m) e (x ∷ xs) (inl (q, h)) = elim (cases_eq e x) [
  | inl p ↦ rw (eq-eqb e x p) (later_list low m (without_element e xs) (subset_without (low + 1) m e xs h))
  | inr n ↦ rw (ne_eqb e x n) (inl (q, subset_without (low + 1) m e xs h))
]
subset_without low (suc m) e (x ∷ xs) (inr (g, h)) =
    later_list low m (without_element e (x ∷ xs)) (subset_without (low + 1) m e (x ∷ xs) h)

-- a number below all of a list is put at its front
pub with_below : (low m e : ℕ) (xs : List ℕ) → IsSubsetFrom low m xs → e < low → with_element e xs ≡ e ∷ xs
with_below low m e [] h l = refl
with_below low m e (x ∷ xs) h l =
    let b = (members_from low m x (x ∷ xs) h (inl refl)).0 in
    let ne : e ≢ x = omega arith in
    let lt : e < x = omega arith in
    rw (ne_eqb e x ne, lt-ltb e x lt) refl

-- a member that is left out and put back gives the same increasing list
pub with_without : (low m e : ℕ) (xs : List ℕ) → IsSubsetFrom low m xs → IsMember e xs
    → with_element e (without_element e xs) ≡ xs
with_without low m e [] h k = absurd k
with_without low zero e (x ∷ xs) h k = absurd h
with_without low (suc m) e (x ∷ xs) (inr (q, h)) k = with_without (low + 1) m e (x ∷ xs) h k
with_without low (suc m) e (x ∷ xs) (inl (q, h)) k = elim (cases_eq e x) [
  | inl p ↦
      let other = without_other e xs (not_later low m e xs h (p ∙ q)) in
      let below : e < low + 1 = omega arith in
      rw (eq-eqb e x p, other) (with_below (low + 1) m e xs h below ∙ ap (λ z. z ∷ xs) p)
  | inr n ↦
      let k' : IsMember e xs = ⊎_elim (λ p. absurd (n p)) (λ j. j) k in
      let b = (members_from (low + 1) m e xs h k').0 in
      let ge : x ≤ e = omega arith in
      rw (ne_eqb e x n) (rw (ne_eqb e x n, le-ltb e x ge) (ap (λ l. x ∷ l) (with_without (low + 1) m e xs h k')))
]
