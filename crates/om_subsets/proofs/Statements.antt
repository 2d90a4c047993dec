-- The laws that the crate states as functions.
--
-- Main results: subset_is_increasing, next_place, members_with, members_without
use Rattle.std.proofs.Common.{ℕ, ◌≡◌, ◌≢◌, ◌+◌, List, [], ◌∷◌, length, sym, ◌∙◌, arith, inl, inr, ◌↔◌, ◌⊎◌}
use Rattle.std.proofs.lemmas.Bool.{cases_eq, cases_lt, eq-eqb, ne_eqb, lt-ltb, le-ltb}
use Rattle.om_subsets.specs.Subsets.{rank_of, IsSubsetFrom, IsMember, with_element, without_element}
use Rattle.om_subsets.specs.Lists.{IsIncreasing, IsWithin, IsBefore}
use Rattle.om_subsets.proofs.Order.{increasing, from_increasing, members_from, lexicographic}

-- the recursive definition in plain words: each number is below the next, and all are from 1 to n
pub subset_is_increasing : (n : ℕ) (xs : List ℕ) → IsSubsetFrom 1 n xs ↔ (IsIncreasing xs × IsWithin 1 n xs)
subset_is_increasing n xs = (
  λ h. (increasing 1 n xs h, λ e q. let b = members_from 1 n e xs h q in (b.0, omega arith)),
  λ h. from_increasing 1 n xs h.0 (λ e q. let b = h.1 e q in (b.0, omega arith)),
)

-- the list at the next place comes next
pub next_place : (n : ℕ) (xs ys : List ℕ) → IsSubsetFrom 1 n xs → IsSubsetFrom 1 n ys → length xs ≡ length ys
    → rank_of n ys ≡ rank_of n xs + 1 → IsBefore xs ys
    × ((zs : List ℕ) → IsSubsetFrom 1 n zs → length zs ≡ length xs → IsBefore xs zs → IsBefore zs ys → ⊥)
next_place n xs ys hx hy l r = (
  (lexicographic 1 n xs ys hx hy l).1 (omega arith),
  λ zs hz lz b c.
      let p = (lexicographic 1 n xs zs hx hz (sym lz)).0 b in
      let q = (lexicographic 1 n zs ys hz hy (lz ∙ l)).0 c in
      omega arith,
)

-- a list with e put in has e and its old members, and no others
pub members_with : (e f : ℕ) (xs : List ℕ) → IsMember f (with_element e xs) ↔ ((f ≡ e) ⊎ IsMember f xs)
members_with e f [] = (λ h. h, λ h. h)
members_with e f (x ∷ xs) = elim (cases_eq e x) [
  | inl q ↦ rw (eq-eqb e x q) (λ h. inr h, here q)
  | inr n ↦ rw (ne_eqb e x n) (elim (cases_lt e x) [
    | inl lt ↦ rw (lt-ltb e x lt) (λ h. h, λ h. h)
    | inr ge ↦ rw (le-ltb e x ge) (out (members_with e f xs), into (members_with e f xs))
  ])
]
  where
    here : e ≡ x → (f ≡ e) ⊎ IsMember f (x ∷ xs) → IsMember f (x ∷ xs)
    here q (inl p) = inl (p ∙ q)
    here q (inr p) = p

    out : IsMember f (with_element e xs) ↔ ((f ≡ e) ⊎ IsMember f xs) → (f ≡ x) ⊎ IsMember f (with_element e xs)
        → (f ≡ e) ⊎ IsMember f (x ∷ xs)
    out i (inl p) = inr (inl p)
    out i (inr p) = elim (i.0 p) [ inl q ↦ inl q | inr q ↦ inr (inr q) ]

    into : IsMember f (with_element e xs) ↔ ((f ≡ e) ⊎ IsMember f xs) → (f ≡ e) ⊎ IsMember f (x ∷ xs) → (f ≡ x)
        ⊎ IsMember f (with_element e xs)
    into i (inl p) = inr (i.1 (inl p))
    into i (inr (inl p)) = inl p
    into i (inr (inr p)) = inr (i.1 (inr p))

-- a list with e left out has its old members other than e, and no others
pub members_without : (e f : ℕ) (xs : List ℕ) → IsMember f (without_element e xs) ↔ ((f ≢ e) × IsMember f xs)
members_without e f [] = (λ h. absurd h, λ h. h.1)
members_without e f (x ∷ xs) = elim (cases_eq e x) [
  | inl q ↦ rw (eq-eqb e x q) (skipped (members_without e f xs), λ h. (members_without e f xs).1 (h.0, rest q h.0 h.1))
  | inr n ↦ rw (ne_eqb e x n) (kept n (members_without e f xs), λ h. keep (members_without e f xs) h.0 h.1)
]
  where
    skipped : IsMember f (without_element e xs) ↔ ((f ≢ e) × IsMember f xs) → IsMember f (without_element e xs)
        → (f ≢ e) × IsMember f (x ∷ xs)
    skipped i h = ((i.0 h).0, inr (i.0 h).1)

    rest : e ≡ x → f ≢ e → IsMember f (x ∷ xs) → IsMember f xs
    rest q ne (inl p) = absurd (ne (p ∙ sym q))
    rest q ne (inr p) = p

    kept : e ≢ x → IsMember f (without_element e xs) ↔ ((f ≢ e) × IsMember f xs) → (f ≡ x)
        ⊎ IsMember f (without_element e xs) → (f ≢ e) × IsMember f (x ∷ xs)
    kept n i (inl p) = (λ r. n (sym r ∙ p), inl p)
    kept n i (inr p) = ((i.0 p).0, inr (i.0 p).1)

    keep : IsMember f (without_element e xs) ↔ ((f ≢ e) × IsMember f xs) → f ≢ e → IsMember f (x ∷ xs) → (f ≡ x)
        ⊎ IsMember f (without_element e xs)
    keep i ne (inl p) = inl p
    keep i ne (inr p) = inr (i.1 (ne, p))
