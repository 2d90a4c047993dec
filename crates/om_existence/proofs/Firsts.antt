-- First lists with a property, in lexicographic order.
--
-- Main results: first_subset, first_key: where some list has a property, and those that have it aren't longer than a
-- number, a first one is possible, in the order of subsets, where a list stands before those that it begins, and in the
-- order of the keys of violated instances.
use Rattle.std.specs.Prelude.{List, [], ◌∷◌, length}
use Rattle.std.proofs.Common.{ℕ, zero, suc, ◌<◌, ◌≤◌, subst, inl, inr, arith}
use Rattle.om_members.specs.Positions as keys
use Rattle.om_subsets.specs.Lists as subsets
use Rattle.om_existence.specs.Possible.{IsPossible}
use Rattle.om_existence.proofs.Possible.{held, then, either_way, least}

-- the list has the property, and none before it has
pub record IsFirst (IsBefore : List ℕ → List ℕ → Type 0) (P : List ℕ → Type 0) (xs : List ℕ) : Type 0 where
  pub has : P xs
  pub before : (zs : List ℕ) → IsBefore zs xs → P zs → ⊥

-- lists with this head have the property
abbrev HasHead : (List ℕ → Type 0) → ℕ → Type 0
HasHead P h = (t : List ℕ) × P (h ∷ t)

-- ---- the order of keys

behind_key : (P : List ℕ → Type 0) (h : ℕ) (t : List ℕ) → ((k : ℕ) → k < h → HasHead P k → ⊥)
    → IsFirst keys.IsBefore (λ u. P (h ∷ u)) t → IsFirst keys.IsBefore P (h ∷ t)
behind_key P h t none f = record { has = f.has; before = before }
  where
    before : (zs : List ℕ) → keys.IsBefore zs (h ∷ t) → P zs → ⊥
    before [] b p = b
    before (k ∷ u) (inl less) p = none k less (u, p)
    before (k ∷ u) (inr (same, b)) p = f.before u b (subst (λ j. P (j ∷ u)) same p)

pub first_key : (n : ℕ) (P : List ℕ → Type 0) → ((zs : List ℕ) → P zs → length zs ≤ n) → (xs : List ℕ) → P xs
    → IsPossible ((ys : List ℕ) × IsFirst keys.IsBefore P ys)
first_key n P short [] p = held ([], record { has = p; before = before })
  where
    before : (zs : List ℕ) → keys.IsBefore zs [] → P zs → ⊥
    before [] b q = b
    before (k ∷ u) b q = b
first_key zero P short (h ∷ t) p = let l = short (h ∷ t) p in absurd (omega (arith, l))
first_key (suc n) P short (h ∷ t) p =
    then (least (λ k. k) (HasHead P) h (t, p))
    (λ l. then
    (first_key n (λ u. P (l.0 ∷ u)) (λ u q. let s = short (l.0 ∷ u) q in omega (arith, s)) l.1.has.0 l.1.has.1)
    (λ f. held (l.0 ∷ f.0, behind_key P l.0 f.0 l.1.below f.1)))

-- ---- the order of subsets

behind_subset : (P : List ℕ → Type 0) (h : ℕ) (t : List ℕ) → (P [] → ⊥) → ((k : ℕ) → k < h → HasHead P k → ⊥)
    → IsFirst subsets.IsBefore (λ u. P (h ∷ u)) t → IsFirst subsets.IsBefore P (h ∷ t)
behind_subset P h t empty none f = record { has = f.has; before = before }
  where
    before : (zs : List ℕ) → subsets.IsBefore zs (h ∷ t) → P zs → ⊥
    before [] b p = empty p
    before (k ∷ u) (inl less) p = none k less (u, p)
    before (k ∷ u) (inr (same, b)) p = f.before u b (subst (λ j. P (j ∷ u)) same p)

nothing_before : (P : List ℕ → Type 0) → P [] → IsFirst subsets.IsBefore P []
nothing_before P p = record { has = p; before = before }
  where
    before : (zs : List ℕ) → subsets.IsBefore zs [] → P zs → ⊥
    before [] b q = b
    before (k ∷ u) b q = b

pub first_subset : (n : ℕ) (P : List ℕ → Type 0) → ((zs : List ℕ) → P zs → length zs ≤ n) → (xs : List ℕ) → P xs
    → IsPossible ((ys : List ℕ) × IsFirst subsets.IsBefore P ys)
first_subset n P short [] p = held ([], nothing_before P p)
first_subset zero P short (h ∷ t) p = let l = short (h ∷ t) p in absurd (omega (arith, l))
first_subset (suc n) P short (h ∷ t) p = then (either_way (P [])) (λ e. elim e [
  | inl empty ↦ held ([], nothing_before P empty)
  | inr empty ↦
      then (least (λ k. k) (HasHead P) h (t, p))
      (λ l. then
      (first_subset n (λ u. P (l.0 ∷ u)) (λ u q. let s = short (l.0 ∷ u) q in omega (arith, s)) l.1.has.0 l.1.has.1)
      (λ f. held (l.0 ∷ f.0, behind_subset P l.0 f.0 empty l.1.below f.1)))
])
