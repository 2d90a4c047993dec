-- Reasoning with what it is absurd to deny.
--
-- Main results: held, then, mapped: what holds is possible, and what follows from it; either_way: of each statement,
-- that it holds or doesn't is possible; least: where some value has a property, one of the least measure with it is
-- possible.
use Rattle.std.proofs.Common.{ℕ, zero, suc, ◌≡◌, ◌+◌, ◌<◌, ◌⊎◌, Option, Some, None, refl, inl, inr, arith}
use Rattle.om_existence.specs.Possible.{IsPossible}

pub held : {P : Type 0} → P → IsPossible P
held p none = none p

pub then : {P Q : Type 0} → IsPossible P → (P → IsPossible Q) → IsPossible Q
then p f none = p (λ x. f x none)

pub mapped : {P Q : Type 0} → (P → Q) → IsPossible P → IsPossible Q
mapped f p none = p (λ x. none (f x))

pub either_way : (P : Type 0) → IsPossible (P ⊎ (P → ⊥))
either_way P none = none (inr (λ p. none (inl p)))

-- it is absurd that a statement holds which is absurd
pub nowhere : {P : Type 0} → (P → ⊥) → IsPossible (P → ⊥)
nowhere n none = none n

-- ---- the least one

-- y has the property, and none of a lesser measure has
pub record IsLeast {A : Type 0} (measure : A → ℕ) (P : A → Type 0) (y : A) : Type 0 where
  pub has : P y
  pub below : (z : A) → measure z < measure y → P z → ⊥

least_below : {A : Type 0} (measure : A → ℕ) (P : A → Type 0) (n : ℕ) (x : A) → measure x < n → P x
    → IsPossible ((y : A) × IsLeast measure P y)
least_below {A} measure P zero x less p = absurd (omega arith)
least_below {A} measure P (suc n) x less p = then (either_way ((z : A) × (measure z < measure x) × P z)) (λ e. elim e [
  | inl h ↦ least_below measure P n h.0 (let l = h.1 in omega arith) h.2
  | inr m ↦ held (x, record { has = p; below = λ z l q. m (z, l, q) })
])

pub least : {A : Type 0} (measure : A → ℕ) (P : A → Type 0) (x : A) → P x → IsPossible ((y : A) × IsLeast measure P y)
least measure P x p = least_below measure P (measure x + 1) x (omega arith) p

-- ---- what was found

-- something was found, or nothing
pub found_or_not : {A : Type 0} (o : Option A) → ((a : A) × (o ≡ Some a)) ⊎ (o ≡ None)
found_or_not None = inr refl
found_or_not (Some a) = inl (a, refl)
