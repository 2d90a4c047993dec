-- Statements on signs and on lists of vectors, each of which holds or doesn't.
--
-- Main results: same_vector, some_member, each_place: equal vectors, a member with a property, and what holds at all
-- places, are decided; not_false: what is decided and isn't false holds; all_good: where no number is bad, all are
-- good.
use Rattle.std.proofs.Common.{ℕ, zero, suc, ◌≡◌, ◌<◌, ◌≤◌, ◌⊎◌, List, [], ◌∷◌, length, refl, sym, subst, arith, inl}
use Rattle.std.proofs.Common.{inr, ◌-◌}
use Rattle.std.proofs.lemmas.Bool.{cases_lt}
use Rattle.std.specs.List.{Contains}
use Rattle.om_signs.specs.declared.sign.Sign.{Sign}
use Rattle.om_signs.proofs.SignLaws.{same_or_different}
use Rattle.om_members.specs.Scans.{nth, AllBelow, IsBadBelow}
use Rattle.om_members.proofs.ScanLaws.{nth_contained, contains_nth}

-- it holds, or it doesn't
abbrev pub IsDecided : Type 0 → Type 0
IsDecided P = P ⊎ (P → ⊥)

-- what is decided and isn't false holds
pub not_false : (P : Type 0) → IsDecided P → ((P → ⊥) → ⊥) → P
not_false P (inl p) n = p
not_false P (inr q) n = absurd (n q)

-- whether one of two statements holds is decided, if each of the two is
pub decided_either : (P Q : Type 0) → IsDecided P → IsDecided Q → IsDecided (P ⊎ Q)
decided_either P Q (inl p) e = inl (inl p)
decided_either P Q (inr n) (inl q) = inl (inr q)
decided_either P Q (inr n) (inr m) = inr (λ h. elim h [ inl p ↦ n p | inr q ↦ m q ])

-- whether one statement implies another is decided, if each of the two is
pub decided_if : (P Q : Type 0) → IsDecided P → IsDecided Q → IsDecided (P → Q)
decided_if P Q (inr n) e = inl (λ p. absurd (n p))
decided_if P Q (inl p) (inl q) = inl (λ r. q)
decided_if P Q (inl p) (inr m) = inr (λ h. m (h p))

-- whether two statements both hold is decided, if each of the two is
pub decided_both : (P Q : Type 0) → IsDecided P → IsDecided Q → IsDecided (P × Q)
decided_both P Q (inl p) (inl q) = inl (p, q)
decided_both P Q (inl p) (inr m) = inr (λ h. m h.1)
decided_both P Q (inr n) e = inr (λ h. n h.0)

-- whether a statement is false is decided, if the statement is
pub decided_not : (P : Type 0) → IsDecided P → IsDecided (P → ⊥)
decided_not P (inl p) = inr (λ n. n p)
decided_not P (inr n) = inl n

-- of two statements that imply each other, the second is decided if the first is
pub decided_same : (P Q : Type 0) → (P → Q) → (Q → P) → IsDecided P → IsDecided Q
decided_same P Q f g (inl p) = inl (f p)
decided_same P Q f g (inr n) = inr (λ q. n (g q))

-- ---- signs and vectors

-- whether two vectors are equal is decided
pub same_vector : (X Y : List Sign) → IsDecided (X ≡ Y)
same_vector [] [] = inl refl
same_vector [] (t ∷ Y) = inr (λ e. cc)
same_vector (s ∷ X) [] = inr (λ e. cc)
same_vector (s ∷ X) (t ∷ Y) = both (same_or_different s t) (same_vector X Y)
  where
    both : IsDecided (s ≡ t) → IsDecided (X ≡ Y) → IsDecided (s ∷ X ≡ t ∷ Y)
    both (inl p) (inl q) = inl (cc (p, q))
    both (inl p) (inr m) = inr (λ e. m (cc e))
    both (inr n) d = inr (λ e. n (cc e))

-- ---- numbers

some_below : (n : ℕ) (P : ℕ → Type 0) → ((k : ℕ) → IsDecided (P k)) → IsDecided ((k : ℕ) × (k < n) × P k)
some_below zero P d = inr (λ h. let l = h.1 in absurd (omega arith))
some_below (suc n) P d = either (some_below n P d) (d n)
  where
    either : IsDecided ((k : ℕ) × (k < n) × P k) → IsDecided (P n) → IsDecided ((k : ℕ) × (k < suc n) × P k)
    either (inl h) e = inl (h.0, (let l = h.1 in omega arith), h.2)
    either (inr m) (inl p) = inl (n, omega arith, p)
    either (inr m) (inr q) = inr (λ h. elim (cases_lt h.0 n) [
      | inl lt ↦ m (h.0, lt, h.2)
      | inr ge ↦ let l = h.1 in let e : h.0 ≡ n = omega arith in q (subst P e h.2)
    ])

each_below : (n : ℕ) (P : ℕ → Type 0) → ((k : ℕ) → IsDecided (P k)) → IsDecided (AllBelow n P)
each_below zero P d = inl (λ k l. absurd (omega arith))
each_below (suc n) P d = both (each_below n P d) (d n)
  where
    both : IsDecided (AllBelow n P) → IsDecided (P n) → IsDecided (AllBelow (suc n) P)
    both (inr m) e = inr (λ h. m (λ k l. h k (omega arith)))
    both (inl h) (inr q) = inr (λ f. q (f n (omega arith)))
    both (inl h) (inl p) = inl (λ k l. elim (cases_lt k n) [
      | inl lt ↦ h k lt
      | inr ge ↦ let e : n ≡ k = omega arith in subst P e p
    ])

-- of all numbers, where it holds from n on
pub each_place : (n : ℕ) (P : ℕ → Type 0) → ((k : ℕ) → IsDecided (P k)) → ((k : ℕ) → n ≤ k → P k)
    → IsDecided ((k : ℕ) → P k)
each_place n P d later = elim (each_below n P d) [
  | inl h ↦ inl (λ k. elim (cases_lt k n) [ inl lt ↦ h k lt | inr ge ↦ later k ge ])
  | inr m ↦ inr (λ f. m (λ k l. f k))
]

-- ---- members

-- some member has the property, or none has
pub some_member : (members : List (List Sign)) (P : List Sign → Type 0) → ((Z : List Sign) → IsDecided (P Z))
    → IsDecided ((Z : List Sign) × Contains members Z × P Z)
some_member members P d = elim (some_below (length members) (λ k. P (nth members k)) (λ k. d (nth members k))) [
  | inl h ↦ inl (nth members h.0, contains_nth members h.0 h.1, h.2)
  | inr n ↦ inr (λ h. n (h.1.0, h.1.1, subst P (sym (nth_contained members h.0 h.1)) h.2))
]

-- whether a vector is a member of a list is decided
pub is_contained : (members : List (List Sign)) (X : List Sign) → IsDecided (Contains members X)
is_contained members X =
    elim (some_below (length members) (λ k. nth members k ≡ X) (λ k. same_vector (nth members k) X)) [
      | inl h ↦ inl (subst (Contains members) h.2 (contains_nth members h.0 h.1))
      | inr n ↦ inr (λ h. n (h.0, h.1, nth_contained members X h))
    ]

-- ---- scans

-- where no number is bad, all are good
pub all_good : (m n : ℕ) (Good : ℕ → Type 0) → m ≤ n → ((k : ℕ) → ((Good k → ⊥) → ⊥) → Good k)
    → ((k : ℕ) → 0 ≤ k → k < m → IsBadBelow n Good k → ⊥) → AllBelow m Good
all_good m n Good le held none k l =
    held k (λ bad. none k (omega arith) l (record { within = omega arith; not_good = bad }))
