-- The order of lists of positions.
--
-- Main results: same_number, greater_number, last_number: what the order says of the first numbers; ordered: of two
-- lists of one length one is before the other, or they are equal; ordered_keys: so it is with two lists that say
-- themselves how long they are.
use Rattle.std.proofs.Common.{ℕ, ◌≡◌, ◌<◌, ◌⊎◌, List, [], ◌∷◌, length, suc, refl, sym, ◌∙◌, ap, arith, inl, inr}
use Rattle.std.proofs.lemmas.Bool.{cases_lt, cases_order}
use Rattle.om_members.specs.Positions.{IsBefore}

-- if of two lists with the same first number one is before the other, so it is with what follows
pub same_number : (a : ℕ) (xs ys : List ℕ) → IsBefore (a ∷ xs) (a ∷ ys) → IsBefore xs ys
same_number a xs ys (inl lt) = absurd (omega arith)
same_number a xs ys (inr r) = r.1

-- a list isn't before one whose first number is smaller
pub greater_number : (a b : ℕ) (xs ys : List ℕ) → b < a → IsBefore (a ∷ xs) (b ∷ ys) → ⊥
greater_number a b xs ys l (inl lt) = absurd (omega arith)
greater_number a b xs ys l (inr r) = let e = r.0 in absurd (omega arith)

-- if of two lists of one number each one is before the other, its number is smaller
pub last_number : (x y : ℕ) → IsBefore (x ∷ []) (y ∷ []) → x < y
last_number x y (inl lt) = lt
last_number x y (inr r) = absurd r.1

-- of two lists of one length one is before the other, or they are equal
pub ordered : (xs ys : List ℕ) → length xs ≡ length ys → IsBefore xs ys ⊎ (IsBefore ys xs ⊎ (xs ≡ ys))
ordered [] [] l = inr (inr refl)
ordered [] (y ∷ ys) l = absurd (let e : 0 ≡ suc (length ys) = l in omega arith)
ordered (x ∷ xs) [] l = absurd (let e : suc (length xs) ≡ 0 = l in omega arith)
ordered (x ∷ xs) (y ∷ ys) l = elim (cases_lt x y) [
  | inl lt ↦ inl (inl lt)
  | inr ge ↦ elim (cases_lt y x) [
    | inl lt ↦ inr (inl (inl lt))
    | inr le ↦
        let e : x ≡ y = omega arith in
        let m : length xs ≡ length ys = let k : suc (length xs) ≡ suc (length ys) = l in omega arith in
        elim (ordered xs ys m) [
          | inl b ↦ inl (inr (e, b))
          | inr (inl b) ↦ inr (inl (inr (sym e, b)))
          | inr (inr q) ↦ inr (inr (cc (e, q)))
        ]
  ]
]

-- a list of positions whose first number tells how many numbers follow
abbrev pub IsKey : (ℕ → ℕ) → List ℕ → Type 0
IsKey size [] = ⊥
IsKey size (x ∷ xs) = length xs ≡ size x

-- of two such lists one is before the other, or they are equal
pub ordered_keys : (size : ℕ → ℕ) (xs ys : List ℕ) → IsKey size xs → IsKey size ys → IsBefore xs ys
    ⊎ (IsBefore ys xs ⊎ (xs ≡ ys))
ordered_keys size [] ys h k = absurd h
ordered_keys size (x ∷ xs) [] h k = absurd k
ordered_keys size (x ∷ xs) (y ∷ ys) h k = elim (cases_order x y) [
  | inl e ↦ ordered (x ∷ xs) (y ∷ ys) (ap suc (h ∙ ap size e ∙ sym k))
  | inr (inl l) ↦ inl (inl l)
  | inr (inr l) ↦ inr (inl (inl l))
]
