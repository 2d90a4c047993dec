-- From increasing lists to all lists.
--
-- Main definitions: IsRising, HasEqualNeighbours, IsAboveEach.
-- Main results: what holds of increasing lists and of lists with equal neighbours, and is kept where neighbours change
-- places, holds of all lists (by_sorting); a map is its own value on increasing lists (value_increasing); two
-- alternating maps that agree on increasing lists are equal (alternating_equal); an increasing list is distinct
-- (increasing_distinct).
use Rattle.std.proofs.lemmas.Bool.{cases_eq, cases_lt, lt-ltb, le-ltb}
use Rattle.std.proofs.Common.{ℕ, List, refl, arith, inl, inr, sym, ap, subst, append_assoc, ◌≡◌, ◌≢◌, ◌⊎◌, ◌∷◌, ◌++◌}
use Rattle.std.proofs.Common.{◌<◌, ◌≤◌, [], ◌∙◌}
use Rattle.om_signs.specs.declared.sign.Sign.{Sign}
use Rattle.om_signs.specs.declared.sign.Sign.TheVariants.{Plus}
use Rattle.om_signs.specs.Sign.{opposite}
use Rattle.om_laws.specs.Members.{IsMember, IsDistinct}
use Rattle.om_laws.specs.Tuples.{IsAlternating, before_sign, sort_sign, insert, sorted, value}
use Rattle.om_laws.specs.Sorting.{IsIncreasing}
use Rattle.om_laws.proofs.TupleLaws.{neighbours_zero}
pub use Rattle.om_signs.proofs.Numbers.{increasing_tail}

-- no number is above the next
abbrev pub IsRising : List ℕ → Type 0
IsRising [] = Unit {0}
IsRising (x ∷ []) = Unit {0}
IsRising (x ∷ y ∷ zs) = (x ≤ y) × IsRising (y ∷ zs)

insert_rising_step : (x y z : ℕ) (zs : List ℕ) → (y ≤ z) × IsRising (z ∷ zs) → IsRising (insert x (z ∷ zs))
    → IsRising (insert x (y ∷ z ∷ zs))
insert_rising_step x y z zs r h = elim (cases_lt x y) [
  | inl lt ↦ rw (lt-ltb x y lt) (le_from x y lt, (r.0, r.1))
  | inr ge ↦ rw (le-ltb x y ge) (elim (cases_lt x z) [
    | inl lt ↦ rw (lt-ltb x z lt) (ge, (le_from x z lt, r.1))
    | inr ge2 ↦ rw (le-ltb x z ge2) (r.0, (rw (le-ltb x z ge2) at h))
  ])
]
  where
    le_from : (a b : ℕ) → a < b → a ≤ b
    le_from a b l = omega arith

insert_rising_one : (x y : ℕ) → IsRising (insert x (y ∷ []))
insert_rising_one x y = elim (cases_lt x y) [
  | inl lt ↦ rw (lt-ltb x y lt) (let l : x ≤ y = omega arith in (l, tt))
  | inr ge ↦ rw (le-ltb x y ge) (ge, tt)
]

insert_rising : (x : ℕ) (ys : List ℕ) → IsRising ys → IsRising (insert x ys)
insert_rising x [] r = tt
insert_rising x (y ∷ []) r = insert_rising_one x y
insert_rising x (y ∷ z ∷ zs) r = insert_rising_step x y z zs r (insert_rising x (z ∷ zs) r.1)

sorted_rising : (xs : List ℕ) → IsRising (sorted xs)
sorted_rising [] = tt
sorted_rising (x ∷ xs) = insert_rising x (sorted xs) (sorted_rising xs)

-- a list with equal neighbours
abbrev pub HasEqualNeighbours : List ℕ → Type 0
HasEqualNeighbours xs = (x : ℕ) × (cs : List ℕ) × (bs : List ℕ) × (cs ++ x ∷ x ∷ bs ≡ xs)

increasing_or_repeat : (xs : List ℕ) → IsRising xs → IsIncreasing xs ⊎ HasEqualNeighbours xs
increasing_or_repeat [] r = inl tt
increasing_or_repeat (x ∷ []) r = inl tt
increasing_or_repeat (x ∷ y ∷ zs) r = elim (cases_eq x y) [
  | inl e ↦ inr (x, [], zs, ap (λ k. x ∷ k ∷ zs) e)
  | inr n ↦ elim (increasing_or_repeat (y ∷ zs) r.1) [
    | inl i ↦ inl (less x y r.0 n, i)
    | inr (w, cs, bs, e) ↦ inr (w, x ∷ cs, bs, ap (λ k. x ∷ k) e)
  ]
]
  where
    less : (a b : ℕ) → a ≤ b → a ≢ b → a < b
    less a b l n = omega arith

module _ (P : List ℕ → Type 0)
    (swap : (x y : ℕ) (cs bs : List ℕ) → P (cs ++ x ∷ y ∷ bs) → P (cs ++ y ∷ x ∷ bs)) where
  move_in : (x : ℕ) (ys cs : List ℕ) → P (cs ++ insert x ys) → P (cs ++ x ∷ ys)
  move_in x [] cs h = h
  move_in x (y ∷ ys) cs h = elim (cases_lt x y) [
    | inl lt ↦ rw (lt-ltb x y lt) at h
    | inr ge ↦
        let h1 : P (cs ++ y ∷ insert x ys) = rw (le-ltb x y ge) at h in
        let h2 : P ((cs ++ y ∷ []) ++ insert x ys) = rw append_assoc h1 in
        let h3 : P (cs ++ y ∷ x ∷ ys) = rw append_assoc at (move_in x ys (cs ++ y ∷ []) h2) in
        swap y x cs ys h3
  ]

  from_sorted : (xs cs : List ℕ) → P (cs ++ sorted xs) → P (cs ++ xs)
  from_sorted [] cs h = h
  from_sorted (x ∷ xs) cs h =
      let h1 : P ((cs ++ x ∷ []) ++ sorted xs) = rw append_assoc (move_in x (sorted xs) cs h) in
      rw append_assoc at (from_sorted xs (cs ++ x ∷ []) h1)

  -- what is kept where neighbours change places, and holds of increasing lists and at equal neighbours, always holds
  pub by_sorting : ((x : ℕ) (cs bs : List ℕ) → P (cs ++ x ∷ x ∷ bs)) → ((xs : List ℕ) → IsIncreasing xs → P xs)
      → (xs : List ℕ) → P xs
  by_sorting repeat increasing xs = from_sorted xs [] (elim (increasing_or_repeat (sorted xs) (sorted_rising xs)) [
    | inl i ↦ increasing (sorted xs) i
    | inr (x, cs, bs, e) ↦ subst P e (repeat x cs bs)
  ])

abbrev pub IsAboveEach : ℕ → List ℕ → Type 0
IsAboveEach x [] = Unit {0}
IsAboveEach x (y ∷ ys) = (x < y) × IsAboveEach x ys

pub increasing_head : (x : ℕ) (xs : List ℕ) → IsIncreasing (x ∷ xs) → IsAboveEach x xs
increasing_head x [] i = tt
increasing_head x (y ∷ ys) i = (i.0, below x y ys i.0 (increasing_head y ys i.1))
  where
    below : (x y : ℕ) (ys : List ℕ) → x < y → IsAboveEach y ys → IsAboveEach x ys
    below x y [] l a = tt
    below x y (z ∷ zs) l a = let k = a.0 in (omega (arith, l, k), below x y zs l a.1)

not_member : (x : ℕ) (xs : List ℕ) → IsAboveEach x xs → IsMember x xs → ⊥
not_member x [] a m = m
not_member x (y ∷ ys) a (inl q) = let l = a.0 in omega (arith, l, q)
not_member x (y ∷ ys) a (inr m) = not_member x ys a.1 m

-- an increasing list has no repeat
pub increasing_distinct : (xs : List ℕ) → IsIncreasing xs → IsDistinct xs
increasing_distinct [] i = tt
increasing_distinct (x ∷ xs) i =
    (not_member x xs (increasing_head x xs i), increasing_distinct xs (increasing_tail x xs i))

insert_front : (x : ℕ) (xs : List ℕ) → IsAboveEach x xs → (insert x xs ≡ x ∷ xs) × (before_sign x xs ≡ Plus)
insert_front x [] a = (refl, refl)
insert_front x (y ∷ ys) a =
    let i = insert_front x ys a.1 in
    rw (lt-ltb x y a.0) (refl, i.1)

in_order : (xs : List ℕ) → IsIncreasing xs → (sorted xs ≡ xs) × (sort_sign xs ≡ Plus)
in_order [] h = (refl, refl)
in_order (x ∷ xs) h =
    let i = in_order xs (increasing_tail x xs h) in
    let f = insert_front x xs (increasing_head x xs h) in
    (ap (insert x) i.0 ∙ f.0, rw (f.1, i.1) refl)

-- on an increasing list the value is the given one
pub value_increasing : (f : List ℕ → Sign) (xs : List ℕ) → IsIncreasing xs → value f xs ≡ f xs
value_increasing f xs h = let i = in_order xs h in rw (i.1, i.0) refl

-- two alternating maps that agree on increasing lists agree on all lists
pub alternating_equal : (chi psi : List ℕ → Sign) → IsAlternating chi → IsAlternating psi
    → ((xs : List ℕ) → IsIncreasing xs → chi xs ≡ psi xs) → (xs : List ℕ) → chi xs ≡ psi xs
alternating_equal chi psi a b h = by_sorting (λ xs. chi xs ≡ psi xs)
    (λ x y cs bs e. a x y cs bs ∙ ap opposite e ∙ sym (b x y cs bs))
    (λ x cs bs. neighbours_zero chi a x cs bs ∙ sym (neighbours_zero psi b x cs bs))
    h
