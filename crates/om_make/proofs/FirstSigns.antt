-- Distinct sign vectors by their first signs, and how many members a family has by its deletion and its contraction of
-- the first element.
--
-- Main definitions: IsDeleted, IsContracted, the deletion and the contraction of the first element of a family.
-- Main results: fewer (a family without more than a number of members has none with more than a greater one); split (a
-- list of distinct vectors, by their first signs); few_by_minors (a family has no more members than its deletion and
-- twice its contraction without the zero vector, or than three times its contraction where the vector that is nonzero
-- at the first element alone is a member).
-- Reference: Björner, Las Vergnas, Sturmfels, White and Ziegler, Oriented Matroids, chapter 4.
use Rattle.std.specs.List.{Contains, list_any}
use Rattle.std.proofs.Common.{ℕ, suc, ◌≡◌, ◌≢◌, ◌+◌, ◌*◌, ◌≤◌, ◌⊎◌, List, [], ◌∷◌, length, refl, sym, subst, ◌∙◌, inl}
use Rattle.std.proofs.Common.{inr, ⊎_elim, arith}
use Rattle.std.proofs.lemmas.Bool.{cases_lt, cases_Bool}
use Rattle.std.proofs.lemmas.List.Elements.{All-contains, All-contains_itself}
use Rattle.std.proofs.lemmas.List.Kept.{AllPairs-cons}
use Rattle.om_signs.specs.declared.sign.Sign.{Sign}
use Rattle.om_signs.specs.declared.sign.Sign.TheVariants.{Minus, Zero, Plus}
use Rattle.om_signs.specs.OrderLaws.{same_masks}
use Rattle.om_signs.proofs.Contained.{none_contained, contains_first, contains_later, first_or_later}
use Rattle.om_signs.proofs.SignLaws.{zero_or_nonzero, equal_or_opposite, plus_nonzero, minus_nonzero}
use Rattle.om_laws.specs.Signs.{IsNonzero}
use Rattle.om_members.specs.Listings.{AreDistinct}
use Rattle.om_denotation.specs.Listings.{HasMoreThan}
use Rattle.om_convert.proofs.KeyLaws.{contained, not_contained}

-- ---- distinct members of a family

-- distinct vectors, each of which has a property
record AreSome (P : List Sign → Type 0) (xs : List (List Sign)) : Type 0 where
  distinct : AreDistinct xs
  each : (X : List Sign) → Contains xs X → P X

some_none : (P : List Sign → Type 0) → AreSome P []
some_none P = record { distinct = λ i j d l m. absurd (omega arith); each = λ X c. absurd (none_contained X c) }

some_more : (P Q : List Sign → Type 0) (X : List Sign) (xs : List (List Sign)) → ((Y : List Sign) → P Y → Q Y) → Q X
    → (Contains xs X → ⊥) → AreSome P xs → AreSome Q (X ∷ xs)
some_more P Q X xs f q new s = record {
  distinct =
      AllPairs-cons (λ Y Z. Y ≢ Z) X xs (λ i d l e. new (subst (Contains xs) (sym e) (All-contains_itself xs i d l)))
      s.distinct;
  each = λ Y c. ⊎_elim (λ e. subst Q e q) (λ k. f Y (s.each Y k)) (first_or_later X xs Y c);
}

some_weaker : (P Q : List Sign → Type 0) (xs : List (List Sign)) → ((Y : List Sign) → P Y → Q Y) → AreSome P xs
    → AreSome Q xs
some_weaker P Q xs f s = record { distinct = s.distinct; each = λ X c. f X (s.each X c) }

some_few : (P : List Sign → Type 0) (xs : List (List Sign)) (k : ℕ) → AreSome P xs → (HasMoreThan k P → ⊥)
    → length xs ≤ k
some_few P xs k s few = ⊎_elim
    (λ l. absurd
    (few (record {
      members = xs;
      many = l;
      distinct = s.distinct;
      each =
          λ i d m. s.each _ (All-contains_itself xs i d m);
    })))
    (λ l. l)
    (cases_lt k (length xs))

some_or_none : (P : List Sign → Type 0) (xs : List (List Sign)) → AreSome P xs → ((Y : List Sign) × P Y)
    ⊎ (length xs ≡ 0)
some_or_none P [] s = inr refl
some_or_none P (Y ∷ xs) s = inl (Y, s.each Y (contains_first Y xs))

pub fewer : (j k : ℕ) (P : List Sign → Type 0) → j ≤ k → (HasMoreThan j P → ⊥) → HasMoreThan k P → ⊥
fewer j k P l few more =
    few (record {
      members = more.members;
      many = (let m = more.many in omega arith);
      distinct = more.distinct;
      each =
          more.each;
    })

-- ---- the first signs

-- a nonzero sign stands before Y
abbrev HasNonzeroFirst : List (List Sign) → List Sign → Type 0
HasNonzeroFirst xs Y = (s : Sign) × IsNonzero s × Contains xs (s ∷ Y)

-- each nonzero sign stands before Y
abbrev HasBothFirst : List (List Sign) → List Sign → Type 0
HasBothFirst xs Y = (s : Sign) → IsNonzero s → Contains xs (s ∷ Y)

-- zero stands before Y
abbrev HasZeroFirst : List (List Sign) → List Sign → Type 0
HasZeroFirst xs Y = Contains xs (Zero ∷ Y)

-- the rest of the vectors: those behind a nonzero sign, each once; those behind both nonzero signs; and those behind a
-- zero
record IsSplit (xs : List (List Sign)) : Type 0 where
  once : List (List Sign)
  twice : List (List Sign)
  zero : List (List Sign)
  size : length xs ≡ length once + length twice + length zero
  nonzero_first : AreSome (HasNonzeroFirst xs) once
  both_first : AreSome (HasBothFirst xs) twice
  zero_first : AreSome (HasZeroFirst xs) zero

module _ (s : Sign) (Y : List Sign) (xs : List (List Sign)) (new : Contains xs (s ∷ Y) → ⊥) (r : IsSplit xs) where
  later_nonzero : (Z : List Sign) → HasNonzeroFirst xs Z → HasNonzeroFirst ((s ∷ Y) ∷ xs) Z
  later_nonzero Z (t, n, c) = (t, n, contains_later (s ∷ Y) xs (t ∷ Z) c)

  later_both : (Z : List Sign) → HasBothFirst xs Z → HasBothFirst ((s ∷ Y) ∷ xs) Z
  later_both Z h t n = contains_later (s ∷ Y) xs (t ∷ Z) (h t n)

  later_zero : (Z : List Sign) → HasZeroFirst xs Z → HasZeroFirst ((s ∷ Y) ∷ xs) Z
  later_zero Z c = contains_later (s ∷ Y) xs (Zero ∷ Z) c

  split_zero : s ≡ Zero → IsSplit ((s ∷ Y) ∷ xs)
  split_zero e = record {
    once = r.once;
    twice = r.twice;
    zero = Y ∷ r.zero;
    size = let q = r.size in omega arith;
    nonzero_first = some_weaker (HasNonzeroFirst xs) (HasNonzeroFirst ((s ∷ Y) ∷ xs)) r.once later_nonzero
        r.nonzero_first;
    both_first = some_weaker (HasBothFirst xs) (HasBothFirst ((s ∷ Y) ∷ xs)) r.twice later_both r.both_first;
    zero_first = some_more (HasZeroFirst xs) (HasZeroFirst ((s ∷ Y) ∷ xs)) Y r.zero later_zero
        (subst (λ t. Contains ((s ∷ Y) ∷ xs) (t ∷ Y)) e (contains_first (s ∷ Y) xs))
        (λ c. new (subst (λ t. Contains xs (t ∷ Y)) (sym e) (r.zero_first.each Y c))) r.zero_first;
  }

  split_nonzero : IsNonzero s → IsSplit ((s ∷ Y) ∷ xs)
  split_nonzero n = ⊎_elim (λ q. again (contained r.once Y q)) (λ q. first (not_contained r.once Y q))
      (cases_Bool (list_any (same_masks Y) r.once))
    where
      first : (Contains r.once Y → ⊥) → IsSplit ((s ∷ Y) ∷ xs)
      first out = record {
        once = Y ∷ r.once;
        twice = r.twice;
        zero = r.zero;
        size = let q = r.size in omega arith;
        nonzero_first = some_more (HasNonzeroFirst xs) (HasNonzeroFirst ((s ∷ Y) ∷ xs)) Y r.once later_nonzero
            (s, n, contains_first (s ∷ Y) xs) out r.nonzero_first;
        both_first = some_weaker (HasBothFirst xs) (HasBothFirst ((s ∷ Y) ∷ xs)) r.twice later_both r.both_first;
        zero_first = some_weaker (HasZeroFirst xs) (HasZeroFirst ((s ∷ Y) ∷ xs)) r.zero later_zero r.zero_first;
      }

      -- the other of the two nonzero signs stands before Y too
      other : (t : Sign) → IsNonzero t → Contains xs (t ∷ Y) → HasBothFirst ((s ∷ Y) ∷ xs) Y
      other t nt c u nu = ⊎_elim
          (λ e. subst (λ v. Contains ((s ∷ Y) ∷ xs) (v ∷ Y)) (sym e) (contains_first (s ∷ Y) xs))
          (λ e. ⊎_elim
          (λ q. absurd (new (subst (λ v. Contains xs (v ∷ Y)) q c)))
          (λ q. contains_later (s ∷ Y) xs (u ∷ Y) (subst (λ v. Contains xs (v ∷ Y)) (q ∙ sym e) c))
          (equal_or_opposite t s nt n))
          (equal_or_opposite u s nu n)

      again : Contains r.once Y → IsSplit ((s ∷ Y) ∷ xs)
      again c = record {
        once = r.once;
        twice = Y ∷ r.twice;
        zero = r.zero;
        size = let q = r.size in omega arith;
        nonzero_first = some_weaker (HasNonzeroFirst xs) (HasNonzeroFirst ((s ∷ Y) ∷ xs)) r.once later_nonzero
            r.nonzero_first;
        both_first = some_more (HasBothFirst xs) (HasBothFirst ((s ∷ Y) ∷ xs)) Y r.twice later_both
            (let h = r.nonzero_first.each Y c in other h.0 h.1 h.2) (λ k. new (r.both_first.each Y k s n)) r.both_first;
        zero_first = some_weaker (HasZeroFirst xs) (HasZeroFirst ((s ∷ Y) ∷ xs)) r.zero later_zero r.zero_first;
      }

split : (n : ℕ) (xs : List (List Sign)) → AreDistinct xs → ((X : List Sign) → Contains xs X → length X ≡ suc n)
    → IsSplit xs
split n [] d size = record {
  once = [];
  twice = [];
  zero = [];
  size = refl;
  nonzero_first = some_none (HasNonzeroFirst []);
  both_first = some_none (HasBothFirst []);
  zero_first = some_none (HasZeroFirst []);
}
split n ([] ∷ xs) d size = absurd (let l = size [] (contains_first [] xs) in omega arith)
split n ((s ∷ Y) ∷ xs) d size =
    let r = split n xs (λ i j e l m. d (suc i) (suc j) e (omega arith) (omega arith))
    (λ X c. size X (contains_later (s ∷ Y) xs X c)) in
    ⊎_elim (split_zero s Y xs new r) (split_nonzero s Y xs new r) (zero_or_nonzero s)
  where
    new : Contains xs (s ∷ Y) → ⊥
    new c = d 0 (suc c.0) (s ∷ Y) (omega arith) (let l = c.1 in omega arith) (sym c.2)

-- ---- how many members a family has

-- the deletion of the first element: the members without their first signs
abbrev pub IsDeleted : (List Sign → Type 0) → List Sign → Type 0
IsDeleted P Y = (s : Sign) × P (s ∷ Y)

-- the contraction of the first element: the members whose first sign is zero, without it
abbrev pub IsContracted : (List Sign → Type 0) → List Sign → Type 0
IsContracted P Y = P (Zero ∷ Y)

-- O is the zero vector of the rest; where a nonzero sign stands before it, the first element is a coloop, and each rest
-- behind a nonzero sign is a member of the contraction
module _ (n b z k : ℕ) (P : List Sign → Type 0) (size : (X : List Sign) → P X → length X ≡ suc n)
    (eliminated : (Y : List Sign) → P (Plus ∷ Y) → P (Minus ∷ Y) → IsContracted P Y)
    (O : List Sign) (origin : IsContracted P O)
    (dropped : (s t : Sign) (Y : List Sign) → IsNonzero s → IsNonzero t → P (s ∷ O) → P (t ∷ Y) → IsContracted P Y)
    (deleted : HasMoreThan b (IsDeleted P) → ⊥)
    (contracted : (s : Sign) (Y : List Sign) → IsNonzero s → P (s ∷ Y) → HasMoreThan z (IsContracted P) → ⊥)
    (loop : b ≤ k) (coloop : 3 * z ≤ k) (neither : b + 2 * z ≤ k + 2)
  where
    module _ (xs : List (List Sign)) (each : (X : List Sign) → Contains xs X → P X) (r : IsSplit xs) where
      of_nonzero : (Y : List Sign) → HasNonzeroFirst xs Y → IsDeleted P Y
      of_nonzero Y h = (h.0, each (h.0 ∷ Y) h.2)

      of_both : (Y : List Sign) → HasBothFirst xs Y → IsContracted P Y
      of_both Y h = eliminated Y (each (Plus ∷ Y) (h Plus plus_nonzero)) (each (Minus ∷ Y) (h Minus minus_nonzero))

      -- where no first sign is nonzero, the deletion has as many members
      by_loop : length r.once ≡ 0 → length r.twice ≡ 0 → length xs ≤ k
      by_loop once twice =
          let d = some_few (IsDeleted P) r.zero b
          (some_weaker (HasZeroFirst xs) (IsDeleted P) r.zero (λ Y c. (Zero, each (Zero ∷ Y) c)) r.zero_first)
          deleted in
          let q = r.size in
          omega arith

      module _ (few : HasMoreThan z (IsContracted P) → ⊥) where
        few_zero : length r.zero ≤ z
        few_zero =
            some_few (IsContracted P) r.zero z
            (some_weaker (HasZeroFirst xs) (IsContracted P) r.zero (λ Y c. each (Zero ∷ Y) c) r.zero_first) few

        -- where a nonzero sign stands before O, each rest is a member of the contraction
        by_coloop : (s : Sign) → IsNonzero s → P (s ∷ O) → length xs ≤ k
        by_coloop s n o =
            let a = some_few (IsContracted P) r.once z
            (some_weaker (HasNonzeroFirst xs) (IsContracted P) r.once
            (λ Y h. dropped s h.0 Y n h.1 o (each (h.0 ∷ Y) h.2)) r.nonzero_first) few in
            let t = some_few (IsContracted P) r.twice z
            (some_weaker (HasBothFirst xs) (IsContracted P) r.twice of_both r.both_first) few in
            let l = few_zero in
            let q = r.size in
            omega arith

        -- where none does, O is one more member of the deletion and of the contraction
        by_neither : (Contains r.once O → ⊥) → (Contains r.twice O → ⊥) → length xs ≤ k
        by_neither not_once not_twice =
            let a = some_few (IsDeleted P) (O ∷ r.once) b
            (some_more (HasNonzeroFirst xs) (IsDeleted P) O r.once of_nonzero (Zero, origin) not_once
            r.nonzero_first) deleted in
            let t = some_few (IsContracted P) (O ∷ r.twice) z
            (some_more (HasBothFirst xs) (IsContracted P) O r.twice of_both origin not_twice r.both_first) few in
            let l = few_zero in
            let q = r.size in
            omega arith

        by_nonzero : length xs ≤ k
        by_nonzero = ⊎_elim
            (λ q. let h = r.nonzero_first.each O (contained r.once O q) in by_coloop h.0 h.1 (each (h.0 ∷ O) h.2))
            (λ q. ⊎_elim
            (λ p. by_coloop Plus plus_nonzero
            (each (Plus ∷ O) (r.both_first.each O (contained r.twice O p) Plus plus_nonzero)))
            (λ p. by_neither (not_contained r.once O q) (not_contained r.twice O p))
            (cases_Bool (list_any (same_masks O) r.twice)))
            (cases_Bool (list_any (same_masks O) r.once))

      split_few : length xs ≤ k
      split_few = ⊎_elim
          (λ y. by_nonzero (contracted y.1.0 y.0 y.1.1 (each (y.1.0 ∷ y.0) y.1.2)))
          (λ once. ⊎_elim
          (λ y. by_nonzero (contracted Plus y.0 plus_nonzero (each (Plus ∷ y.0) (y.1 Plus plus_nonzero))))
          (λ twice. by_loop once twice)
          (some_or_none (HasBothFirst xs) r.twice r.both_first))
          (some_or_none (HasNonzeroFirst xs) r.once r.nonzero_first)

    pub few_by_minors : HasMoreThan k P → ⊥
    few_by_minors more =
        let each : (X : List Sign) → Contains more.members X → P X = λ X c. All-contains P more.members X more.each c in
        let l = split_few more.members each (split n more.members more.distinct (λ X c. size X (each X c))) in
        let m = more.many in
        omega arith
