-- From the scans to the axioms and to the first violated instance.
--
-- Main results: axioms_met: where no scan finds an instance, the axioms hold; first_nested_violated,
-- first_blocked_violated: what a scan finds is the first violated instance; violated_breaks: a violated instance breaks
-- the axioms.
use Rattle.std.proofs.Common.{ℕ, ◌≡◌, ◌≢◌, ◌+◌, ◌-◌, ◌≤◌, List, [], ◌∷◌, length, sym, subst, arith, inl, inr}
use Rattle.std.specs.List.{Contains}
use Rattle.om_signs.specs.declared.sign.Sign.{Sign}
use Rattle.om_circuits.specs.declared.set_refused.SetRefused.{SetRefused}
use Rattle.om_circuits.specs.declared.set_refused.SetRefused.TheVariants.{Zero, NoNegative, Nested, NoElimination}
use Rattle.om_members.specs.Vectors.{negated, IsZero}
use Rattle.om_circuits.specs.Vectors.{IsOpposedAt}
use Rattle.om_circuits.specs.Axioms.{HasEliminator, MeetsCircuitAxioms}
use Rattle.om_members.specs.Listings.{HaveLength}
use Rattle.om_members.specs.Positions.{IsPosition, IsBefore}
use Rattle.om_circuits.specs.Instances.{IsNestedIn, HasNoEliminator, IsViolated, key, IsFirstViolated}
use Rattle.om_members.specs.Scans.{nth, AllBelow, IsFirstBadPair, HasNegativeAt, IsFirstBad, HasNoNegativeAt}
use Rattle.om_circuits.specs.Scans.{IsZeroAt}
use Rattle.om_circuits.specs.Scans.{IsNotZeroAt, IsUnnestedIn, HasEliminatorIfAsked, AreNestedAt, AreUnnestedAt}
use Rattle.om_circuits.specs.Scans.{IsUnblockedAt, IsFirstBlocked}
use Rattle.om_circuits.proofs.MaskLaws.{element_within}
use Rattle.om_members.proofs.OrderLaws.{same_number, greater_number, last_number}
use Rattle.om_members.proofs.ScanLaws.{nth_contained, pairs_of_members, position_member}

-- ---- one axiom at one instance

not_both_nested : (X Y : List Sign) → IsUnnestedIn X Y → IsNestedIn X Y → ⊥
not_both_nested X Y h v = elim (h v.within) [ inl e ↦ v.other e | inr e ↦ v.not_negative e ]

pub not_both_blocked : (members : List (List Sign)) (X Y : List Sign) (e : ℕ) → HasEliminatorIfAsked members X Y e
    → HasNoEliminator members X Y e → ⊥
not_both_blocked members X Y e h v = v.none (h v.element v.not_negative v.opposed)

module _ (members : List (List Sign)) where
  none_zero : AllBelow (length members) (IsNotZeroAt members) → (i : ℕ) → IsViolated members (Zero i) → ⊥
  none_zero h i v = let p = v.0.0 in let q = v.0.1 in h (i - 1) (omega arith) v.1

  none_negative : AllBelow (length members) (HasNegativeAt members) → (i : ℕ) → IsViolated members (NoNegative i) → ⊥
  none_negative h i v = let p = v.0.0 in let q = v.0.1 in v.1 (h (i - 1) (omega arith))

  none_nested : AllBelow (length members) (λ i. AllBelow (length members) (AreUnnestedAt members i)) → (i j : ℕ)
      → IsViolated members (Nested i j) → ⊥
  none_nested h i j v =
      let p = v.0.0 in let q = v.0.1 in let r = v.1.0 in let s = v.1.1 in
      not_both_nested (nth members (i - 1)) (nth members (j - 1)) (h (i - 1) (omega arith) (j - 1) (omega arith)) v.2

  module _ (n : ℕ) (lengths : HaveLength n members) where
    none_blocked_at : (i j e : ℕ) → IsPosition members i → IsPosition members j → IsUnblockedAt members n (i - 1)
        → HasNoEliminator members (nth members (i - 1)) (nth members (j - 1)) e → ⊥
    none_blocked_at i j e p q h v =
        let a = p.0 in let b = p.1 in let c = q.0 in let d = q.1 in
        let l : length (nth members (i - 1)) ≡ n = lengths (i - 1) [] (omega arith) in
        not_both_blocked members (nth members (i - 1)) (nth members (j - 1)) e
        (h (j - 1) (omega arith) e (element_within (nth members (i - 1)) e n l v.opposed.plus)) v

    -- ---- the first violated instance

    pub first_blocked_violated : (i j e : ℕ) → AllBelow (length members) (IsNotZeroAt members)
        → AllBelow (length members) (HasNegativeAt members)
        → AllBelow (length members) (λ i. AllBelow (length members) (AreUnnestedAt members i))
        → IsFirstBlocked members n i j e → IsFirstViolated members (NoElimination (i + 1) (j + 1) e)
    first_blocked_violated i j e hz hn hs f =
        record { violated = ((omega arith, here), (omega arith, there), blocked); first = before }
      where
        here : i + 1 ≤ length members
        here = let l = f.within in omega arith

        there : j + 1 ≤ length members
        there = let l = f.rest.within in omega arith

        blocked : HasNoEliminator members (nth members (i + 1 - 1)) (nth members (j + 1 - 1)) e
        blocked =
            let a : i ≡ i + 1 - 1 = omega arith in
            let b : j ≡ j + 1 - 1 = omega arith in
            subst (λ k. HasNoEliminator members (nth members k) (nth members (j + 1 - 1)) e) a
            (subst (λ k. HasNoEliminator members (nth members i) (nth members k) e) b f.rest.second.bad)

        -- an instance of the same axiom and first member
        later : (b d : ℕ) → IsBefore (b ∷ d ∷ []) ((j + 1) ∷ e ∷ []) → IsPosition members b
            → HasNoEliminator members (nth members i) (nth members (b - 1)) d → ⊥
        later b d (inl lt) p v =
            let l : length (nth members i) ≡ n = lengths i [] f.within in
            let low = p.0 in
            not_both_blocked members (nth members i) (nth members (b - 1)) d
            (f.rest.before (b - 1) (omega arith) d (element_within (nth members i) d n l v.opposed.plus)) v
        later b d (inr (q, o)) p v =
            let lt = last_number d e o in
            let e' : b - 1 ≡ j = omega arith in
            not_both_blocked members (nth members i) (nth members j) d (f.rest.second.before d lt)
            (subst (λ k. HasNoEliminator members (nth members i) (nth members k) d) e' v)

        -- an instance of the same axiom
        same : (a b d : ℕ) → IsBefore (a ∷ b ∷ d ∷ []) ((i + 1) ∷ (j + 1) ∷ e ∷ [])
            → IsViolated members (NoElimination a b d) → ⊥
        same a b d (inl lt) v = let p = v.0.0 in none_blocked_at a b d v.0 v.1 (f.before (a - 1) (omega arith)) v.2
        same a b d (inr (q, o)) v =
            let e' : a - 1 ≡ i = omega arith in
            later b d o v.1 (subst (λ k. HasNoEliminator members (nth members k) (nth members (b - 1)) d) e' v.2)

        before : (other : SetRefused) → IsBefore (key other) (key (NoElimination (i + 1) (j + 1) e))
            → IsViolated members other → ⊥
        before (Zero a) o v = none_zero hz a v
        before (NoNegative a) o v = none_negative hn a v
        before (Nested a b) o v = none_nested hs a b v
        before (NoElimination a b d) o v = same a b d (same_number 3 (a ∷ b ∷ d ∷ []) ((i + 1) ∷ (j + 1) ∷ e ∷ []) o) v

  pub first_nested_violated : (i j : ℕ) → AllBelow (length members) (IsNotZeroAt members)
      → AllBelow (length members) (HasNegativeAt members)
      → IsFirstBadPair (length members) (length members) (AreNestedAt members) (AreUnnestedAt members) i j
      → IsFirstViolated members (Nested (i + 1) (j + 1))
  first_nested_violated i j hz hn f =
      record { violated = ((omega arith, here), (omega arith, there), nested); first = before }
    where
      here : i + 1 ≤ length members
      here = let l = f.within in omega arith

      there : j + 1 ≤ length members
      there = let l = f.second.within in omega arith

      nested : IsNestedIn (nth members (i + 1 - 1)) (nth members (j + 1 - 1))
      nested =
          let a : i ≡ i + 1 - 1 = omega arith in
          let b : j ≡ j + 1 - 1 = omega arith in
          subst (λ k. IsNestedIn (nth members k) (nth members (j + 1 - 1))) a
          (subst (λ k. IsNestedIn (nth members i) (nth members k)) b f.second.bad)

      -- an instance of the same axiom
      same : (a b : ℕ) → IsBefore (a ∷ b ∷ []) ((i + 1) ∷ (j + 1) ∷ []) → IsViolated members (Nested a b) → ⊥
      same a b (inl lt) v =
          let p = v.0.0 in let q = v.0.1 in let r = v.1.0 in let s = v.1.1 in
          not_both_nested (nth members (a - 1)) (nth members (b - 1))
          (f.before (a - 1) (omega arith) (b - 1) (omega arith)) v.2
      same a b (inr o) v =
          let p = v.1.0 in
          let lt = last_number b (j + 1) o.1 in
          let e : a - 1 ≡ i = let q = o.0 in omega arith in
          not_both_nested (nth members i) (nth members (b - 1)) (f.second.before (b - 1) (omega arith))
          (subst (λ k. IsNestedIn (nth members k) (nth members (b - 1))) e v.2)

      before : (other : SetRefused) → IsBefore (key other) (key (Nested (i + 1) (j + 1))) → IsViolated members other → ⊥
      before (Zero a) o v = none_zero hz a v
      before (NoNegative a) o v = none_negative hn a v
      before (Nested a b) o v = same a b (same_number 2 (a ∷ b ∷ []) ((i + 1) ∷ (j + 1) ∷ []) o) v
      before (NoElimination a b d) o v = greater_number 3 2 (a ∷ b ∷ d ∷ []) ((i + 1) ∷ (j + 1) ∷ []) (omega arith) o

  -- the first zero vector is the first violated instance
  pub first_zero_violated : (i : ℕ) → IsFirstBad (length members) (IsZeroAt members) (IsNotZeroAt members) i
      → IsFirstViolated members (Zero (i + 1))
  first_zero_violated i f = record { violated = ((omega arith, here), zero); first = before }
    where
      here : i + 1 ≤ length members
      here = let l = f.within in omega arith

      zero : IsZeroAt members (i + 1 - 1)
      zero = let a : i ≡ i + 1 - 1 = omega arith in subst (IsZeroAt members) a f.bad

      before : (other : SetRefused) → IsBefore (key other) (key (Zero (i + 1))) → IsViolated members other → ⊥
      before (Zero a) o v =
          let p = v.0.0 in
          let lt = last_number a (i + 1) (same_number 0 (a ∷ []) ((i + 1) ∷ []) o) in
          f.before (a - 1) (omega arith) v.1
      before (NoNegative a) o v = greater_number 1 0 (a ∷ []) ((i + 1) ∷ []) (omega arith) o
      before (Nested a b) o v = greater_number 2 0 (a ∷ b ∷ []) ((i + 1) ∷ []) (omega arith) o
      before (NoElimination a b d) o v = greater_number 3 0 (a ∷ b ∷ d ∷ []) ((i + 1) ∷ []) (omega arith) o

  -- the first member without its negative is the first violated instance, if none is zero
  pub first_negative_violated : (i : ℕ) → AllBelow (length members) (IsNotZeroAt members)
      → IsFirstBad (length members) (HasNoNegativeAt members) (HasNegativeAt members) i
      → IsFirstViolated members (NoNegative (i + 1))
  first_negative_violated i hz f = record { violated = ((omega arith, here), none); first = before }
    where
      here : i + 1 ≤ length members
      here = let l = f.within in omega arith

      none : HasNoNegativeAt members (i + 1 - 1)
      none = let a : i ≡ i + 1 - 1 = omega arith in subst (HasNoNegativeAt members) a f.bad

      before : (other : SetRefused) → IsBefore (key other) (key (NoNegative (i + 1))) → IsViolated members other → ⊥
      before (Zero a) o v = none_zero hz a v
      before (NoNegative a) o v =
          let p = v.0.0 in
          let lt = last_number a (i + 1) (same_number 1 (a ∷ []) ((i + 1) ∷ []) o) in
          v.1 (f.before (a - 1) (omega arith))
      before (Nested a b) o v = greater_number 2 1 (a ∷ b ∷ []) ((i + 1) ∷ []) (omega arith) o
      before (NoElimination a b d) o v = greater_number 3 1 (a ∷ b ∷ d ∷ []) ((i + 1) ∷ []) (omega arith) o

  -- ---- the axioms

  pub axioms_met : (n : ℕ) → HaveLength n members → AllBelow (length members) (IsNotZeroAt members)
      → AllBelow (length members) (HasNegativeAt members)
      → AllBelow (length members) (λ i. AllBelow (length members) (AreUnnestedAt members i))
      → AllBelow (length members) (IsUnblockedAt members n) → MeetsCircuitAxioms members
  axioms_met n lengths hz hn hs hf = record {
    no_zero = λ X x z. hz x.0 x.1 (subst IsZero (sym (nth_contained members X x)) z);
    symmetric = λ X x. subst (λ Z. Contains members (negated Z)) (nth_contained members X x) (hn x.0 x.1);
    incomparable = pairs_of_members members IsUnnestedIn hs;
    elimination = pairs_of_members members
        (λ X Y. X ≢ negated Y → (e : ℕ) → 1 ≤ e → IsOpposedAt X Y e → HasEliminator members X Y e)
        (λ i li j lj ne e low o. hf i li j lj e (element_within (nth members i) e n (lengths i [] li) o.plus) low ne o);
  }

  -- a violated instance breaks the axioms
  pub violated_breaks : (why : SetRefused) → IsViolated members why → MeetsCircuitAxioms members → ⊥
  violated_breaks (Zero i) v ax = ax.no_zero (nth members (i - 1)) (position_member members i v.0) v.1
  violated_breaks (NoNegative i) v ax = v.1 (ax.symmetric (nth members (i - 1)) (position_member members i v.0))
  violated_breaks (Nested i j) v ax =
      not_both_nested (nth members (i - 1)) (nth members (j - 1))
      (ax.incomparable (nth members (i - 1)) (nth members (j - 1)) (position_member members i v.0)
      (position_member members j v.1))
      v.2
  violated_breaks (NoElimination i j e) v ax =
      v.2.none (ax.elimination (nth members (i - 1)) (nth members (j - 1)) (position_member members i v.0)
      (position_member members j v.1) v.2.not_negative e v.2.element v.2.opposed)
