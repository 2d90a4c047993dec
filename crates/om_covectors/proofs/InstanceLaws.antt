-- From the scans to the axioms and to the first violated instance.
--
-- Main results: axioms_met: where no scan finds an instance, the axioms hold; first_uncomposed_violated,
-- first_blocked_violated: what a scan finds is the first violated instance; violated_breaks: a violated instance breaks
-- the axioms.
use Rattle.std.proofs.Common.{ℕ, ◌≡◌, ◌+◌, ◌-◌, ◌<◌, ◌≤◌, List, [], ◌∷◌, length, subst, arith, inl, inr}
use Rattle.std.specs.List.{Contains}
use Rattle.om_signs.specs.declared.sign.Sign.{Sign}
use Rattle.om_signs.specs.SignVec.{compose}
use Rattle.om_covectors.specs.declared.cov_refused.CovRefused.{CovRefused}
use Rattle.om_covectors.specs.declared.cov_refused.CovRefused.TheVariants.{NoZero, NoNegative, NoComposition}
use Rattle.om_covectors.specs.declared.cov_refused.CovRefused.TheVariants.{NoElimination}
use Rattle.om_members.specs.Vectors.{negated}
use Rattle.om_covectors.specs.Vectors.{IsSeparatedAt}
use Rattle.om_covectors.specs.Axioms.{HasZero, HasCovectorEliminator, MeetsCovectorAxioms}
use Rattle.om_members.specs.Listings.{HaveLength}
use Rattle.om_members.specs.Positions.{IsPosition, IsBefore}
use Rattle.om_covectors.specs.Instances.{HasNoCovectorEliminator, IsViolatedCovectorAxiom, covector_key}
use Rattle.om_covectors.specs.Instances.{IsFirstViolatedCovectorAxiom}
use Rattle.om_members.specs.Scans.{nth, AllBelow, IsFirstBadPair, HasNegativeAt, IsFirstBad, HasNoNegativeAt}
use Rattle.om_covectors.specs.Scans.{HasCompositionAt, HasNoCompositionAt, HasCovectorEliminatorIfAsked, IsUnblockedAt}
use Rattle.om_covectors.specs.Scans.{IsFirstBlocked}
use Rattle.om_covectors.proofs.MaskLaws.{element_within}
use Rattle.om_members.proofs.OrderLaws.{same_number, greater_number, last_number}
use Rattle.om_members.proofs.ScanLaws.{nth_contained, pairs_of_members, position_member}

-- ---- one axiom at one instance

pub not_both_blocked : (members : List (List Sign)) (X Y : List Sign) (e : ℕ)
    → HasCovectorEliminatorIfAsked members X Y e → HasNoCovectorEliminator members X Y e → ⊥
not_both_blocked members X Y e h v = v.none (h v.element v.separated)

module _ (members : List (List Sign)) where
  none_negative : AllBelow (length members) (HasNegativeAt members) → (i : ℕ)
      → IsViolatedCovectorAxiom members (NoNegative i) → ⊥
  none_negative h i v = let p = v.0.0 in let q = v.0.1 in v.1 (h (i - 1) (omega arith))

  none_uncomposed : AllBelow (length members) (λ i. AllBelow (length members) (HasCompositionAt members i)) → (i j : ℕ)
      → IsViolatedCovectorAxiom members (NoComposition i j) → ⊥
  none_uncomposed h i j v =
      let p = v.0.0 in let q = v.0.1 in let r = v.1.0 in let s = v.1.1 in
      v.2 (h (i - 1) (omega arith) (j - 1) (omega arith))

  -- ---- the first violated instance

  -- a list without the zero vector violates the first axiom, before all others
  pub no_zero_violated : (HasZero members → ⊥) → IsFirstViolatedCovectorAxiom members NoZero
  no_zero_violated none = record { violated = none; first = before }
    where
      before : (other : CovRefused) → IsBefore (covector_key other) (covector_key NoZero)
          → IsViolatedCovectorAxiom members other → ⊥
      before NoZero o v = let l = last_number 0 0 o in absurd (omega arith)
      before (NoNegative a) o v = greater_number 1 0 (a ∷ []) [] (omega arith) o
      before (NoComposition a b) o v = greater_number 2 0 (a ∷ b ∷ []) [] (omega arith) o
      before (NoElimination a b d) o v = greater_number 3 0 (a ∷ b ∷ d ∷ []) [] (omega arith) o

  -- the first member without its negative is the first violated instance, if there is a zero vector
  pub first_negative_violated : (i : ℕ) → HasZero members
      → IsFirstBad (length members) (HasNoNegativeAt members) (HasNegativeAt members) i
      → IsFirstViolatedCovectorAxiom members (NoNegative (i + 1))
  first_negative_violated i hz f = record { violated = ((omega arith, here), none); first = before }
    where
      here : i + 1 ≤ length members
      here = let l = f.within in omega arith

      none : HasNoNegativeAt members (i + 1 - 1)
      none = let a : i ≡ i + 1 - 1 = omega arith in subst (HasNoNegativeAt members) a f.bad

      before : (other : CovRefused) → IsBefore (covector_key other) (covector_key (NoNegative (i + 1)))
          → IsViolatedCovectorAxiom members other → ⊥
      before NoZero o v = v hz
      before (NoNegative a) o v =
          let p = v.0.0 in
          let lt = last_number a (i + 1) (same_number 1 (a ∷ []) ((i + 1) ∷ []) o) in
          v.1 (f.before (a - 1) (omega arith))
      before (NoComposition a b) o v = greater_number 2 1 (a ∷ b ∷ []) ((i + 1) ∷ []) (omega arith) o
      before (NoElimination a b d) o v = greater_number 3 1 (a ∷ b ∷ d ∷ []) ((i + 1) ∷ []) (omega arith) o

  pub first_uncomposed_violated : (i j : ℕ) → HasZero members → AllBelow (length members) (HasNegativeAt members)
      → IsFirstBadPair (length members) (length members) (HasNoCompositionAt members) (HasCompositionAt members) i j
      → IsFirstViolatedCovectorAxiom members (NoComposition (i + 1) (j + 1))
  first_uncomposed_violated i j hz hn f =
      record { violated = ((omega arith, here), (omega arith, there), bad); first = before }
    where
      here : i + 1 ≤ length members
      here = let l = f.within in omega arith

      there : j + 1 ≤ length members
      there = let l = f.second.within in omega arith

      bad : HasNoCompositionAt members (i + 1 - 1) (j + 1 - 1)
      bad =
          let a : i ≡ i + 1 - 1 = omega arith in
          let b : j ≡ j + 1 - 1 = omega arith in
          subst (λ k. HasNoCompositionAt members k (j + 1 - 1)) a
          (subst (λ k. HasNoCompositionAt members i k) b f.second.bad)

      -- an instance of the same axiom
      same : (a b : ℕ) → IsBefore (a ∷ b ∷ []) ((i + 1) ∷ (j + 1) ∷ [])
          → IsViolatedCovectorAxiom members (NoComposition a b) → ⊥
      same a b (inl lt) v =
          let p = v.0.0 in let r = v.1.0 in let s = v.1.1 in
          v.2 (f.before (a - 1) (omega arith) (b - 1) (omega arith))
      same a b (inr o) v =
          let p = v.1.0 in
          let lt = last_number b (j + 1) o.1 in
          let e : a - 1 ≡ i = let q = o.0 in omega arith in
          subst (λ k. HasNoCompositionAt members k (b - 1)) e v.2 (f.second.before (b - 1) (omega arith))

      before : (other : CovRefused) → IsBefore (covector_key other) (covector_key (NoComposition (i + 1) (j + 1)))
          → IsViolatedCovectorAxiom members other → ⊥
      before NoZero o v = v hz
      before (NoNegative a) o v = none_negative hn a v
      before (NoComposition a b) o v = same a b (same_number 2 (a ∷ b ∷ []) ((i + 1) ∷ (j + 1) ∷ []) o) v
      before (NoElimination a b d) o v = greater_number 3 2 (a ∷ b ∷ d ∷ []) ((i + 1) ∷ (j + 1) ∷ []) (omega arith) o

  module _ (n : ℕ) (lengths : HaveLength n members) where
    -- an element of the separation from a member is one of the n
    separated_within : (i e : ℕ) (Y : List Sign) → i < length members → IsSeparatedAt (nth members i) Y e → e < n + 1
    separated_within i e Y l s = element_within (nth members i) Y e n (lengths i [] l) s

    none_blocked_at : (i j e : ℕ) → IsPosition members i → IsPosition members j → IsUnblockedAt members n (i - 1)
        → HasNoCovectorEliminator members (nth members (i - 1)) (nth members (j - 1)) e → ⊥
    none_blocked_at i j e p q h v =
        let a = p.0 in let b = p.1 in let c = q.0 in let d = q.1 in
        not_both_blocked members (nth members (i - 1)) (nth members (j - 1)) e
        (h (j - 1) (omega arith) e (separated_within (i - 1) e (nth members (j - 1)) (omega arith) v.separated)) v

    pub first_blocked_violated : (i j e : ℕ) → HasZero members → AllBelow (length members) (HasNegativeAt members)
        → AllBelow (length members) (λ i. AllBelow (length members) (HasCompositionAt members i))
        → IsFirstBlocked members n i j e → IsFirstViolatedCovectorAxiom members (NoElimination (i + 1) (j + 1) e)
    first_blocked_violated i j e hz hn hc f =
        record { violated = ((omega arith, here), (omega arith, there), blocked); first = before }
      where
        here : i + 1 ≤ length members
        here = let l = f.within in omega arith

        there : j + 1 ≤ length members
        there = let l = f.rest.within in omega arith

        blocked : HasNoCovectorEliminator members (nth members (i + 1 - 1)) (nth members (j + 1 - 1)) e
        blocked =
            let a : i ≡ i + 1 - 1 = omega arith in
            let b : j ≡ j + 1 - 1 = omega arith in
            subst (λ k. HasNoCovectorEliminator members (nth members k) (nth members (j + 1 - 1)) e) a
            (subst (λ k. HasNoCovectorEliminator members (nth members i) (nth members k) e) b f.rest.second.bad)

        -- an instance of the same axiom and first member
        later : (b d : ℕ) → IsBefore (b ∷ d ∷ []) ((j + 1) ∷ e ∷ []) → IsPosition members b
            → HasNoCovectorEliminator members (nth members i) (nth members (b - 1)) d → ⊥
        later b d (inl lt) p v =
            let low = p.0 in
            not_both_blocked members (nth members i) (nth members (b - 1)) d
            (f.rest.before (b - 1) (omega arith) d
            (separated_within i d (nth members (b - 1)) f.within v.separated)) v
        later b d (inr (q, o)) p v =
            let lt = last_number d e o in
            let e' : b - 1 ≡ j = omega arith in
            not_both_blocked members (nth members i) (nth members j) d (f.rest.second.before d lt)
            (subst (λ k. HasNoCovectorEliminator members (nth members i) (nth members k) d) e' v)

        -- an instance of the same axiom
        same : (a b d : ℕ) → IsBefore (a ∷ b ∷ d ∷ []) ((i + 1) ∷ (j + 1) ∷ e ∷ [])
            → IsViolatedCovectorAxiom members (NoElimination a b d) → ⊥
        same a b d (inl lt) v = let p = v.0.0 in none_blocked_at a b d v.0 v.1 (f.before (a - 1) (omega arith)) v.2
        same a b d (inr (q, o)) v =
            let e' : a - 1 ≡ i = omega arith in
            later b d o v.1
            (subst (λ k. HasNoCovectorEliminator members (nth members k) (nth members (b - 1)) d) e' v.2)

        before : (other : CovRefused) → IsBefore (covector_key other) (covector_key (NoElimination (i + 1) (j + 1) e))
            → IsViolatedCovectorAxiom members other → ⊥
        before NoZero o v = v hz
        before (NoNegative a) o v = none_negative hn a v
        before (NoComposition a b) o v = none_uncomposed hc a b v
        before (NoElimination a b d) o v = same a b d (same_number 3 (a ∷ b ∷ d ∷ []) ((i + 1) ∷ (j + 1) ∷ e ∷ []) o) v

  -- ---- the axioms

  pub axioms_met : (n : ℕ) → HaveLength n members → HasZero members → AllBelow (length members) (HasNegativeAt members)
      → AllBelow (length members) (λ i. AllBelow (length members) (HasCompositionAt members i))
      → AllBelow (length members) (IsUnblockedAt members n) → MeetsCovectorAxioms members
  axioms_met n lengths hz hn hc hf = record {
    zero = hz;
    symmetric = λ X x. subst (λ Z. Contains members (negated Z)) (nth_contained members X x) (hn x.0 x.1);
    compositions = pairs_of_members members (λ X Y. Contains members (compose X Y)) hc;
    elimination = pairs_of_members members
        (λ X Y. (e : ℕ) → 1 ≤ e → IsSeparatedAt X Y e → HasCovectorEliminator members X Y e)
        (λ i li j lj e low s. hf i li j lj e (separated_within n lengths i e (nth members j) li s) low s);
  }

  -- a violated instance breaks the axioms
  pub violated_breaks : (why : CovRefused) → IsViolatedCovectorAxiom members why → MeetsCovectorAxioms members → ⊥
  violated_breaks NoZero v ax = v ax.zero
  violated_breaks (NoNegative i) v ax = v.1 (ax.symmetric (nth members (i - 1)) (position_member members i v.0))
  violated_breaks (NoComposition i j) v ax =
      v.2 (ax.compositions (nth members (i - 1)) (nth members (j - 1)) (position_member members i v.0)
      (position_member members j v.1))
  violated_breaks (NoElimination i j e) v ax =
      v.2.none (ax.elimination (nth members (i - 1)) (nth members (j - 1)) (position_member members i v.0)
      (position_member members j v.1) e v.2.element v.2.separated)
