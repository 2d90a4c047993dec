-- Lists of entries that name two places of a small side and two of a big side, with a multiplicity. Where the values of
-- each small side combine to at most those of its big side, and in one entry to less, some place doesn't stand equally
-- often on both.
--
-- Main definitions: AnyByRecursion, tally, side, IsBelow, IsOrdered, IsStrict
-- Main results: unbalanced
use Rattle.std.specs.Prelude.{ℕ, ◌≡◌, ◌+◌, ◌*◌, ◌<◌, ◌≤◌, List, [], ◌∷◌, ◌⊎◌}
use Rattle.std.proofs.Common.{sym, ◌∙◌, ap, arith, inl, inr, subst}
use Rattle.std.specs.List.{AllByRecursion as Each}
use Rattle.om_certificate.proofs.Combinations.{Combination, power, total, here, power-join, power-positive}
use Rattle.om_certificate.proofs.Combinations.{power_at_most, power_less, total-same, total-none, total-add}
use Rattle.om_certificate.proofs.Combinations.{total-place}

-- what holds of some entry of a list
abbrev pub AnyByRecursion : {E : Type 0} → (E → Type 0) → List E → Type 0
AnyByRecursion P [] = ⊥
AnyByRecursion P (e ∷ es) = P e ⊎ AnyByRecursion P es

-- how often a place stands on one side, where p and q are the two places of the side
abbrev pub tally : {E : Type 0} → (E → ℕ) → (E → ℕ) → (E → ℕ) → List E → ℕ → ℕ
tally times p q [] k = 0
tally times p q (e ∷ es) k = times e * (here k (p e) + here k (q e)) + tally times p q es k

-- the values of one side of all entries
abbrev pub side : {E : Type 0} → (C : Combination) → (ℕ → C.Value) → (E → ℕ) → (E → ℕ) → (E → ℕ) → List E → C.Value
side C f times p q [] = C.unit
side C f times p q (e ∷ es) = C.join (power C (C.join (f (p e)) (f (q e))) (times e)) (side C f times p q es)

-- the two places of one side stand below n
pub record IsBelow {E : Type 0} (p q : E → ℕ) (n : ℕ) (e : E) : Type 0 where
  pub first : p e < n
  pub second : q e < n

module _ (C : Combination) (E : Type 0) (times : E → ℕ) (f : ℕ → C.Value) (n : ℕ) where
  pub total-side : (p q : E → ℕ) (es : List E) → Each (IsBelow p q n) es
      → total C f (tally times p q es) n ≡ side C f times p q es
  total-side p q [] h = total-none C f n
  total-side p q (e ∷ es) (b, h) =
      total-add C f (λ k. times e * (here k (p e) + here k (q e))) (tally times p q es) n
      ∙ ap (λ x. C.join x (total C f (tally times p q es) n)) entry
      ∙ ap (C.join (power C (C.join (f (p e)) (f (q e))) (times e))) (total-side p q es h)
    where
      entry : total C f (λ k. times e * (here k (p e) + here k (q e))) n
          ≡ power C (C.join (f (p e)) (f (q e))) (times e)
      entry =
          total-same C f (λ k. times e * (here k (p e) + here k (q e)))
          (λ k. times e * here k (p e) + times e * here k (q e)) n (λ k l. omega arith)
          ∙ total-add C f (λ k. times e * here k (p e)) (λ k. times e * here k (q e)) n
          ∙ ap (λ x. C.join x (total C f (λ k. times e * here k (q e)) n)) (total-place C f (times e) (p e) n b.first)
          ∙ ap (C.join (power C (f (p e)) (times e))) (total-place C f (times e) (q e) n b.second)
          ∙ sym (power-join C (f (p e)) (f (q e)) (times e))

  module _ (p q p' q' : E → ℕ) where
    abbrev small : E → C.Value
    small e = C.join (f (p e)) (f (q e))

    abbrev big : E → C.Value
    big e = C.join (f (p' e)) (f (q' e))

    -- the small side is positive and at most the big side
    pub record IsOrdered (e : E) : Type 0 where
      pub positive : C.IsPositive (small e)
      pub at_most : C.IsAtMost (small e) (big e)

    -- the small side is less than the big side, and the entry counts
    pub record IsStrict (e : E) : Type 0 where
      pub less : C.IsLess (small e) (big e)
      pub counted : 1 ≤ times e

    positive_side : (es : List E) → Each IsOrdered es → C.IsPositive (side C f times p q es)
    positive_side [] h = C.positive_unit
    positive_side (e ∷ es) (o, h) =
        C.positive_join (power C (small e) (times e)) (side C f times p q es)
        (power-positive C (small e) (times e) o.positive) (positive_side es h)

    ordered_sides : (es : List E) → Each IsOrdered es → C.IsAtMost (side C f times p q es) (side C f times p' q' es)
    ordered_sides [] h = C.unit_at_most
    ordered_sides (e ∷ es) (o, h) =
        C.join_at_most (power C (small e) (times e)) (power C (big e) (times e)) (side C f times p q es)
        (side C f times p' q' es) (power_at_most C (small e) (big e) (times e) o.at_most) (ordered_sides es h)

    strict_sides : (es : List E) → Each IsOrdered es → AnyByRecursion IsStrict es
        → C.IsLess (side C f times p q es) (side C f times p' q' es)
    strict_sides [] h s = absurd s
    strict_sides (e ∷ es) (o, h) (inl s) =
        C.join_less (power C (small e) (times e)) (power C (big e) (times e)) (side C f times p q es)
        (side C f times p' q' es) (positive_side es h)
        (power_less C (small e) (big e) (times e) s.counted o.positive s.less) (ordered_sides es h)
    strict_sides (e ∷ es) (o, h) (inr s) =
        turned (side C f times p q es) (side C f times p' q' es) (power C (small e) (times e))
        (power C (big e) (times e))
        (C.join_less (side C f times p q es) (side C f times p' q' es) (power C (small e) (times e))
        (power C (big e) (times e))
        (power-positive C (small e) (times e) o.positive) (strict_sides es h s)
        (power_at_most C (small e) (big e) (times e) o.at_most))
      where
        turned : (u v w z : C.Value) → C.IsLess (C.join u w) (C.join v z) → C.IsLess (C.join w u) (C.join z v)
        turned u v w z l = subst (λ x. C.IsLess x (C.join z v)) (C.comm u w)
            (subst (λ x. C.IsLess (C.join u w) x) (C.comm v z) l)

    pub unbalanced :
        (es : List E)
        → Each (IsBelow p q n) es
        → Each (IsBelow p' q' n) es
        → Each IsOrdered es
        → AnyByRecursion IsStrict es
        → ((k : ℕ) → k < n → tally times p q es k ≡ tally times p' q' es k)
        → ⊥
    unbalanced es b b' o s h =
        let same : side C f times p q es ≡ side C f times p' q' es =
        sym (total-side p q es b) ∙ total-same C f (tally times p q es) (tally times p' q' es) n h
        ∙ total-side p' q' es b' in
        C.irreflexive (side C f times p' q' es)
        (subst (λ x. C.IsLess x (side C f times p' q' es)) same (strict_sides es o s))
