-- What the scans say of one member is decided, so that the least bad number gives the first instance.
--
-- Main results: all_unnested, all_unblocked: where no number is bad, the axiom holds; nested_found, blocked_found: the
-- least bad number is the first member of the first instance.
use Rattle.std.proofs.Common.{ℕ, ◌≡◌, ◌+◌, ◌<◌, ◌⊎◌, ◌↔◌, List, length, get_or, Option, None, Some, is_some, IfNone}
use Rattle.std.proofs.Common.{IfSome, IsTrue, true, false, refl, sym, ◌∙◌, subst, arith}
use Rattle.om_signs.specs.declared.sign.Sign.{Sign}
use Rattle.om_signs.specs.declared.sign.Sign.TheVariants.{Minus, Zero, Plus}
use Rattle.om_signs.specs.SignVec.{at_element}
use Rattle.om_signs.proofs.ListPlaces.{at_element_past}
use Rattle.om_signs.proofs.SignLaws.{same_or_different}
use Rattle.om_members.specs.Scans.{nth, AllBelow, IsBadBelow, IsFirstBad, IsFirstBadPair}
use Rattle.om_members.specs.Vectors.{negated}
use Rattle.om_members.proofs.DecisionLaws.{IsDecided, not_false, decided_either, decided_if, decided_both, decided_same}
use Rattle.om_members.proofs.DecisionLaws.{same_vector, each_place, some_member, all_good}
use Rattle.om_members.proofs.ScanLaws.{nth_read}
use Rattle.om_parallel.specs.FirstBad.{IsNoneBad, IsLeastBad}
use Rattle.om_circuits.specs.Instances.{IsNestedIn}
use Rattle.om_circuits.proofs.InstanceLaws.{not_both_blocked}
use Rattle.om_circuits.specs.Vectors.{Eliminates}
use Rattle.om_circuits.specs.Scans.{IsUnnestedIn, AreNestedAt, AreUnnestedAt, IsUnblocked, IsUnblockedAt}
use Rattle.om_circuits.specs.Scans.{IsFirstBlockedWith, IsFirstBlocked}

-- a sign of Z, that isn't zero, stands only where X or Y has it
has_signs : (X Y Z : List Sign) (s : Sign) → (s ≡ Zero → ⊥)
    → IsDecided ((f : ℕ) → at_element Z f ≡ s → (at_element X f ≡ s) ⊎ (at_element Y f ≡ s))
has_signs X Y Z s n = each_place (length Z + 1) (λ f. at_element Z f ≡ s → (at_element X f ≡ s) ⊎ (at_element Y f ≡ s))
    (λ f. decided_if _ _ (same_or_different (at_element Z f) s)
    (decided_either _ _ (same_or_different (at_element X f) s) (same_or_different (at_element Y f) s)))
    (λ f ge p. absurd (n (sym p ∙ at_element_past Z f ge)))

-- whether Z eliminates e from X and Y is decided
pub eliminates : (X Y : List Sign) (e : ℕ) (Z : List Sign) → IsDecided (Eliminates X Y e Z)
eliminates X Y e Z = decided_same _ _
    (λ h. record { zero = h.0; plus = h.1.0; minus = h.1.1 })
    (λ h. (h.zero, (h.plus, h.minus)))
    (decided_both _ _ (same_or_different (at_element Z e) Zero)
    (decided_both _ _ (has_signs X Y Z Plus (λ d. cc)) (has_signs X Y Z Minus (λ d. cc))))

module _ (members : List (List Sign)) where
  unnested_held : (i : ℕ) → ((AllBelow (length members) (AreUnnestedAt members i) → ⊥) → ⊥)
      → AllBelow (length members) (AreUnnestedAt members i)
  unnested_held i n j l w =
      not_false _
      (decided_either _ _ (same_vector (nth members i) (nth members j))
      (same_vector (nth members i) (negated (nth members j)))) (λ no. n (λ all. no (all j l w)))

  unblocked_held : (n i : ℕ) → ((IsUnblockedAt members n i → ⊥) → ⊥) → IsUnblockedAt members n i
  unblocked_held n i not j lj e le low ne o =
      not_false _ (some_member members _ (eliminates (nth members i) (nth members j) e))
      (λ none. not (λ all. none (all j lj e le low ne o)))

  abbrev Unnested : ℕ → Type 0
  Unnested i = AllBelow (length members) (AreUnnestedAt members i)

  pub all_unnested : IsNoneBad (IsBadBelow (length members) (λ i. AllBelow (length members) (AreUnnestedAt members i)))
      0 (length members) → AllBelow (length members) (λ i. AllBelow (length members) (AreUnnestedAt members i))
  all_unnested none = all_good (length members) (length members) Unnested (omega arith) unnested_held none

  pub nested_found : (i j : ℕ) (x : List Sign) → x ≡ get_or members i x
      → IsLeastBad (IsBadBelow (length members) (λ i. AllBelow (length members) (AreUnnestedAt members i))) 0
      (length members) i
      → IsFirstBad (length members) (λ k. IsNestedIn x (nth members k)) (λ k. IsUnnestedIn x (nth members k)) j
      → IsFirstBadPair (length members) (length members) (AreNestedAt members) (AreUnnestedAt members) i j
  nested_found i j x is least second = record {
    within = least.below;
    second = subst
        (λ X. IsFirstBad (length members) (λ k. IsNestedIn X (nth members k)) (λ k. IsUnnestedIn X (nth members k)) j)
        (sym (nth_read members i x least.below is)) second;
    before = all_good i (length members) Unnested (let l = least.below in omega arith) unnested_held least.earlier;
  }

  pub all_unblocked : (n : ℕ) → IsNoneBad (IsBadBelow (length members) (IsUnblockedAt members n)) 0 (length members)
      → AllBelow (length members) (IsUnblockedAt members n)
  all_unblocked n none = all_good (length members) (length members) (IsUnblockedAt members n) (omega arith)
      (unblocked_held n) none

  pub blocked_found : (n i j e : ℕ) (x : List Sign) → x ≡ get_or members i x
      → IsLeastBad (IsBadBelow (length members) (IsUnblockedAt members n)) 0 (length members) i
      → IsFirstBlockedWith members n x j e → IsFirstBlocked members n i j e
  blocked_found n i j e x is least rest = record {
    within = least.below;
    rest = subst (λ X. IsFirstBlockedWith members n X j e) (sym (nth_read members i x least.below is)) rest;
    before = all_good i (length members) (IsUnblockedAt members n) (let l = least.below in omega arith)
        (unblocked_held n) least.earlier;
  }

  -- what the answer for one first member says
  pub blocked_answer : (n k : ℕ) (x : List Sign) (r : Option (ℕ × ℕ)) → k < length members → x ≡ get_or members k x
      → IfNone r (IsUnblocked members n x) → IfSome r (λ p. IsFirstBlockedWith members n x p.0 p.1)
      → IsTrue (is_some r) ↔ IsBadBelow (length members) (IsUnblockedAt members n) k
  blocked_answer n k x None lt is none first = (
    λ t. let d : false ≡ true = t in cc,
    λ b. absurd (b.not_good (subst (λ X. IsUnblocked members n X) (sym (nth_read members k x lt is)) none)),
  )
  blocked_answer n k x (Some p) lt is none first = (
    λ t. record {
      within = lt;
      not_good = λ good. not_both_blocked members x (nth members p.0) p.1
          (subst (λ X. IsUnblocked members n X) (nth_read members k x lt is) good p.0 first.within p.1
          first.second.within) first.second.bad;
    },
    λ b. refl,
  )

  -- a bad number has a second member and an element
  pub some_blocked : (n i : ℕ) (x : List Sign) → x ≡ get_or members i x
      → IsLeastBad (IsBadBelow (length members) (IsUnblockedAt members n)) 0 (length members) i
      → IsUnblocked members n x → ⊥
  some_blocked n i x is least all = least.is_bad.not_good
      (subst (λ X. IsUnblocked members n X) (sym (nth_read members i x least.below is)) all)

  -- a bad number has a second member
  pub some_nested : (i : ℕ) (x : List Sign) → x ≡ get_or members i x
      → IsLeastBad (IsBadBelow (length members) (λ i. AllBelow (length members) (AreUnnestedAt members i))) 0
      (length members) i
      → AllBelow (length members) (λ j. IsUnnestedIn x (nth members j)) → ⊥
  some_nested i x is least all = least.is_bad.not_good
      (subst (λ X. AllBelow (length members) (λ j. IsUnnestedIn X (nth members j)))
      (sym (nth_read members i x least.below is)) all)
