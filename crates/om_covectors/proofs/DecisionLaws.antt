-- What the scans say of one member is decided, so that the least bad number gives the first instance.
--
-- Main results: all_composed, all_unblocked: where no number is bad, the axiom holds; uncomposed_found, blocked_found:
-- the least bad number is the first member of the first instance.
use Rattle.std.proofs.Common.{ℕ, ◌≡◌, ◌+◌, ◌<◌, ◌↔◌, List, length, get_or, Option, None, Some, is_some, IfNone, IfSome}
use Rattle.std.proofs.Common.{IsTrue, true, false, refl, sym, ◌∙◌, subst, arith}
use Rattle.om_signs.specs.declared.sign.Sign.{Sign}
use Rattle.om_signs.specs.declared.sign.Sign.TheVariants.{Minus, Zero}
use Rattle.om_signs.specs.Sign.{product}
use Rattle.om_signs.specs.SignVec.{at_element, compose}
use Rattle.om_signs.proofs.ListPlaces.{at_element_past}
use Rattle.om_signs.proofs.SignLaws.{same_or_different}
use Rattle.om_members.specs.Scans.{nth, AllBelow, IsBadBelow, IsFirstBad, IsFirstBadPair}
use Rattle.om_members.proofs.DecisionLaws.{IsDecided, not_false, decided_if, decided_both, decided_not, decided_same}
use Rattle.om_members.proofs.DecisionLaws.{each_place, some_member, is_contained, all_good}
use Rattle.om_members.proofs.ScanLaws.{nth_read}
use Rattle.om_parallel.specs.FirstBad.{IsNoneBad, IsLeastBad}
use Rattle.om_covectors.proofs.InstanceLaws.{not_both_blocked}
use Rattle.om_covectors.specs.Vectors.{IsSeparatedAt, EliminatesFromComposition}
use Rattle.om_covectors.specs.Scans.{HasCompositionWith, HasNoCompositionWith, HasCompositionAt, HasNoCompositionAt}
use Rattle.om_covectors.specs.Scans.{IsUnblocked, IsUnblockedAt, IsFirstBlockedWith, IsFirstBlocked}

-- whether Z eliminates e from the composition of X and Y is decided
pub eliminates : (X Y : List Sign) (e : ℕ) (Z : List Sign) → IsDecided (EliminatesFromComposition X Y e Z)
eliminates X Y e Z = decided_same _ _
    (λ h. record { zero = h.0; outside = h.1 })
    (λ h. (h.zero, h.outside))
    (decided_both _ _ (same_or_different (at_element Z e) Zero) outside)
  where
    outside : IsDecided ((f : ℕ) → (IsSeparatedAt X Y f → ⊥) → at_element Z f ≡ at_element (compose X Y) f)
    outside = each_place (length Z + length (compose X Y) + 1)
        (λ f. (IsSeparatedAt X Y f → ⊥) → at_element Z f ≡ at_element (compose X Y) f)
        (λ f. decided_if _ _ (decided_not _ (same_or_different (product (at_element X f) (at_element Y f)) Minus))
        (same_or_different (at_element Z f) (at_element (compose X Y) f)))
        (λ f ge _. at_element_past Z f (omega arith) ∙ sym (at_element_past (compose X Y) f (omega arith)))

module _ (members : List (List Sign)) where
  composed_held : (i : ℕ) → ((AllBelow (length members) (HasCompositionAt members i) → ⊥) → ⊥)
      → AllBelow (length members) (HasCompositionAt members i)
  composed_held i n j l = not_false _ (is_contained members (compose (nth members i) (nth members j)))
      (λ no. n (λ all. no (all j l)))

  unblocked_held : (n i : ℕ) → ((IsUnblockedAt members n i → ⊥) → ⊥) → IsUnblockedAt members n i
  unblocked_held n i not j lj e le low s =
      not_false _ (some_member members _ (eliminates (nth members i) (nth members j) e))
      (λ none. not (λ all. none (all j lj e le low s)))

  abbrev Composed : ℕ → Type 0
  Composed i = AllBelow (length members) (HasCompositionAt members i)

  pub all_composed : IsNoneBad
      (IsBadBelow (length members) (λ i. AllBelow (length members) (HasCompositionAt members i))) 0 (length members)
      → AllBelow (length members) (λ i. AllBelow (length members) (HasCompositionAt members i))
  all_composed none = all_good (length members) (length members) Composed (omega arith) composed_held none

  pub uncomposed_found : (i j : ℕ) (x : List Sign) → x ≡ get_or members i x
      → IsLeastBad (IsBadBelow (length members) (λ i. AllBelow (length members) (HasCompositionAt members i))) 0
      (length members) i
      → IsFirstBad (length members) (HasNoCompositionWith members x) (HasCompositionWith members x) j
      → IsFirstBadPair (length members) (length members) (HasNoCompositionAt members) (HasCompositionAt members) i j
  uncomposed_found i j x is least second = record {
    within = least.below;
    second = subst (λ X. IsFirstBad (length members) (HasNoCompositionWith members X) (HasCompositionWith members X) j)
        (sym (nth_read members i x least.below is)) second;
    before = all_good i (length members) Composed (let l = least.below in omega arith) composed_held least.earlier;
  }

  pub all_unblocked : (n : ℕ) → IsNoneBad (IsBadBelow (length members) (IsUnblockedAt members n)) 0 (length members)
      → AllBelow (length members) (IsUnblockedAt members n)
  all_unblocked n none = all_good (length members) (length members) (IsUnblockedAt members n) (omega arith)
      (unblocked_held n) none

  pub blocked_found : (n i j e : ℕ) (x : List Sign) → x ≡ get_or members i x
      → IsLeastBad (IsBadBelow (length members) (IsUnblockedAt members n)) 0 (length members) i
      → IsFirstBlockedWith members n x j e → IsFirstBlocked members n i j e
  blocked_found n i j e x is least rest = record {
    within = least.below;
    rest = subst (λ X. IsFirstBlockedWith members n X j e) (sym (nth_read members i x least.below is)) rest;
    before = all_good i (length members) (IsUnblockedAt members n) (let l = least.below in omega arith)
        (unblocked_held n) least.earlier;
  }

  -- what the answer for one first member says
  pub blocked_answer : (n k : ℕ) (x : List Sign) (r : Option (ℕ × ℕ)) → k < length members → x ≡ get_or members k x
      → IfNone r (IsUnblocked members n x) → IfSome r (λ p. IsFirstBlockedWith members n x p.0 p.1)
      → IsTrue (is_some r) ↔ IsBadBelow (length members) (IsUnblockedAt members n) k
  blocked_answer n k x None lt is none first = (
    λ t. let d : false ≡ true = t in cc,
    λ b. absurd (b.not_good (subst (λ X. IsUnblocked members n X) (sym (nth_read members k x lt is)) none)),
  )
  blocked_answer n k x (Some p) lt is none first = (
    λ t. record {
      within = lt;
      not_good = λ good. not_both_blocked members x (nth members p.0) p.1
          (subst (λ X. IsUnblocked members n X) (nth_read members k x lt is) good p.0 first.within p.1
          first.second.within) first.second.bad;
    },
    λ b. refl,
  )

  pub uncomposed_answer : (k : ℕ) (x : List Sign) (r : Option ℕ) → k < length members → x ≡ get_or members k x
      → IfNone r (AllBelow (length members) (HasCompositionWith members x))
      → IfSome r (IsFirstBad (length members) (HasNoCompositionWith members x) (HasCompositionWith members x))
      → IsTrue (is_some r) ↔ IsBadBelow (length members) (λ i. AllBelow (length members) (HasCompositionAt members i)) k
  uncomposed_answer k x None lt is none first = (
    λ t. let d : false ≡ true = t in cc,
    λ b. absurd
        (b.not_good
        (subst (λ X. AllBelow (length members) (HasCompositionWith members X)) (sym (nth_read members k x lt is))
        none)),
  )
  uncomposed_answer k x (Some j) lt is none first = (
    λ t. record {
      within = lt;
      not_good =
          λ good. first.bad
          (subst (λ X. AllBelow (length members) (HasCompositionWith members X)) (nth_read members k x lt is) good j
          first.within);
    },
    λ b. refl,
  )

  -- a bad number has a second member
  pub some_uncomposed : (i : ℕ) (x : List Sign) → x ≡ get_or members i x
      → IsLeastBad (IsBadBelow (length members) (λ i. AllBelow (length members) (HasCompositionAt members i))) 0
      (length members) i
      → AllBelow (length members) (HasCompositionWith members x) → ⊥
  some_uncomposed i x is least all =
      least.is_bad.not_good
      (subst (λ X. AllBelow (length members) (HasCompositionWith members X)) (sym (nth_read members i x least.below is))
      all)

  -- a bad number has a second member and an element
  pub some_blocked : (n i : ℕ) (x : List Sign) → x ≡ get_or members i x
      → IsLeastBad (IsBadBelow (length members) (IsUnblockedAt members n)) 0 (length members) i
      → IsUnblocked members n x → ⊥
  some_blocked n i x is least all = least.is_bad.not_good
      (subst (λ X. IsUnblocked members n X) (sym (nth_read members i x least.below is)) all)
