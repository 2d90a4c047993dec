-- The list of all lawful statements, by the numbers of the statements.
--
-- Main results: listed_numbers, that the statement at a place of the list has the number of this place, and stands
-- there.
use Rattle.std.specs.Prelude.{ℕ, ◌≡◌, ◌⊎◌, ◌↔◌, zero, suc, List, [], ◌∷◌, length, take, Some}
use Rattle.std.specs.List.{Contains, slice_get}
use Rattle.std.proofs.Common.{sym, ◌∙◌, ap, subst, arith, inl, inr}
use Rattle.std.proofs.lemmas.Bool.{cases_lt}
use Rattle.std.proofs.lemmas.List.{length-take-le}
use Rattle.std.proofs.lemmas.Option.{slice_get-get_or, slice_get_within}
use Rattle.std.proofs.Math.ListN.{get_or}
use Rattle.om_signs.proofs.Contained.{none_contained, first_or_later, contains_first, contains_later, contains_at}
use Rattle.om_chirotope.specs.Map.{SignMap}
use Rattle.om_grassmann.specs.declared.statement.Statement.{Statement}
use Rattle.om_grassmann.specs.Order.{IsBefore, IsIncreasing, AreAll, IsNumber}
use Rattle.om_grassmann.proofs.OrderLaws.{before_self, before_then}
use Rattle.om_grassmann.proofs.Counting.{head_before}
use Rattle.om_grassmann.proofs.Counting.{increasing_tail, same_number, number_exceeds}

increasing_take : (xs : List Statement) (k : ℕ) → IsIncreasing xs → IsIncreasing (take k xs)
increasing_take xs zero h = tt
increasing_take [] (suc k) h = tt
increasing_take (x ∷ []) (suc zero) h = tt
increasing_take (x ∷ []) (suc (suc k)) h = tt
increasing_take (x ∷ y ∷ ys) (suc zero) h = tt
increasing_take (x ∷ y ∷ ys) (suc (suc k)) h = (h.0, increasing_take (y ∷ ys) (suc k) h.1)

-- of an increasing list the statements before a place come before that at the place
taken_before : (xs : List Statement) (k : ℕ) (t u : Statement) → IsIncreasing xs → slice_get xs k ≡ Some t
    → Contains (take k xs) u → Contains xs u × IsBefore u t
taken_before xs zero t u h e c = absurd (none_contained u c)
taken_before [] (suc k) t u h e c = absurd (none_contained u c)
taken_before (x ∷ xs) (suc k) t u h e c = elim (first_or_later x (take k xs) u c) [
  | inl q ↦ (
    subst (Contains (x ∷ xs)) q (contains_first x xs),
    subst (λ v. IsBefore v t) q (head_before x xs t h (contains_at xs k t e)),
  )
  | inr d ↦ let f = taken_before xs k t u (increasing_tail x xs h) e d in (contains_later x xs u f.0, f.1)
]

-- and each one that comes before it stands before the place
before_taken : (xs : List Statement) (k : ℕ) (t u : Statement) → IsIncreasing xs → slice_get xs k ≡ Some t
    → Contains xs u → IsBefore u t → Contains (take k xs) u
before_taken [] k t u h e c b = absurd (none_contained u c)
before_taken (x ∷ xs) zero t u h e c b = absurd (before_self t (first (first_or_later x xs u c)))
  where
    same : x ≡ t
    same = cc

    first : (x ≡ u) ⊎ Contains xs u → IsBefore t t
    first (inl q) = subst (λ v. IsBefore v t) (sym q ∙ same) b
    first (inr d) = before_then t u t (subst (λ v. IsBefore v u) same (head_before x xs u h d)) b
before_taken (x ∷ xs) (suc k) t u h e c b = elim (first_or_later x xs u c) [
  | inl q ↦ subst (Contains (x ∷ take k xs)) q (contains_first x (take k xs))
  | inr d ↦ contains_later x (take k xs) u (before_taken xs k t u (increasing_tail x xs h) e d b)
]

-- the statement at a place has the number of the place
numbered : (m : SignMap) (ss : List Statement) (k : ℕ) (t : Statement) → AreAll m ss → slice_get ss k ≡ Some t
    → IsNumber m k t
numbered m ss k t a e = record {
  lawful = (a.members t).0 (contains_at ss k t e);
  before = take k ss;
  are_before = record {
    increasing = increasing_take ss k a.increasing;
    members =
        λ u. (
          λ c. let f = taken_before ss k t u a.increasing e c in ((a.members u).0 f.0, f.1),
          λ (hu, b). before_taken ss k t u a.increasing e ((a.members u).1 hu) b,
        );
  };
  count = let l = slice_get_within ss k t e in length-take-le k ss (omega arith);
}

-- and the one with a number stands at this place
at_number : (m : SignMap) (ss : List Statement) (k : ℕ) (t : Statement) → AreAll m ss → IsNumber m k t
    → slice_get ss k ≡ Some t
at_number m ss k t a h = elim (cases_lt k (length ss)) [
  | inl l ↦ let e = slice_get-get_or ss k t l in e
      ∙ ap (λ s. Some s) (same_number m k (get_or ss k t) t (numbered m ss k (get_or ss k t) a e) h)
  | inr g ↦ absurd (number_exceeds m k t h (record { all = ss; are_all = a; count = g }))
]

pub listed_numbers : (m : SignMap) (ss : List Statement) (k : ℕ) (t : Statement) → AreAll m ss
    → (slice_get ss k ≡ Some t) ↔ IsNumber m k t
listed_numbers m ss k t a = (numbered m ss k t a, at_number m ss k t a)
