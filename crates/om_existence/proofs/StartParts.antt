-- A chirotope of rank 3 has a start for the search for vectors.
--
-- Main results: start_possible.
use Rattle.std.specs.Prelude.{ℕ, ◌≡◌, ◌+◌, ◌<◌, ◌≤◌, ◌↔◌, List, [], ◌∷◌, length, refl}
use Rattle.std.proofs.Common.{zero, suc, sym, subst, inl, inr, arith}
use Rattle.std.proofs.lemmas.Bool.{cases_eq}
use Rattle.om_subsets.specs.Lists.{IsBefore}
use Rattle.om_subsets.specs.Subsets.{IsSubsetFrom, IsMember}
use Rattle.om_subsets.proofs.OneElement.{later_list}
use Rattle.om_chirotope.specs.Chirotope.{IsChirotope}
use Rattle.om_chirotope.specs.Map.{SignMap}
use Rattle.om_chirotope.specs.ThreeTerm.{IsBasis}
use Rattle.om_points.specs.Starts.{Start, IsFree, IsStart}
use Rattle.om_existence.specs.Possible.{IsPossible}
use Rattle.om_existence.proofs.Firsts.{IsFirst, first_subset}
use Rattle.om_existence.proofs.Possible.{held, then, mapped, either_way}

-- ---- the numbers with a property as an increasing list

-- the numbers with a property among the n numbers from low on
record AreThose (P : ℕ → Type 0) (low n : ℕ) (xs : List ℕ) : Type 0 where
  pub list : IsSubsetFrom low n xs
  pub exactly : (e : ℕ) → IsMember e xs ↔ ((low ≤ e) × ((e < low + n) × P e))

none_there : (P : ℕ → Type 0) (low : ℕ) → AreThose P low 0 []
none_there P low = record {
  list = tt;
  exactly = λ e. (λ a. absurd a, λ h. let l = h.0 in let g = h.1.0 in absurd (omega (arith, l, g)));
}

with_this : (P : ℕ → Type 0) (low n : ℕ) (xs : List ℕ) → AreThose P (low + 1) n xs → P low
    → AreThose P low (suc n) (low ∷ xs)
with_this P low n xs h p = record {
  list = inl (refl, h.list);
  exactly = λ e. (
    λ a. elim a [
      | inl same ↦ (omega (arith, same), (omega (arith, same), subst P (sym same) p))
      | inr rest ↦ let q = (h.exactly e).0 rest in let l = q.0 in let g = q.1.0 in
          (omega (arith, l), (omega (arith, g), q.1.1))
    ],
    λ q. elim (cases_eq e low) [
      | inl same ↦ inl same
      | inr other ↦ inr ((h.exactly e).1
          ((let l = q.0 in omega (arith, l, other)), ((let g = q.1.0 in omega (arith, g)), q.1.1)))
    ],
  );
}

without_this : (P : ℕ → Type 0) (low n : ℕ) (xs : List ℕ) → AreThose P (low + 1) n xs → (P low → ⊥)
    → AreThose P low (suc n) xs
without_this P low n xs h not = record {
  list = later_list low n xs h.list;
  exactly = λ e. (
    λ a. let q = (h.exactly e).0 a in let l = q.0 in let g = q.1.0 in (omega (arith, l), (omega (arith, g), q.1.1)),
    λ q. elim (cases_eq e low) [
      | inl same ↦ absurd (not (subst P same q.1.1))
      | inr other ↦ (h.exactly e).1
          ((let l = q.0 in omega (arith, l, other)), ((let g = q.1.0 in omega (arith, g)), q.1.1))
    ],
  );
}

those_possible : (P : ℕ → Type 0) (low n : ℕ) → IsPossible ((xs : List ℕ) × AreThose P low n xs)
those_possible P low zero = held ([], none_there P low)
those_possible P low (suc n) = then (those_possible P (low + 1) n) (λ h. mapped (λ e. elim e [
  | inl p ↦ (low ∷ h.0, with_this P low n h.0 h.1 p)
  | inr not ↦ (h.0, without_this P low n h.0 h.1 not)
]) (either_way (P low)))

-- ---- the start

module _ (m : SignMap) (axioms : IsChirotope m) where
  basis_short : (b : List ℕ) → IsBasis m b → length b ≤ m.rank
  basis_short b h = let s = h.size in omega (arith, s)

  first_basis : IsPossible ((b : List ℕ) × IsFirst IsBefore (IsBasis m) b)
  first_basis = let h = axioms.nonzero in first_subset m.rank (IsBasis m) basis_short h.0
      (record { list = h.1; size = h.2; nonzero = h.3 })

  free_exactly : (b xs : List ℕ) → AreThose (IsFree m b) 1 m.elements xs → (e : ℕ) → IsMember e xs ↔ IsFree m b e
  free_exactly b xs h e = (
    λ a. ((h.exactly e).0 a).1.1,
    λ is. (h.exactly e).1 (is.low, ((let l = is.high in omega (arith, l)), is)),
  )

  pub start_possible : m.rank ≡ 3 → IsPossible ((s : Start) × IsStart m s)
  start_possible three = then first_basis (λ b. mapped (λ f. let s : Start = record { basis = b.0; free = f.0 } in (
    s,
    record {
      rank = three;
      basis = record { basis = b.1.has; first = λ c is before. b.1.before c before is };
      free = f.1.list;
      exactly = free_exactly b.0 f.0 f.1;
    },
  )) (those_possible (IsFree m b.0) 1 m.elements))
