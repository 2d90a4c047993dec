use Rattle.std.proofs.Common.{ℕ, ◌≡◌, ◌⊎◌, length, slice_index_or, true, false}
use Rattle.std.specs.List.{AllWithin, Contains}
use Rattle.om_levels.proofs.step.mark.Given as goal

abbrev pub invariant-loop-place : goal.invariant-loop-place
invariant-loop-place l = record {
  as_many : length l.marks.items ≡ length l.initial.marks.items;
  marked : (k : ℕ) → slice_index_or l.marks.items k false ≡ true
      → (slice_index_or l.initial.marks.items k false ≡ true) ⊎ Contains l.places k;
  kept : (k : ℕ) → slice_index_or l.initial.marks.items k false ≡ true → slice_index_or l.marks.items k false ≡ true;
  done : AllWithin (λ place. slice_index_or l.marks.items place false ≡ true) l.places 0 l.place-index;
}
