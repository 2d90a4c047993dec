-- A map with values that aren't all zero, and pairs that aren't all orthogonal, has a first pair that isn't.
--
-- Main results: first_pair_possible: of pairs that aren't all orthogonal a first violated one; map_refused: a map that
-- is no chirotope has all values zero or a first violated pair.
use Rattle.std.specs.Prelude.{ℕ, ◌+◌, ◌≤◌, List, length, refl}
use Rattle.std.proofs.Common.{inl, inr, arith}
use Rattle.om_signs.specs.declared.raw_map.RawMap.{RawMap}
use Rattle.om_subsets.specs.Lists.{IsBefore}
use Rattle.om_subsets.specs.Members.{Chosen}
use Rattle.om_chirotope.specs.Chirotope.{IsPair, IsOrthogonalPair, HasOrthogonalPairs, IsChirotope}
use Rattle.om_chirotope.specs.Chirotope.{IsFirstViolated}
use Rattle.om_chirotope.specs.Map.{SignMap, map_of, IsMap, circuit_vector, cocircuit_vector}
use Rattle.om_chirotope.specs.declared.map_refused.MapRefused.{MapRefused}
use Rattle.om_chirotope.specs.declared.map_refused.MapRefused.TheVariants.{AllZero, Relation}
use Rattle.om_chirotope.proofs.Axioms.{nonzero_or_zeros, not_all_zero}
use Rattle.om_chirotope.proofs.BlockLaws.{orthogonal_cases}
use Rattle.om_representation.specs.Axioms.{IsViolatedMap}
use Rattle.om_existence.specs.Possible.{IsPossible}
use Rattle.om_existence.proofs.Possible.{held, then, mapped}
use Rattle.om_existence.proofs.Firsts.{IsFirst, first_subset}

module _ (m : SignMap) where
  -- a violated pair
  abbrev IsViolatedPair : List ℕ → List ℕ → Type 0
  IsViolatedPair s a = IsPair m s a × (IsOrthogonalPair m s a → ⊥)

  -- a list S with a violated pair
  abbrev HasViolated : List ℕ → Type 0
  HasViolated s = (a : List ℕ) × IsViolatedPair s a

  -- a pair that isn't violated is orthogonal
  orthogonal_else : (s a : List ℕ) → IsPair m s a → (IsViolatedPair s a → ⊥) → IsOrthogonalPair m s a
  orthogonal_else s a pair none =
      elim (orthogonal_cases (circuit_vector m s) (cocircuit_vector m a))
      [ inl o ↦ o | inr not ↦ absurd (none (pair, not)) ]

  violated_possible : (HasOrthogonalPairs m → ⊥) → IsPossible ((s : List ℕ) × HasViolated s)
  violated_possible fails none = fails (λ s a pair. orthogonal_else s a pair (λ v. none (s, (a, v))))

  s_short : (s : List ℕ) → HasViolated s → length s ≤ m.rank + 1
  s_short s h = let l = h.1.0.s_size in omega (arith, l)

  a_short : (s a : List ℕ) → IsViolatedPair s a → length a ≤ m.rank
  a_short s a v = let l = v.0.a_size in omega (arith, l)

  abbrev chosen : List ℕ → Chosen
  chosen xs = record { n = m.elements; elements = xs }

  of_firsts : (s a : List ℕ) → IsFirst IsBefore HasViolated s → IsFirst IsBefore (IsViolatedPair s) a
      → IsFirstViolated m (chosen s) (chosen a)
  of_firsts s a first second = record {
    s_n = refl;
    a_n = refl;
    pair = second.has.0;
    violated = second.has.1;
    earlier_s = λ t b pair before. orthogonal_else t b pair (λ v. first.before t before (b, v));
    earlier_a = λ b pair before. orthogonal_else s b pair (λ v. second.before b before v);
  }

  pub first_pair_possible : (HasOrthogonalPairs m → ⊥)
      → IsPossible ((s : Chosen) × ((a : Chosen) × IsFirstViolated m s a))
  first_pair_possible fails =
      then (violated_possible fails) (λ v.
      then (first_subset (m.rank + 1) HasViolated s_short v.0 v.1) (λ f.
      mapped (λ g. (chosen f.0, (chosen g.0, of_firsts f.0 g.0 f.1 g.1)))
      (first_subset m.rank (IsViolatedPair f.0) (a_short f.0) f.1.has.0 f.1.has.1)))

-- a map that is no chirotope: all values are zero, or some pair is the first violated one
pub map_refused : (raw : RawMap) → IsMap (map_of raw) → (IsChirotope (map_of raw) → ⊥)
    → IsPossible ((why : MapRefused) × IsViolatedMap raw why)
map_refused raw whole fails = elim (nonzero_or_zeros (map_of raw) whole) [
  | inr zeros ↦ held (AllZero, zeros)
  | inl some ↦ mapped (λ h. (Relation h.0 h.1.0, (λ zeros. not_all_zero (map_of raw) whole zeros some, h.1.1)))
      (first_pair_possible (map_of raw)
      (λ orthogonal. fails (record { whole = whole; nonzero = some; orthogonal = orthogonal })))
]
