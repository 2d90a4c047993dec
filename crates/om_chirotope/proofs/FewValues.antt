-- A chirotope of rank 3 has no more values than a document may hold.
--
-- Main results: most_triples, few_triples and few_of_rank3; few_values, from the other ranks to all.
use Rattle.std.specs.Prelude.{ℕ, ◌≡◌, ◌≢◌, ◌≤◌}
use Rattle.std.proofs.Common.{arith, sym, subst, refl, inl, inr}
use Rattle.std.proofs.lemmas.Bool.{cases_eq}
use Rattle.om_signs.specs.declared.limits.TheConstants.{MAX_ELEMENTS, MAX_VALUES}
use Rattle.om_subsets.specs.Subsets.{choose}
use Rattle.om_subsets.proofs.Counts.{choose_grows}
use Rattle.om_chirotope.specs.Map.{SignMap}

-- MAX_ELEMENTS elements have 1140 triples
pub most_triples : choose MAX_ELEMENTS 3 ≡ 1140
most_triples = refl

-- up to MAX_ELEMENTS elements have no more triples than a document may hold values
pub few_triples : (n : ℕ) → n ≤ MAX_ELEMENTS → choose n 3 ≤ MAX_VALUES
few_triples n high =
    let most : choose n 3 ≤ choose MAX_ELEMENTS 3 = choose_grows n MAX_ELEMENTS 3 high in
    let few : choose n 3 ≤ 1140 = subst (λ k. choose n 3 ≤ k) most_triples most in
    omega (arith, few)

-- a map of rank 3 on up to MAX_ELEMENTS elements has no more values than a document may hold
pub few_of_rank3 : (m : SignMap) → m.rank ≡ 3 → m.elements ≤ MAX_ELEMENTS → choose m.elements m.rank ≤ MAX_VALUES
few_of_rank3 m three high = subst (λ r. choose m.elements r ≤ MAX_VALUES) (sym three) (few_triples m.elements high)

-- on up to MAX_ELEMENTS elements, values that are few enough for a document unless the rank is 3 are always few enough
pub few_values : (m : SignMap) → m.elements ≤ MAX_ELEMENTS → (m.rank ≢ 3 → choose m.elements m.rank ≤ MAX_VALUES)
    → choose m.elements m.rank ≤ MAX_VALUES
few_values m high others = elim (cases_eq m.rank 3) [
  | inl three ↦ few_of_rank3 m three high
  | inr other ↦ others other
]
