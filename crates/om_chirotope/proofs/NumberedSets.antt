-- A `for` over the sets of one size, each with its number, where a lent map says how many elements there are.
--
-- Main definitions: IsNumberedTurn, AreNumbered
-- Main results: sets_of_map and are_numbered, what the calls give for a lent map; numbered_turn, the number and the set
-- of a turn; first_fits and number_fits, that the next number fits; numbered_end, how many came
use Rattle.std.specs.Prelude.{ℕ, ◌≡◌, ◌<◌, ◌≤◌, ◌+◌, ◌^◌, List, [], ◌∷◌, length, Option, Some, None}
use Rattle.std.proofs.Common.{refl, sym, ◌∙◌, ap, arith, subst}
use Rattle.std.specs.Iterator.{Yields}
use Rattle.std.specs.Iterator.Adapters.{enumerate_source, enumerate_count, enumerate_steps}
use Rattle.std.specs.declared.iter.Enumerate.{Enumerate}
use Rattle.std.proofs.lemmas.Iterator.Consumers.{YieldsList-from_enumerate, YieldsList-turn, YieldsList-end}
use Rattle.std.proofs.lemmas.List.{get_or-map}
use Rattle.std.proofs.lemmas.List.FromFn.{length-enumerate_from, get_or-enumerate_from}
use Rattle.om_subsets.specs.Subsets.{choose, all_subsets, subset_at}
use Rattle.om_subsets.specs.Members.{Chosen}
use Rattle.om_subsets.specs.Sets.{set_of, all_sets}
use Rattle.om_subsets.proofs.Order.{length-subsets_from, listed}
use Rattle.om_subsets.proofs.Sets.{length-all_sets}
use Rattle.om_subsets.proofs.SetChains.{IsTurn, gives_all_sets, set_steps}
use Rattle.om_subsets.specs.declared.binomials.TheConstants.{MOST_SUBSETS}
use Rattle.om_chirotope.specs.Map.{SignMap}

-- the set at place k, with the number k
pub record IsNumberedTurn (n r k : ℕ) (x : ℕ × Chosen) : Type 0 where
  pub number : x.0 ≡ k
  pub turn : IsTurn n r k x.1

-- the set that stands at a place of all sets
set_turn : (n r k : ℕ) → k < choose n r → IsTurn n r k (set_of n (subset_at n r k))
set_turn n r k inside =
    let h = listed 1 n r k inside in
    record {
      inside = inside;
      at = record { n_is = refl; size = h.size; list = h.lawful; place = λ l. h.place };
      here = refl;
    }

-- the sets of as many elements as a number of a lent map m says, which contracts see as w
pub sets_of_map : (r : SignMap → ℕ) {m w : SignMap} {s a : List Chosen} → m ≡ w → s ≡ a → a ≡ all_sets m.elements (r m)
    → s ≡ all_sets w.elements (r w)
sets_of_map r view into sets = into ∙ sets ∙ ap (λ m. all_sets m.elements (r m)) view

-- what the calls of `all`, `enumerate` and `into_iter` give for a lent map m, which contracts see as w
pub record AreNumbered (r : SignMap → ℕ) (w : SignMap) (s : Enumerate (List Chosen)) : Type 0 where
  pub source : enumerate_source s ≡ all_sets w.elements (r w)
  pub none : enumerate_count s ≡ 0
  pub few : length (enumerate_source s) ≤ MOST_SUBSETS

-- the sets of a map come with their numbers, from what the three calls give
pub are_numbered : (r : SignMap → ℕ) {m w : SignMap} {s e : Enumerate (List Chosen)} {a : List Chosen} → m ≡ w → s ≡ e
    → enumerate_source e ≡ a → enumerate_count e ≡ 0 → a ≡ all_sets m.elements (r m) → length a ≤ MOST_SUBSETS
    → AreNumbered r w s
are_numbered r view into source none sets few =
    let from = ap (λ z. enumerate_source z) into ∙ source in
    record {
      source = sets_of_map r view from sets;
      none = ap (λ z. enumerate_count z) into ∙ none;
      few = subst (λ l. length l ≤ MOST_SUBSETS) (sym from) few;
    }

-- the number of the first set fits
pub first_fits : {r : SignMap → ℕ} {w : SignMap} {s : Enumerate (List Chosen)} → AreNumbered r w s
    → enumerate_count s + length (enumerate_source s) < 2 ^ 64
first_fits all = let none = all.none in let few = all.few in omega (arith, none, few)

-- how many came and how many are to come stay as many as there are
number_kept : (xs : List (ℕ × Chosen)) (s t : Enumerate (List Chosen)) → Yields (enumerate_steps set_steps) s xs t
    → enumerate_count t + length (enumerate_source t) ≡ enumerate_count s + length (enumerate_source s)
number_kept [] s t y = ap (λ z. enumerate_count z + length (enumerate_source z)) (sym y)
number_kept (x ∷ xs) s t (u, step, y) =
    let h = number_kept xs u t y in
    let count = step.2 in
    let left = ap length step.0 in
    omega (arith, h, count, left)

-- the number of the next set fits
pub number_fits : {r : SignMap → ℕ} {w : SignMap} {s : Enumerate (List Chosen)} (xs : List (ℕ × Chosen))
    (t u : Enumerate (List Chosen)) {o : Option (ℕ × Chosen)} {x : ℕ × Chosen} → AreNumbered r w s
    → Yields (enumerate_steps set_steps) s xs t → o ≡ Some x → enumerate_steps set_steps t o u
    → enumerate_count u + length (enumerate_source u) < 2 ^ 64
number_fits {s = s} xs t u {x = x} all y is step =
    let h = number_kept xs s t y in
    let here : enumerate_steps set_steps t (Some x) u = subst (λ o. enumerate_steps set_steps t o u) is step in
    let count = here.2 in
    let left = ap length here.0 in
    let none = all.none in
    let few = all.few in
    omega (arith, h, count, left, none, few)

-- the number of a turn is how many sets came before, and its set is the one at this place
pub numbered_turn : {r : SignMap → ℕ} {w : SignMap} {s : Enumerate (List Chosen)} (xs : List (ℕ × Chosen))
    (t u : Enumerate (List Chosen)) {o : Option (ℕ × Chosen)} {x : ℕ × Chosen} → AreNumbered r w s
    → Yields (enumerate_steps set_steps) s xs t → o ≡ Some x → enumerate_steps set_steps t o u
    → IsNumberedTurn w.elements (r w) (length xs) x
numbered_turn {r} {w} xs t u {o} {x} all y is step =
    let n = w.elements in
    let sets = all_sets n (r w) in
    let h = YieldsList-turn (YieldsList-from_enumerate (gives_all_sets n (r w) all.source) all.none) xs t y o u x is
    step in
    let l : length xs < length sets = subst (λ k. length xs < k) (length-enumerate_from 0 sets) h.0 in
    let inside : length xs < choose n (r w) = subst (λ k. length xs < k) (length-all_sets n (r w)) l in
    let e = h.1 ∙ get_or-enumerate_from 0 sets (length xs) x l in
    let same : x.1 ≡ set_of n (subset_at n (r w) (length xs)) = ap (λ p. p.1) e
    ∙ get_or-map (set_of n) (all_subsets n (r w)) (length xs) [] x.1
    (subst (λ k. length xs < k) (sym (length-subsets_from 1 n (r w))) inside) in
    record {
      number = (let q = ap (λ p. p.0) e in omega (arith, q));
      turn = subst (IsTurn n (r w) (length xs)) (sym same) (set_turn n (r w) (length xs) inside);
    }

-- at the end as many sets came as there are
pub numbered_end : {r : SignMap → ℕ} {w : SignMap} {s : Enumerate (List Chosen)} (xs : List (ℕ × Chosen))
    (t u : Enumerate (List Chosen)) {o : Option (ℕ × Chosen)} → AreNumbered r w s
    → Yields (enumerate_steps set_steps) s xs t → o ≡ None → enumerate_steps set_steps t o u
    → length xs ≡ choose w.elements (r w)
numbered_end {r} {w} xs t u {o} all y is step =
    let n = w.elements in
    (YieldsList-end (YieldsList-from_enumerate (gives_all_sets n (r w) all.source) all.none) xs t y o u is step).1
    ∙ length-enumerate_from 0 (all_sets n (r w)) ∙ length-all_sets n (r w)
