-- The nonzero brackets among the first triples in lexicographic order.
--
-- Main definitions: nonzero_below, IsPaired
-- Main results: below_all, below_more, more_nonzero, more_zero, below_length, next_nonzero, more_length,
-- bracket_triples, first_unpaired
use Rattle.std.specs.Prelude.{ℕ, ◌≡◌, ◌+◌, ◌<◌, ◌≤◌, true, false, List, [], ◌∷◌, ◌++◌, length, map, filter, cond, take}
use Rattle.std.specs.Prelude.{drop, slice_get, Option, Some, None, All, MatchOption, IfSome, IfNone}
use Rattle.std.specs.List.{AllWithin, HoldsAt, zip}
use Rattle.std.proofs.Common.{zero, suc, ◌≢◌, refl, sym, ◌∙◌, ap, arith}
use Rattle.std.proofs.lemmas.List.{take_all, length-append, take-append-drop, append-nil}
use Rattle.std.proofs.lemmas.Slice.Zip.{length-zip}
use Rattle.std.proofs.lemmas.Option.{same_Some}
use Rattle.std.proofs.lemmas.List.Elements.{filter_more, filter-append, All-filter, All-from_get_or}
use Rattle.om_subsets.specs.Subsets.{all_subsets, choose, subset_at, IsTriple}
use Rattle.om_subsets.proofs.Order.{length-subsets_from}
use Rattle.om_subsets.proofs.Triples.{triple_of_place}
use Rattle.om_chirotope.specs.Map.{SignMap, chi_of}
use Rattle.om_certificate.specs.declared.weight.Weight.{Weight}
use Rattle.om_certificate.specs.Weights.{is_nonzero, nonzero_brackets, bracket_of, AreOfBrackets}
use Rattle.om_certificate.specs.Refusals.{IsFirstOtherBracket}

-- the nonzero brackets among the first k triples
abbrev pub nonzero_below : SignMap → ℕ → List (List ℕ)
nonzero_below m k = filter (λ b. is_nonzero (chi_of m b)) (take k (all_subsets m.elements 3))

-- the nonzero brackets among the first k triples are all of them, if there are at most k triples
pub below_all : (m : SignMap) (k : ℕ) → choose m.elements 3 ≤ k → nonzero_below m k ≡ nonzero_brackets m
below_all m k l =
    ap (filter (λ b. is_nonzero (chi_of m b)))
    (take_all k (all_subsets m.elements 3) (let e = length-subsets_from 1 m.elements 3 in omega (arith, e)))

pub below_more : (m : SignMap) (k : ℕ) → k < choose m.elements 3
    → nonzero_below m (k + 1) ≡ nonzero_below m k ++ cond (is_nonzero (chi_of m (subset_at m.elements 3 k)))
    (subset_at m.elements 3 k ∷ []) []
below_more m k l = filter_more (λ b. is_nonzero (chi_of m b)) (all_subsets m.elements 3) k []
    (let e = length-subsets_from 1 m.elements 3 in omega (arith, e))

-- the triple at the place k is one more nonzero bracket
pub more_nonzero : (m : SignMap) (k : ℕ) (b : List ℕ) → k < choose m.elements 3 → b ≡ subset_at m.elements 3 k
    → is_nonzero (chi_of m b) ≡ true → nonzero_below m (k + 1) ≡ nonzero_below m k ++ b ∷ []
more_nonzero m k b l e n = below_more m k l
    ∙ ap (λ t. nonzero_below m k ++ cond t (subset_at m.elements 3 k ∷ []) [])
    (ap (λ c. is_nonzero (chi_of m c)) (sym e) ∙ n) ∙ ap (λ c. nonzero_below m k ++ c ∷ []) (sym e)

-- a further triple with the sign zero adds no nonzero bracket
pub more_zero : (m : SignMap) (k : ℕ) (b : List ℕ) → k < choose m.elements 3 → b ≡ subset_at m.elements 3 k
    → is_nonzero (chi_of m b) ≡ false → nonzero_below m (k + 1) ≡ nonzero_below m k
more_zero m k b l e z = below_more m k l
    ∙ ap (λ t. nonzero_below m k ++ cond t (subset_at m.elements 3 k ∷ []) [])
    (ap (λ c. is_nonzero (chi_of m c)) (sym e) ∙ z) ∙ append-nil (nonzero_below m k)

-- ---- the first triples and the rest

rest_from : SignMap → ℕ → List (List ℕ)
rest_from m k = filter (λ b. is_nonzero (chi_of m b)) (drop k (all_subsets m.elements 3))

below_split : (m : SignMap) (k : ℕ) → nonzero_brackets m ≡ nonzero_below m k ++ rest_from m k
unfolding rest_from
below_split m k =
    ap (filter (λ b. is_nonzero (chi_of m b))) (sym (take-append-drop k (all_subsets m.elements 3)))
    ∙ filter-append (λ b. is_nonzero (chi_of m b)) (take k (all_subsets m.elements 3))
    (drop k (all_subsets m.elements 3))

-- the nonzero brackets among the first k triples are no more than all of them
pub below_length : (m : SignMap) (k : ℕ) → length (nonzero_below m k) ≤ length (nonzero_brackets m)
below_length m k = let e = ap length (below_split m k) ∙ length-append (nonzero_below m k) (rest_from m k) in
    omega (arith, e)

-- the next nonzero bracket is the triple at the place k
pub next_nonzero : (m : SignMap) (k : ℕ) (b : List ℕ) → k < choose m.elements 3 → b ≡ subset_at m.elements 3 k
    → is_nonzero (chi_of m b) ≡ true → slice_get (nonzero_brackets m) (length (nonzero_below m k)) ≡ Some b
next_nonzero m k b l e n =
    ap (λ xs. slice_get xs (length (nonzero_below m k)))
    (below_split m (k + 1) ∙ ap (λ xs. xs ++ rest_from m (k + 1)) (more_nonzero m k b l e n))
    ∙ there (nonzero_below m k) (rest_from m (k + 1))
  where
    there : (xs ys : List (List ℕ)) → slice_get ((xs ++ b ∷ []) ++ ys) (length xs) ≡ Some b
    there [] ys = refl
    there (x ∷ xs) ys = there xs ys

-- a further triple whose sign isn't zero adds one to the number of nonzero brackets
pub more_length : (m : SignMap) (k : ℕ) (b : List ℕ) → k < choose m.elements 3 → b ≡ subset_at m.elements 3 k
    → is_nonzero (chi_of m b) ≡ true → length (nonzero_below m (k + 1)) ≡ length (nonzero_below m k) + 1
more_length m k b l e n = ap length (more_nonzero m k b l e n) ∙ length-append (nonzero_below m k) (b ∷ [])

-- each nonzero bracket is an increasing triple
pub bracket_triples : (m : SignMap) → All (IsTriple m.elements) (nonzero_brackets m)
bracket_triples m =
    All-filter (λ b. is_nonzero (chi_of m b)) (IsTriple m.elements) (all_subsets m.elements 3)
    (All-from_get_or (IsTriple m.elements) (all_subsets m.elements 3) []
    (λ k l. triple_of_place m.elements k (let e = length-subsets_from 1 m.elements 3 in omega (arith, e))))

-- ---- weights against the nonzero brackets

-- a weight is given to the bracket that it is paired with
abbrev pub IsPaired : List ℕ × Weight → Type 0
IsPaired p = p.0 ≡ bracket_of p.1

paired_first : (bs : List (List ℕ)) (ws : List Weight) (k : ℕ) → k ≤ length (zip bs ws)
    → AllWithin IsPaired (zip bs ws) 0 k → map bracket_of (take k ws) ≡ take k bs
paired_first bs ws zero l h = refl
paired_first [] ws (suc k) l h = absurd (omega arith)
paired_first (b ∷ bs) [] (suc k) l h = absurd (omega arith)
paired_first (b ∷ bs) (w ∷ ws) (suc k) l h =
    let here : b ≡ bracket_of w = h 0 (b, w) (omega arith) (omega arith) in
    ap (λ c. c ∷ map bracket_of (take k ws)) (sym here)
    ∙ ap (λ cs. b ∷ cs)
    (paired_first bs ws k (omega arith) (λ j d low high. h (suc j) d (omega arith) (omega arith)))

pub all_paired : (m : SignMap) (ws : List Weight) → length ws ≡ length (nonzero_brackets m)
    → AllWithin IsPaired (zip (nonzero_brackets m) ws) 0 (length (zip (nonzero_brackets m) ws)) → AreOfBrackets m ws
all_paired m ws e h =
    let n = length-zip (nonzero_brackets m) ws in
    ap (map bracket_of) (sym (take_all (length (zip (nonzero_brackets m) ws)) ws (omega (arith, n, e))))
    ∙ paired_first (nonzero_brackets m) ws (length (zip (nonzero_brackets m) ws)) (omega arith) h
    ∙ take_all (length (zip (nonzero_brackets m) ws)) (nonzero_brackets m) (omega (arith, n, e))

pub first_other : (m : SignMap) (ws : List Weight) (i : ℕ) → i < length (zip (nonzero_brackets m) ws)
    → HoldsAt (λ p. IsPaired p → ⊥) (zip (nonzero_brackets m) ws) i
    → AllWithin IsPaired (zip (nonzero_brackets m) ws) 0 i → IsFirstOtherBracket m ws (i + 1)
first_other m ws i l other before =
    let h = at (nonzero_brackets m) ws i l other in
    record {
      index = i;
      weight = h.0;
      counts = refl;
      here = h.1;
      other = h.2;
      earlier = paired_first (nonzero_brackets m) ws i (omega arith) before;
    }
  where
    at : (bs : List (List ℕ)) (vs : List Weight) (j : ℕ) → j < length (zip bs vs)
        → HoldsAt (λ p. IsPaired p → ⊥) (zip bs vs) j
        → (w : Weight) × (slice_get vs j ≡ Some w) × (slice_get bs j ≢ Some (bracket_of w))
    at [] vs j l h = absurd (omega arith)
    at (b ∷ bs) [] j l h = absurd (omega arith)
    at (b ∷ bs) (w ∷ vs) zero l h = (w, refl, λ e. h (b, w) (same_Some b (bracket_of w) e))
    at (b ∷ bs) (w ∷ vs) (suc j) l h = at bs vs j (omega arith) h

-- what `position` gives of the pairs
pub first_unpaired : (m : SignMap) (ws : List Weight) (o : Option ℕ) → length ws ≡ length (nonzero_brackets m)
    → MatchOption o (AllWithin IsPaired (zip (nonzero_brackets m) ws) 0 (length (zip (nonzero_brackets m) ws)))
    (λ i. (i < length (zip (nonzero_brackets m) ws)) × HoldsAt (λ p. IsPaired p → ⊥) (zip (nonzero_brackets m) ws) i
    × AllWithin IsPaired (zip (nonzero_brackets m) ws) 0 i)
    → IfNone o (AreOfBrackets m ws) × IfSome o (λ i. IsFirstOtherBracket m ws (i + 1))
first_unpaired m ws None e h = (all_paired m ws e h, tt)
first_unpaired m ws (Some i) e h = (tt, first_other m ws i h.0 h.1 h.2)
