-- What the table of the vectors U says of the pairs with a set S.
--
-- Main results: table_done, table_held, all_done and found, for the scan over the sets S; no_pairs_above,
-- no_pairs_of_rank_zero and part_before; one_below, some_rank, rank_below and counted_within.
use Rattle.std.specs.Prelude.{ℕ, ◌≡◌, ◌+◌, ◌-◌, ◌<◌, ◌≤◌, List, [], ◌∷◌, ◌++◌, length, take}
use Rattle.std.proofs.Common.{sym, ◌∙◌, ap, arith, inl, inr, subst, get_or, set}
use Rattle.std.proofs.lemmas.Bool.{cases_eq}
use Rattle.std.proofs.lemmas.List.{ext_get_or, length-map, get_or-map, get_or-set_same, get_or-set_other, get_or-take}
use Rattle.std.proofs.lemmas.List.{length-append, take_all}
use Rattle.om_signs.specs.declared.sign.Sign.{Sign}
use Rattle.om_signs.specs.SignVec.{IsOrthogonal}
use Rattle.om_subsets.specs.Subsets.{choose, all_subsets, subset_at, rank_of, IsSubsetFrom}
use Rattle.om_subsets.specs.Members.{Chosen}
use Rattle.om_subsets.proofs.Order.{length-subsets_from, rank_from-lt, get_or-rank_from, lexicographic}
use Rattle.om_subsets.proofs.Table.{choose_above}
use Rattle.om_laws.specs.Relations.{around, along}
use Rattle.om_laws.proofs.BridgeLaws.{length-as_list}
use Rattle.om_chirotope.specs.Map.{SignMap, value_of, circuit_vector, cocircuit_vector, cocircuit_vectors}
use Rattle.om_chirotope.proofs.NumberedSets.{IsNumberedTurn}
use Rattle.om_chirotope.specs.Chirotope.{IsPair, IsOrthogonalPair, HasOrthogonalPairs, IsFirstViolated}

pub length-table : (m : SignMap) → length (cocircuit_vectors m) ≡ choose m.elements (m.rank - 1)
length-table m = length-map (all_subsets m.elements (m.rank - 1)) (cocircuit_vector m)
    ∙ length-subsets_from 1 m.elements (m.rank - 1)

pub table_at : (m : SignMap) (k : ℕ) → k < choose m.elements (m.rank - 1)
    → get_or (cocircuit_vectors m) k [] ≡ cocircuit_vector m (subset_at m.elements (m.rank - 1) k)
table_at m k l =
    let few : k < length (all_subsets m.elements (m.rank - 1)) = rw (length-subsets_from 1 m.elements (m.rank - 1)) l in
    get_or-map (cocircuit_vector m) (all_subsets m.elements (m.rank - 1)) k [] [] few

-- the first k places have the vectors along their sets
abbrev pub IsFilledBelow : SignMap → List (List Sign) → ℕ → Type 0
IsFilledBelow m table k = (j : ℕ) → j < k → get_or table j [] ≡ cocircuit_vector m (subset_at m.elements (m.rank - 1) j)

pub table_more : (m : SignMap) (table : List (List Sign)) (k : ℕ) (u : List Sign) → k < length table
    → u ≡ cocircuit_vector m (subset_at m.elements (m.rank - 1) k) → IsFilledBelow m table k
    → IsFilledBelow m (set table k u) (k + 1)
table_more m table k u lt e h j l = elim (cases_eq j k) [
  | inl q ↦ ap (λ i. get_or (set table k u) i []) q ∙ get_or-set_same table k u [] lt ∙ e
      ∙ ap (λ i. cocircuit_vector m (subset_at m.elements (m.rank - 1) i)) (sym q)
  | inr n ↦ get_or-set_other table k j u [] n ∙ h j (omega arith)
]

-- the place of a turn is within the table
pub place_fits : (m : SignMap) (table : List (List Sign)) (k size : ℕ) (x : ℕ × Chosen)
    → IsNumberedTurn m.elements (m.rank - 1) k x → length table ≡ size → size ≡ choose m.elements (m.rank - 1)
    → x.0 < length table
place_fits m table k size x turn l room =
    let number = turn.number in
    let inside = turn.turn.inside in
    omega (arith, number, inside, l, room)

-- a turn fills one more place
pub filled_more : (m : SignMap) (table : List (List Sign)) (size : ℕ) (xs : List (ℕ × Chosen)) (x : ℕ × Chosen)
    (u : List Sign) → IsNumberedTurn m.elements (m.rank - 1) (length xs) x → length table ≡ size
    → size ≡ choose m.elements (m.rank - 1) → u ≡ cocircuit_vector m x.1.elements
    → IsFilledBelow m table (length xs) → IsFilledBelow m (set table x.0 u) (length (xs ++ x ∷ []))
filled_more m table size xs x u turn l room e h =
    let inside = turn.turn.inside in
    rw (length-append xs (x ∷ []), turn.number)
    (table_more m table (length xs) u (omega (arith, inside, l, room))
    (e ∙ ap (cocircuit_vector m) turn.turn.here) h)

pub table_done : (m : SignMap) (table : List (List Sign)) → length table ≡ choose m.elements (m.rank - 1)
    → IsFilledBelow m table (choose m.elements (m.rank - 1)) → table ≡ cocircuit_vectors m
table_done m table l h = ext_get_or [] table (cocircuit_vectors m) (l ∙ sym (length-table m)) (λ k lt.
    let few : k < choose m.elements (m.rank - 1) = omega arith in
    h k few ∙ sym (table_at m k few))

-- ---- the pairs with one set S

pub vector_of_place : (m : SignMap) (b : List ℕ) → IsSubsetFrom 1 m.elements b → length b + 1 ≡ m.rank
    → (rank_of m.elements b < choose m.elements (m.rank - 1))
    × (get_or (cocircuit_vectors m) (rank_of m.elements b) [] ≡ cocircuit_vector m b)
vector_of_place m b h l =
    let size : length b ≡ m.rank - 1 = omega arith in
    let few : rank_of m.elements b < choose m.elements (m.rank - 1) =
    subst (λ k. rank_of m.elements b < choose m.elements k) size (rank_from-lt 1 m.elements b h) in
    let back : subset_at m.elements (m.rank - 1) (rank_of m.elements b) ≡ b =
    subst (λ k. subset_at m.elements k (rank_of m.elements b) ≡ b) size (get_or-rank_from 1 m.elements b h) in
    (few, table_at m (rank_of m.elements b) few ∙ ap (cocircuit_vector m) back)

-- a table of the first vectors has at a place the vector of its set
pub vector_in_part : (m : SignMap) (b : List ℕ) (n k : ℕ) (table : List (List Sign)) → n ≡ m.elements
    → IsSubsetFrom 1 n b → length b + 1 ≡ m.rank → k ≡ rank_of n b → k < length table
    → table ≡ take (length table) (cocircuit_vectors m) → get_or table k [] ≡ cocircuit_vector m b
vector_in_part m b n k table en hb lb kr lt e =
    let same : k ≡ rank_of m.elements b = kr ∙ ap (λ i. rank_of i b) en in
    ap (λ t. get_or t k []) e ∙ get_or-take (length table) (cocircuit_vectors m) k [] lt
    ∙ ap (λ j. get_or (cocircuit_vectors m) j []) same
    ∙ (vector_of_place m b (subst (λ i. IsSubsetFrom 1 i b) en hb) lb).1

-- a whole table is one of the first vectors
pub table_whole : (m : SignMap) (table : List (List Sign)) → table ≡ cocircuit_vectors m
    → table ≡ take (length table) (cocircuit_vectors m)
table_whole m table e = let size = ap length e in e
    ∙ sym (take_all (length table) (cocircuit_vectors m) (omega (arith, size)))

-- the vector is orthogonal to those of the first k sets
pub table_held : (m : SignMap) (s b : List ℕ) (k : ℕ)
    → ((j : ℕ) → j < k → IsOrthogonal (circuit_vector m s) (get_or (cocircuit_vectors m) j []))
    → IsSubsetFrom 1 m.elements b → length b + 1 ≡ m.rank → rank_of m.elements b < k → IsOrthogonalPair m s b
table_held m s b k o h l lt =
    subst (IsOrthogonal (circuit_vector m s)) (vector_of_place m b h l).1 (o (rank_of m.elements b) lt)

-- every pair with one of the first k sets S is orthogonal
abbrev pub AllBelow : SignMap → ℕ → Type 0
AllBelow m k = (t b : List ℕ) → IsPair m t b → rank_of m.elements t < k → IsOrthogonalPair m t b

pub all_done : (m : SignMap) (k : ℕ) → choose m.elements (m.rank + 1) ≤ k → AllBelow m k → HasOrthogonalPairs m
all_done m k le all s a p =
    let few : rank_of m.elements s < choose m.elements (m.rank + 1) =
    subst (λ i. rank_of m.elements s < choose m.elements i) p.s_size (rank_from-lt 1 m.elements s p.s_list) in
    all s a p (omega arith)

-- what the scan has found, from the vector of S and the table
pub found : (m : SignMap) (s a : Chosen) (turn k : ℕ) (u : List Sign) (table : List (List Sign)) → s.n ≡ m.elements
    → a.n ≡ m.elements → IsPair m s.elements a.elements → rank_of m.elements s.elements ≡ turn
    → rank_of m.elements a.elements ≡ k → u ≡ circuit_vector m s.elements → table ≡ cocircuit_vectors m
    → (IsOrthogonal u (get_or table k []) → ⊥) → ((j : ℕ) → j < k → IsOrthogonal u (get_or table j []))
    → AllBelow m turn → IsFirstViolated m s a
found m s a turn k u table sn an p rs ra eu et v o all = record {
  s_n = sn;
  a_n = an;
  pair = p;
  violated =
      λ h. v (subst (λ w. IsOrthogonal w (get_or table k [])) (sym eu)
      (subst (IsOrthogonal (circuit_vector m s.elements)) here h));
  earlier_s = λ t b q before.
      let lower = (lexicographic 1 m.elements t s.elements q.s_list p.s_list (q.s_size ∙ sym p.s_size)).0 before in
      all t b q (omega arith);
  earlier_a = λ b q before.
      let qs = q.a_size in
      let ps = p.a_size in
      let lower = (lexicographic 1 m.elements b a.elements q.a_list p.a_list (omega arith)).0 before in
      table_held m s.elements b k held q.a_list q.a_size (omega arith);
}
  where
    here : cocircuit_vector m a.elements ≡ get_or table k []
    here = sym (vector_of_place m a.elements p.a_list p.a_size).1 ∙ ap (λ j. get_or (cocircuit_vectors m) j []) ra
        ∙ ap (λ t. get_or t k []) (sym et)

    held : (j : ℕ) → j < k → IsOrthogonal (circuit_vector m s.elements) (get_or (cocircuit_vectors m) j [])
    held j l = subst (λ w. IsOrthogonal w (get_or (cocircuit_vectors m) j [])) eu
        (subst (λ t. IsOrthogonal u (get_or t j [])) et (o j l))

pub table_lengths : (m : SignMap) (s : List ℕ) (u : List Sign) (table : List (List Sign)) → u ≡ circuit_vector m s
    → table ≡ cocircuit_vectors m → (k : ℕ) → k < length table → length u ≡ length (get_or table k [])
table_lengths m s u table eu et k l =
    let size = ap length et ∙ length-table m in
    let here = ap (λ t. get_or t k []) et ∙ table_at m k (omega arith) in
    ap length eu ∙ length-as_list m.elements (around (value_of m) s)
    ∙ sym (ap length here ∙ length-as_list m.elements (along (value_of m) (subset_at m.elements (m.rank - 1) k)))

-- ---- no pairs

pub no_pairs_above : (m : SignMap) → m.rank ≡ m.elements → HasOrthogonalPairs m
no_pairs_above m e s a p =
    let few : rank_of m.elements s < choose m.elements (m.rank + 1) =
    subst (λ i. rank_of m.elements s < choose m.elements i) p.s_size (rank_from-lt 1 m.elements s p.s_list) in
    let none : choose m.elements (m.rank + 1) ≡ 0 = choose_above m.elements (m.rank + 1) (omega arith) in
    absurd (omega arith)

-- a map of rank 0 has no pairs
pub no_pairs_of_rank_zero : (m : SignMap) → m.rank ≡ 0 → HasOrthogonalPairs m
no_pairs_of_rank_zero m e s a p = let l = p.a_size in absurd (omega (arith, e, l))

-- a set A has no more elements than the map
pub part_before : (rank elements : ℕ) → rank < elements → rank - 1 ≤ elements
part_before rank elements h = omega arith

-- a set of one element less than the rank
pub one_below : {size rank : ℕ} → 1 ≤ rank → size ≡ rank - 1 → size + 1 ≡ rank
one_below low e = omega (arith, low, e)

-- a rank that isn't 0
pub some_rank : (rank : ℕ) → (rank ≡ 0 → ⊥) → 1 ≤ rank
some_rank rank h = omega (arith, h)

-- a rank that isn't the number of elements
pub rank_below : (rank elements : ℕ) → rank ≤ elements → (rank ≡ elements → ⊥) → rank < elements
rank_below rank elements l h = omega (arith, l, h)

-- as many as counted
pub counted_within : {count size most : ℕ} → count ≡ size → count ≤ most → size ≤ most
counted_within e l = omega (arith, e, l)
