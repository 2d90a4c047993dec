-- The first vector U that isn't orthogonal to a vector, and the first violated pair.
--
-- Main definitions: IsOrthogonalBelow
-- Main results: orthogonal_more, orthogonal_to_all and first_at, for a walk over the sets A; first_in_table and
-- none_in_table, for a table; first_violated, pair_found and all_below_more, for the scan over the sets S
use Rattle.std.specs.Prelude.{ℕ, ◌≡◌, ◌+◌, ◌-◌, ◌<◌, ◌≤◌, ◌↔◌, List, [], ◌∷◌, ◌++◌, length}
use Rattle.std.specs.Prelude.{Option, Some, None, IsNone, IfNone}
use Rattle.std.proofs.Common.{sym, ◌∙◌, ap, arith, inl, inr, subst, get_or}
use Rattle.std.proofs.lemmas.Bool.{cases_eq, false≢true}
use Rattle.std.proofs.lemmas.List.{length-append}
use Rattle.om_signs.specs.declared.sign.Sign.{Sign}
use Rattle.om_signs.specs.SignVec.{IsOrthogonal}
use Rattle.om_subsets.specs.Subsets.{choose, rank_of, IsSubsetFrom}
use Rattle.om_subsets.specs.Members.{Chosen}
use Rattle.om_subsets.proofs.Order.{lexicographic, rank_from-lt, same_place}
use Rattle.om_chirotope.specs.Map.{SignMap, circuit_vector, cocircuit_vector, cocircuit_vectors}
use Rattle.om_chirotope.specs.Chirotope.{HasOrthogonalPairs, IsFirstViolated}
use Rattle.om_chirotope.specs.Apart.{IsOrthogonalToAll, IsFirstApart}
use Rattle.om_chirotope.proofs.Placed.{IsPlaced}
use Rattle.om_chirotope.proofs.Tables.{AllBelow, length-table, vector_of_place}

-- ---- the sets A, one after the other

-- the vector is orthogonal to the vectors U of the first k sets
abbrev pub IsOrthogonalBelow : SignMap → List Sign → ℕ → Type 0
IsOrthogonalBelow m v k = (b : List ℕ) → IsSubsetFrom 1 m.elements b → length b + 1 ≡ m.rank → rank_of m.elements b < k
    → IsOrthogonal v (cocircuit_vector m b)

-- it is orthogonal to that of one more
pub orthogonal_more : {X : Type 0} (m : SignMap) (v : List Sign) (xs : List X) (x : X) (a : Chosen) → 1 ≤ m.rank
    → IsPlaced m.elements (m.rank - 1) (length xs) a → IsOrthogonal v (cocircuit_vector m a.elements)
    → IsOrthogonalBelow m v (length xs) → IsOrthogonalBelow m v (length (xs ++ x ∷ []))
orthogonal_more m v xs x a low placed here all b list size lt = elim (cases_eq (rank_of m.elements b) (length xs)) [
  | inl e ↦
      let many = placed.size in
      let same : b ≡ a.elements = same_place m.elements b a.elements list placed.list (omega (arith, size, many, low))
      (e ∙ sym placed.place) in
      subst (λ c. IsOrthogonal v (cocircuit_vector m c)) (sym same) here
  | inr n ↦ let more = length-append xs (x ∷ []) in all b list size (omega (arith, lt, n, more))
]

-- after the last set it is orthogonal to all
pub orthogonal_to_all : (m : SignMap) (v : List Sign) (k : ℕ) → k ≡ choose m.elements (m.rank - 1)
    → IsOrthogonalBelow m v k → IsOrthogonalToAll m v
orthogonal_to_all m v k e all b list size =
    let sized : length b ≡ m.rank - 1 = omega (arith, size) in
    let few = subst (λ j. rank_of m.elements b < choose m.elements j) sized (rank_from-lt 1 m.elements b list) in
    all b list size (omega (arith, few, e))

-- the set at place k is the first whose vector U isn't orthogonal to the vector
pub first_at : (m : SignMap) (v : List Sign) (k : ℕ) (a : Chosen) → 1 ≤ m.rank
    → IsPlaced m.elements (m.rank - 1) k a → (IsOrthogonal v (cocircuit_vector m a.elements) → ⊥)
    → IsOrthogonalBelow m v k → IsFirstApart m v a
first_at m v k a low placed apart all =
    let many = placed.size in
    let size : length a.elements + 1 ≡ m.rank = omega (arith, many, low) in
    record {
      n_is = placed.n_is;
      list = placed.list;
      size = size;
      apart = apart;
      earlier = λ b list sized before.
          let lower =
          (lexicographic 1 m.elements b a.elements list placed.list (omega (arith, sized, size))).0 before in
          let place = placed.place in
          all b list sized (omega (arith, lower, place));
    }

-- ---- a table of all vectors U

-- orthogonal to the first vectors of the table, so to those of the first sets
below_of_table : (m : SignMap) (v : List Sign) (k : ℕ) (table : List (List Sign)) → table ≡ cocircuit_vectors m
    → ((j : ℕ) → j < k → IsOrthogonal v (get_or table j [])) → IsOrthogonalBelow m v k
below_of_table m v k table e held b list size lt =
    subst (IsOrthogonal v)
    (ap (λ t. get_or t (rank_of m.elements b) []) e ∙ (vector_of_place m b list size).1)
    (held (rank_of m.elements b) lt)

-- where no vector of the table is found, all are orthogonal
pub none_in_table : (m : SignMap) (v : List Sign) (table : List (List Sign)) → table ≡ cocircuit_vectors m
    → ((j : ℕ) → 0 ≤ j → j < length table → IsOrthogonal v (get_or table j [])) → IsOrthogonalToAll m v
none_in_table m v table e held =
    orthogonal_to_all m v (length table) (ap length e ∙ length-table m)
    (below_of_table m v (length table) table e (λ j l. held j (omega arith) l))

-- the first vector of the table that isn't orthogonal is that of the first set
pub first_in_table : (m : SignMap) (v : List Sign) (k : ℕ) (a : Chosen) (table : List (List Sign)) → 1 ≤ m.rank
    → table ≡ cocircuit_vectors m → IsPlaced m.elements (m.rank - 1) k a
    → (IsOrthogonal v (get_or table k []) → ⊥)
    → ((j : ℕ) → 0 ≤ j → j < k → IsOrthogonal v (get_or table j [])) → IsFirstApart m v a
first_in_table m v k a table low e placed apart held =
    let many = placed.size in
    let here : get_or table k [] ≡ cocircuit_vector m a.elements =
    ap (λ t. get_or t k []) e ∙ ap (λ j. get_or (cocircuit_vectors m) j []) (sym placed.place)
    ∙ (vector_of_place m a.elements placed.list (omega (arith, many, low))).1 in
    first_at m v k a low placed (λ o. apart (subst (IsOrthogonal v) (sym here) o))
    (below_of_table m v k table e (λ j l. held j (omega arith) l))

-- what holds at all, holds where there is none
pub if_none : {X P : Type 0} (o : Option X) → P → IfNone o P
if_none None h = h
if_none (Some x) h = tt

-- ---- the sets S, one after the other

-- the first set A for the set S at place k, where all pairs with an earlier S are orthogonal
pub first_violated : (m : SignMap) (s a : Chosen) (k : ℕ) (u : List Sign) → IsPlaced m.elements (m.rank + 1) k s
    → u ≡ circuit_vector m s.elements → IsFirstApart m u a → AllBelow m k → IsFirstViolated m s a
first_violated m s a k u placed e first all =
    let size = placed.size in
    let place = placed.place in
    record {
      s_n = placed.n_is;
      a_n = first.n_is;
      pair = record { s_list = placed.list; s_size = size; a_list = first.list; a_size = first.size };
      violated = λ o. first.apart (subst (λ v. IsOrthogonal v (cocircuit_vector m a.elements)) (sym e) o);
      earlier_s = λ t b q before.
          let sized = q.s_size in
          let lower =
          (lexicographic 1 m.elements t s.elements q.s_list placed.list (omega (arith, sized, size))).0 before in
          all t b q (omega (arith, lower, place));
      earlier_a = λ b q before.
          subst (λ v. IsOrthogonal v (cocircuit_vector m b)) e (first.earlier b q.a_list q.a_size before);
    }

-- a violated pair denies that every pair is orthogonal
pub pair_found : (m : SignMap) (s a : Chosen) → IsFirstViolated m s a
    → IsNone {T = Chosen × Chosen} (Some (s, a)) ↔ HasOrthogonalPairs m
pair_found m s a first = (
  λ n. absurd (false≢true (sym n)),
  λ h. absurd (first.violated (h s.elements a.elements first.pair)),
)

-- one more set S has orthogonal pairs alone
pub all_below_more : {X : Type 0} (m : SignMap) (xs : List X) (x : X) (s : Chosen) (u : List Sign)
    → IsPlaced m.elements (m.rank + 1) (length xs) s → u ≡ circuit_vector m s.elements → IsOrthogonalToAll m u
    → AllBelow m (length xs) → AllBelow m (length (xs ++ x ∷ []))
all_below_more m xs x s u placed e held all t b p lt = elim (cases_eq (rank_of m.elements t) (length xs)) [
  | inl q ↦
      let same : t ≡ s.elements = same_place m.elements t s.elements p.s_list placed.list (p.s_size ∙ sym placed.size)
      (q ∙ sym placed.place) in
      subst (λ v. IsOrthogonal v (cocircuit_vector m b)) (e ∙ ap (circuit_vector m) (sym same))
      (held b p.a_list p.a_size)
  | inr n ↦ let more = length-append xs (x ∷ []) in all t b p (omega (arith, lt, n, more))
]
