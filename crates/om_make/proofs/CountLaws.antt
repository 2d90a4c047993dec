-- How many cocircuits and mutations a chirotope of rank 3 may have.
--
-- Main results: most_cocircuits (in rank 3 at most n (n - 1) on n elements); few_cocircuits (no more than a list may
-- have), few_mutations (no more than triples), few_signs, counted_signs.
use Rattle.std.specs.Prelude.{ℕ, ◌≡◌, ◌<◌, ◌≤◌, ◌+◌, ◌*◌, ◌-◌, List, [], ◌∷◌, ◌++◌, length, map, refl}
use Rattle.std.specs.List.{Contains}
use Rattle.std.proofs.Common.{zero, suc, get_or, sym, ◌∙◌, ap, subst, inl, inr, arith}
use Rattle.std.proofs.lemmas.List.{length-append, length-map}
use Rattle.std.proofs.lemmas.List.Elements.{All-contains, Contains-append_left, Contains-append_right}
use Rattle.std.proofs.lemmas.Nat.{mul-le}
use Rattle.std.proofs.Math.Nat.{mul-sub}
use Rattle.om_signs.specs.declared.limits.TheConstants.{MAX_ELEMENTS, MAX_MEMBERS}
use Rattle.om_signs.specs.declared.sign.Sign.{Sign}
use Rattle.om_signs.specs.Sign.{opposite}
use Rattle.om_subsets.specs.Subsets.{IsSubsetFrom, choose, rank_of, all_subsets}
use Rattle.om_subsets.proofs.Order.{length-subsets_from, rank_from-lt, get_or-rank_from, lexicographic}
use Rattle.om_subsets.specs.Members.{Chosen}
use Rattle.om_subsets.proofs.Counts.{choose_one}
use Rattle.om_subsets.proofs.Table.{choose_most}
use Rattle.om_signs.specs.declared.raw_map.RawMap.{RawMap}
use Rattle.om_chirotope.specs.Chirotope.{IsChirotopeWithinLimits}
use Rattle.om_chirotope.specs.Map.{SignMap, map_of, cocircuit_vector, cocircuit_vectors}
use Rattle.om_denotation.specs.Circuits.{IsCocircuitOfChirotope, IsUpToSign}
use Rattle.om_denotation.specs.Listings.{HasMoreThan}
use Rattle.om_convert.proofs.CountingLaws.{distinct_few}
use Rattle.om_mutate.specs.Mutations.{ListsMutations, nth}
use Rattle.om_make.specs.Tallies.{count_of}
use Rattle.om_make.proofs.FirstSigns.{fewer}

-- ---- cocircuits

twice_pairs : (n : ℕ) → 2 * choose n 2 + n ≡ n * n
twice_pairs zero = refl
twice_pairs (suc n) = let a = choose_one n in let b = twice_pairs n in grind arith

module _ (m : SignMap) (three : m.rank ≡ 3) where
  -- the vectors of all pairs, and their negatives
  abbrev candidates : List (List Sign)
  candidates = cocircuit_vectors m ++ map (map opposite) (cocircuit_vectors m)

  pairs : length (cocircuit_vectors m) ≡ choose m.elements 2
  pairs = length-map (all_subsets m.elements (m.rank - 1)) (cocircuit_vector m)
      ∙ length-subsets_from 1 m.elements (m.rank - 1) ∙ ap (λ r. choose m.elements (r - 1)) three

  candidate_count : length candidates ≡ m.elements * (m.elements - 1)
  candidate_count =
      let a = length-append (cocircuit_vectors m) (map (map opposite) (cocircuit_vectors m)) in
      let b = length-map (cocircuit_vectors m) (map opposite) in
      let p = pairs in
      let q = twice_pairs m.elements in
      let e = mul-sub m.elements m.elements 1 in
      omega arith

  vector_listed : (t : List ℕ) → IsSubsetFrom 1 m.elements t → length t + 1 ≡ m.rank
      → Contains (cocircuit_vectors m) (cocircuit_vector m t)
  vector_listed t increasing size =
      let r : m.rank - 1 ≡ length t = omega arith in
      let below : rank_of m.elements t < length (all_subsets m.elements (length t)) =
      rw (length-subsets_from 1 m.elements (length t)) (rank_from-lt 1 m.elements t increasing) in
      let here : get_or (all_subsets m.elements (length t)) (rank_of m.elements t) [] ≡ t =
      get_or-rank_from 1 m.elements t increasing in
      rw r (mapped (cocircuit_vector m) (all_subsets m.elements (length t)) (rank_of m.elements t) t [] below here)
    where
      mapped : {A B : Type 0} (f : A → B) (xs : List A) (k : ℕ) (x d : A) → k < length xs → get_or xs k d ≡ x
          → Contains (map f xs) (f x)
      mapped f [] k x d l e = absurd (omega arith)
      mapped f (y ∷ ys) zero x d l e = (0, omega arith, ap f e)
      mapped f (y ∷ ys) (suc k) x d l e = let c = mapped f ys k x d (omega arith) e in
          (suc c.0, let s = c.1 in omega arith, c.2)

  candidate : (X : List Sign) → IsCocircuitOfChirotope m X → Contains candidates X
  candidate X h = by_case h.same
    where
      listed : Contains (cocircuit_vectors m) (cocircuit_vector m h.tuple)
      listed = vector_listed h.tuple h.increasing h.size

      negated : {A : Type 0} (f : A → A) (xs : List A) (x : A) → Contains xs x → Contains (map f xs) (f x)
      negated f [] x c = absurd (let l = c.1 in omega arith)
      negated f (y ∷ ys) x (zero, l, e) = (0, omega arith, ap f e)
      negated f (y ∷ ys) x (suc k, l, e) = let c = negated f ys x (k, omega arith, e) in
          (suc c.0, let s = c.1 in omega arith, c.2)

      by_case : IsUpToSign X (cocircuit_vector m h.tuple) → Contains candidates X
      by_case (inl q) =
          subst (Contains candidates) (sym q)
          (Contains-append_left (cocircuit_vectors m) (map (map opposite) (cocircuit_vectors m))
          (cocircuit_vector m h.tuple) listed)
      by_case (inr q) =
          subst (Contains candidates) (sym q)
          (Contains-append_right (cocircuit_vectors m) (map (map opposite) (cocircuit_vectors m))
          (map opposite (cocircuit_vector m h.tuple))
          (negated (map opposite) (cocircuit_vectors m) (cocircuit_vector m h.tuple) listed))

  pub most_cocircuits : HasMoreThan (m.elements * (m.elements - 1)) (IsCocircuitOfChirotope m) → ⊥
  most_cocircuits more =
      let l = distinct_few more.members candidates more.distinct
      (λ X c. candidate X (All-contains (IsCocircuitOfChirotope m) more.members X more.each c)) in
      let c = candidate_count in
      let k = more.many in
      omega arith

  pub few_cocircuits : m.elements ≤ MAX_ELEMENTS → HasMoreThan MAX_MEMBERS (IsCocircuitOfChirotope m) → ⊥
  few_cocircuits high =
      let s = mul-le m.elements (m.elements - 1) MAX_ELEMENTS MAX_ELEMENTS high (omega arith) in
      fewer (m.elements * (m.elements - 1)) MAX_MEMBERS (IsCocircuitOfChirotope m) (omega arith) most_cocircuits

-- ---- mutations

module _ (m : SignMap) (sets : List Chosen) (h : ListsMutations m sets) where
  place_grows : (k : ℕ) → k < length sets → k ≤ rank_of m.elements (nth sets k).elements
  place_grows zero l = omega arith
  place_grows (suc k) l =
      let less : k < length sets = omega arith in
      let before = h.order k (suc k) (omega arith) l in
      let first = (h.mutations k less).1.triple in
      let second = (h.mutations (suc k) l).1.triple in
      let p = place_grows k less in
      let q = (lexicographic 1 m.elements (nth sets k).elements (nth sets (suc k)).elements first.list second.list
      (first.size ∙ sym second.size)).0 before in
      omega arith

  pub few_mutations : length sets ≤ choose m.elements 3
  few_mutations = by_size (length sets) refl
    where
      by_size : (n : ℕ) → length sets ≡ n → n ≤ choose m.elements 3
      by_size zero e = omega arith
      by_size (suc k) e =
          let last : k < length sets = omega arith in
          let t = (h.mutations k last).1.triple in
          let p = place_grows k last in
          let q : rank_of m.elements (nth sets k).elements < choose m.elements 3 =
          subst (λ r. rank_of m.elements (nth sets k).elements < choose m.elements r) t.size
          (rank_from-lt 1 m.elements (nth sets k).elements t.list) in
          omega arith

-- ---- signs

-- ---- how many signs a map has

pub few_signs : (m : SignMap) → IsChirotopeWithinLimits m → (raw : RawMap) (signs : List Sign) → map_of raw ≡ m
    → signs ≡ raw.signs
    → length signs ≤ 4294967295
few_signs m sound raw signs is same =
    let whole = sound.axioms.whole.whole in
    let high = sound.limits.high in
    let most = choose_most m.elements m.rank (omega arith) in
    let signs_is : raw.signs ≡ m.signs = ap (λ k. k.signs) is in
    let size = ap length (same ∙ signs_is) in
    omega arith

-- the number of a sign among the signs of the raw map of a map is its number in the map
pub counted_signs : (s : Sign) (m : SignMap) (raw : RawMap) (signs : List Sign) (k : ℕ) → map_of raw ≡ m
    → signs ≡ raw.signs → k ≡ count_of s signs → k ≡ count_of s m.signs
counted_signs s m raw signs k is same counted = counted ∙ ap (count_of s) (same ∙ ap (λ n. n.signs) is)
