-- The places of the increasing lists in reverse lexicographic order: each list stands at its place and at no other.
--
-- Main definitions: EndsWith, IsReverseListed
-- Main results: subset_push, split_last, length-revlex_subsets, reverse_small, at_reverse_rank, reverse_listed
use Rattle.std.proofs.Common.{ℕ, zero, suc, ◌≡◌, ◌+◌, ◌-◌, ◌<◌, ◌⊎◌, List, [], ◌∷◌, ◌++◌, length, map, refl, sym, ◌∙◌}
use Rattle.std.proofs.Common.{ap, subst, arith, inl, inr}
use Rattle.std.proofs.lemmas.Bool.{cases_lt}
use Rattle.std.proofs.lemmas.List.{length-append, length-map, length_push, get_or_append_left, get_or-append-add}
use Rattle.std.proofs.lemmas.List.{get_or-map}
use Rattle.om_subsets.specs.Subsets.{choose, IsSubsetFrom}
use Rattle.om_subsets.specs.Reverse.{revlex_subsets, revlex_subset_at, revlex_rank_from, revlex_rank_of}
use Rattle.om_subsets.proofs.Counts.{choose_more}
use Rattle.om_subsets.proofs.OneElement.{later_list, subset_wider}

-- ---- lists with and without their last number

-- an increasing list of some of m numbers, with the next number z at its end, is one of some of m + 1
pub subset_push : (low m z : ℕ) (ys : List ℕ) → z ≡ low + m → IsSubsetFrom low m ys
    → IsSubsetFrom low (suc m) (ys ++ z ∷ [])
subset_push low zero z [] q h = inl (omega arith, tt)
subset_push low zero z (y ∷ ys) q h = absurd h
subset_push low (suc m) z [] q h = later_list low (suc m) (z ∷ []) (subset_push (low + 1) m z [] (omega arith) tt)
subset_push low (suc m) z (y ∷ ys) q (inl (e, h)) = inl (e, subset_push (low + 1) m z ys (omega arith) h)
subset_push low (suc m) z (y ∷ ys) q (inr (n, h)) = inr (n, subset_push (low + 1) m z (y ∷ ys) (omega arith) h)

-- a list that ends with z, without it
pub record EndsWith (low m z : ℕ) (xs : List ℕ) : Type 0 where
  pub front : List ℕ
  pub whole : xs ≡ front ++ z ∷ []
  pub lawful : IsSubsetFrom low m front

ended_later : (low m z : ℕ) (xs : List ℕ) → EndsWith (low + 1) m z xs → EndsWith low (suc m) z xs
ended_later low m z xs h = record { front = h.front; whole = h.whole; lawful = later_list low m h.front h.lawful }

-- an increasing list of some of m + 1 numbers has no z, the last of these, or it ends with z
pub split_last : (low m z : ℕ) (xs : List ℕ) → z ≡ low + m → IsSubsetFrom low (suc m) xs → IsSubsetFrom low m xs
    ⊎ EndsWith low m z xs
split_last low m z [] q h = inl tt
split_last low zero z (x ∷ []) q (inl (e, h)) = let s : x ≡ z = omega arith in
    inr (record { front = []; whole = ap (λ k. k ∷ []) s; lawful = tt })
split_last low zero z (x ∷ y ∷ ys) q (inl (e, h)) = absurd h
split_last low zero z (x ∷ xs) q (inr (n, h)) = absurd h
split_last low (suc m) z (x ∷ xs) q (inl (e, h)) = elim (split_last (low + 1) m z xs (omega arith) h) [
  | inl k ↦ inl (inl (e, k))
  | inr k ↦ inr (record { front = x ∷ k.front; whole = ap (λ ys. x ∷ ys) k.whole; lawful = inl (e, k.lawful) })
]
split_last low (suc m) z (x ∷ xs) q (inr (n, h)) = elim (split_last (low + 1) m z (x ∷ xs) (omega arith) h) [
  | inl k ↦ inl (inr (n, k))
  | inr k ↦ inr (ended_later low m z (x ∷ xs) k)
]

rank_pushed : (i z : ℕ) (ys : List ℕ) → revlex_rank_from i (ys ++ z ∷ []) ≡ revlex_rank_from i ys
    + choose (z - 1) (i + length ys)
rank_pushed i z [] = let e : i + 0 ≡ i = omega arith in rw e (omega arith)
rank_pushed i z (y ∷ ys) =
    let r = rank_pushed (i + 1) z ys in
    let e : i + 1 + length ys ≡ i + suc (length ys) = omega arith in
    let c = ap (choose (z - 1)) e in
    omega arith

-- the place of a list that ends with n + 1
rank_ended : (n : ℕ) (ys : List ℕ) → revlex_rank_of (ys ++ suc n ∷ []) ≡ choose n (suc (length ys)) + revlex_rank_of ys
rank_ended n ys =
    let r = rank_pushed 1 (suc n) ys in
    let e : 1 + length ys ≡ suc (length ys) = omega arith in
    let f : suc n - 1 ≡ n = omega arith in
    let c = ap (choose (suc n - 1)) e ∙ ap (λ k. choose k (suc (length ys))) f in
    omega arith

-- ---- places

-- there are as many lists in reverse lexicographic order as ways to choose r of n
pub length-revlex_subsets : (n r : ℕ) → length (revlex_subsets n r) ≡ choose n r
length-revlex_subsets zero zero = refl
length-revlex_subsets (suc n) zero = refl
length-revlex_subsets zero (suc r) = refl
length-revlex_subsets (suc n) (suc r) =
    let a = length-append (revlex_subsets n (suc r)) (map (λ s. s ++ suc n ∷ []) (revlex_subsets n r)) in
    let b = length-map (revlex_subsets n r) (λ s. s ++ suc n ∷ []) in
    let c = length-revlex_subsets n (suc r) in
    let d = length-revlex_subsets n r in
    omega arith

-- the place of a list in reverse lexicographic order is below the number of the lists of its size
pub reverse_small : (n : ℕ) (xs : List ℕ) → IsSubsetFrom 1 n xs → revlex_rank_of xs < choose n (length xs)
reverse_small zero [] h = omega arith
reverse_small zero (x ∷ xs) h = absurd h
reverse_small (suc n) [] h = omega arith
reverse_small (suc n) (x ∷ xs) h = elim (split_last 1 n (suc n) (x ∷ xs) (omega arith) h) [
  | inl k ↦ let i = reverse_small n (x ∷ xs) k in let g = choose_more n (length (x ∷ xs)) in omega arith
  | inr k ↦
      let i = reverse_small n k.front k.lawful in
      let r = ap revlex_rank_of k.whole ∙ rank_ended n k.front in
      let l = ap length k.whole ∙ length_push k.front (suc n) in
      let s : length xs ≡ length k.front = omega arith in
      let c = ap (choose n) s in
      let d = ap (λ j. choose n (suc j)) s in
      omega arith
]

pub reverse_front : (n r k : ℕ) → k < choose n r → revlex_subset_at (suc n) r k ≡ revlex_subset_at n r k
reverse_front zero zero k l = refl
reverse_front (suc n) zero k l = refl
reverse_front n (suc r) k l =
    let few : k < length (revlex_subsets n (suc r)) = rw (length-revlex_subsets n (suc r)) l in
    get_or_append_left (revlex_subsets n (suc r)) (map (λ s. s ++ suc n ∷ []) (revlex_subsets n r)) [] k few

pub reverse_back : (n r k : ℕ) → k < choose n r → revlex_subset_at (suc n) (suc r) (choose n (suc r) + k)
    ≡ revlex_subset_at n r k ++ suc n ∷ []
reverse_back n r k l =
    let few : k < length (revlex_subsets n r) = rw (length-revlex_subsets n r) l in
    rw (← length-revlex_subsets n (suc r))
    (get_or-append-add (revlex_subsets n (suc r)) (map (λ s. s ++ suc n ∷ []) (revlex_subsets n r)) k []
    ∙ get_or-map (λ s. s ++ suc n ∷ []) (revlex_subsets n r) k [] [] few)

-- at the place of a list stands the list
pub at_reverse_rank : (n : ℕ) (xs : List ℕ) → IsSubsetFrom 1 n xs
    → revlex_subset_at n (length xs) (revlex_rank_of xs) ≡ xs
at_reverse_rank zero [] h = refl
at_reverse_rank zero (x ∷ xs) h = absurd h
at_reverse_rank (suc n) [] h = refl
at_reverse_rank (suc n) (x ∷ xs) h = elim (split_last 1 n (suc n) (x ∷ xs) (omega arith) h) [
  | inl k ↦ reverse_front n (length (x ∷ xs)) (revlex_rank_of (x ∷ xs)) (reverse_small n (x ∷ xs) k)
      ∙ at_reverse_rank n (x ∷ xs) k
  | inr k ↦
      let l : length (k.front ++ suc n ∷ []) ≡ suc (length k.front) = length_push k.front (suc n) ∙ omega arith in
      let back = reverse_back n (length k.front) (revlex_rank_of k.front) (reverse_small n k.front k.lawful)
      ∙ ap (λ ys. ys ++ suc n ∷ []) (at_reverse_rank n k.front k.lawful) in
      let goal : revlex_subset_at (suc n) (length (k.front ++ suc n ∷ [])) (revlex_rank_of (k.front ++ suc n ∷ []))
      ≡ k.front ++ suc n ∷ [] = rw (l, rank_ended n k.front) back in
      subst (λ ys. revlex_subset_at (suc n) (length ys) (revlex_rank_of ys) ≡ ys) (sym k.whole) goal
]

-- the list at a place of size r is increasing, has size r and has this place
pub record IsReverseListed (n r k : ℕ) (xs : List ℕ) : Type 0 where
  pub lawful : IsSubsetFrom 1 n xs
  pub size : length xs ≡ r
  pub place : revlex_rank_of xs ≡ k

listed_wider : (n r k : ℕ) (xs : List ℕ) → IsReverseListed n r k xs → IsReverseListed (suc n) r k xs
listed_wider n r k xs h = record { lawful = subset_wider 1 n xs h.lawful; size = h.size; place = h.place }

listed_pushed : (n r k : ℕ) (xs : List ℕ) → IsReverseListed n r k xs
    → IsReverseListed (suc n) (suc r) (choose n (suc r) + k) (xs ++ suc n ∷ [])
listed_pushed n r k xs h = record {
  lawful = subset_push 1 n (suc n) xs (omega arith) h.lawful;
  size = length_push xs (suc n) ∙ (let s = h.size in omega arith);
  place = rank_ended n xs ∙ rw (h.size, h.place) refl;
}

-- in reverse lexicographic order too, at each place below the number of the lists stands such a list
pub reverse_listed : (n r k : ℕ) → k < choose n r → IsReverseListed n r k (revlex_subset_at n r k)
reverse_listed zero zero zero l = record { lawful = tt; size = refl; place = refl }
reverse_listed zero zero (suc k) l = absurd (omega arith)
reverse_listed (suc n) zero zero l = record { lawful = tt; size = refl; place = refl }
reverse_listed (suc n) zero (suc k) l = absurd (omega arith)
reverse_listed zero (suc r) k l = absurd (omega arith)
reverse_listed (suc n) (suc r) k l = elim (cases_lt k (choose n (suc r))) [
  | inl lt ↦ subst (IsReverseListed (suc n) (suc r) k) (sym (reverse_front n (suc r) k lt))
      (listed_wider n (suc r) k _ (reverse_listed n (suc r) k lt))
  | inr ge ↦
      let e : choose n (suc r) + (k - choose n (suc r)) ≡ k = omega arith in
      let few : k - choose n (suc r) < choose n r = omega arith in
      let h = listed_pushed n r (k - choose n (suc r)) _ (reverse_listed n r (k - choose n (suc r)) few) in
      let back = reverse_back n r (k - choose n (suc r)) few in
      rw (← e) (rw back h)
]
