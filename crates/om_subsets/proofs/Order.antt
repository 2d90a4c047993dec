-- The order of the increasing lists.
--
-- Main results: each list stands at its place and at no other (`get_or-rank_from`, `listed`), the places follow the
-- lexicographic order (`lexicographic`), the recursion describes the increasing lists (`increasing`,
-- `from_increasing`).
use Rattle.std.specs.Prelude.{ℕ, ◌≡◌, ◌≢◌, ◌+◌, ◌-◌, ◌<◌, ◌≤◌, List, [], ◌∷◌, length, map, refl, ◌↔◌}
use Rattle.std.proofs.Common.{zero, suc, get_or, arith, sym, ◌∙◌, ap, inl, inr}
use Rattle.std.proofs.lemmas.List.{length-append, length-map, get_or_append_left, get_or-append-add, get_or-map}
use Rattle.std.proofs.lemmas.Bool.{cases_eq, cases_lt, eq-eqb, ne_eqb}
use Rattle.om_subsets.specs.Subsets.{choose, subsets_from, rank_from, rank_of, IsSubsetFrom, IsMember, IsTriple}
use Rattle.om_subsets.specs.Lists.{IsIncreasing, IsBefore}
pub use Rattle.om_signs.proofs.Numbers.{increasing_tail}

-- there are as many increasing lists of r of m numbers as ways to choose r of m
pub length-subsets_from : (low m r : ℕ) → length (subsets_from low m r) ≡ choose m r
length-subsets_from low zero zero = refl
length-subsets_from low (suc m) zero = refl
length-subsets_from low zero (suc r) = refl
length-subsets_from low (suc m) (suc r) =
    length-append (map (λ s. low ∷ s) (subsets_from (low + 1) m r)) (subsets_from (low + 1) m (suc r))
    ∙ rw (
      length-map (subsets_from (low + 1) m r) (λ s. low ∷ s),
      length-subsets_from (low + 1) m r,
      length-subsets_from (low + 1) m (suc r),
    ) refl

-- the place of an increasing list is below the number of the lists of its size
pub rank_from-lt : (low m : ℕ) (xs : List ℕ) → IsSubsetFrom low m xs → rank_from low m xs < choose m (length xs)
rank_from-lt low zero [] h = omega arith
rank_from-lt low zero (x ∷ xs) h = absurd h
rank_from-lt low (suc m) [] h = omega arith
rank_from-lt low (suc m) (x ∷ xs) (inl (e, h)) =
    rw (eq-eqb x low e) (let i = rank_from-lt (low + 1) m xs h in omega arith)
rank_from-lt low (suc m) (x ∷ xs) (inr (n, h)) =
    rw (ne_eqb x low n) (let i = rank_from-lt (low + 1) m (x ∷ xs) h in omega arith)

-- the first half of the lists begin with low, and the others do not
length-front : (low m r : ℕ) → length (map (λ s. low ∷ s) (subsets_from (low + 1) m r)) ≡ choose m r
length-front low m r = length-map (subsets_from (low + 1) m r) (λ s. low ∷ s) ∙ length-subsets_from (low + 1) m r

pub at_front : (low m r k : ℕ) → k < choose m r → get_or (subsets_from low (suc m) (suc r)) k [] ≡ low
    ∷ get_or (subsets_from (low + 1) m r) k []
at_front low m r k l =
    let few : k < length (subsets_from (low + 1) m r) = rw (length-subsets_from (low + 1) m r) l in
    let front : k < length (map (λ s. low ∷ s) (subsets_from (low + 1) m r)) = rw (length-front low m r) l in
    get_or_append_left (map (λ s. low ∷ s) (subsets_from (low + 1) m r)) (subsets_from (low + 1) m (suc r)) [] k front
    ∙ get_or-map (λ s. low ∷ s) (subsets_from (low + 1) m r) k [] [] few

pub at_back : (low m r k : ℕ) → get_or (subsets_from low (suc m) (suc r)) (choose m r + k) []
    ≡ get_or (subsets_from (low + 1) m (suc r)) k []
at_back low m r k =
    rw (← length-front low m r)
    (get_or-append-add (map (λ s. low ∷ s) (subsets_from (low + 1) m r)) (subsets_from (low + 1) m (suc r)) k [])

-- at the place of a list stands the list
pub get_or-rank_from : (low m : ℕ) (xs : List ℕ) → IsSubsetFrom low m xs
    → get_or (subsets_from low m (length xs)) (rank_from low m xs) [] ≡ xs
get_or-rank_from low zero [] h = refl
get_or-rank_from low zero (x ∷ xs) h = absurd h
get_or-rank_from low (suc m) [] h = refl
get_or-rank_from low (suc m) (x ∷ xs) (inl (e, h)) =
    rw (eq-eqb x low e)
    (at_front low m (length xs) (rank_from (low + 1) m xs) (rank_from-lt (low + 1) m xs h)
    ∙ rw (get_or-rank_from (low + 1) m xs h, e) refl)
get_or-rank_from low (suc m) (x ∷ xs) (inr (n, h)) =
    rw (ne_eqb x low n) (at_back low m (length xs) (rank_from (low + 1) m (x ∷ xs))
    ∙ get_or-rank_from (low + 1) m (x ∷ xs) h)

-- two lists of one size at one place are the same
pub same_place : (n : ℕ) (xs ys : List ℕ) → IsSubsetFrom 1 n xs → IsSubsetFrom 1 n ys → length xs ≡ length ys
    → rank_of n xs ≡ rank_of n ys → xs ≡ ys
same_place n xs ys hx hy l r = sym (get_or-rank_from 1 n xs hx) ∙ rw (l, r) (get_or-rank_from 1 n ys hy)

-- two triples at one place are the same
pub same_triple : (n : ℕ) (t u : List ℕ) → IsTriple n t → IsTriple n u → rank_of n t ≡ rank_of n u → t ≡ u
same_triple n t u h k e = same_place n t u h.list k.list (h.size ∙ sym k.size) e

-- every number is at least low
pub head_low : (low m x : ℕ) (xs : List ℕ) → IsSubsetFrom low m (x ∷ xs) → low ≤ x
head_low low zero x xs h = absurd h
head_low low (suc m) x xs (inl (e, h)) = omega arith
head_low low (suc m) x xs (inr (n, h)) = let i = head_low (low + 1) m x xs h in omega arith

-- the list at a place of size r is increasing, has size r and has this place
pub record IsListed (low m r k : ℕ) (xs : List ℕ) : Type 0 where
  pub lawful : IsSubsetFrom low m xs
  pub size : length xs ≡ r
  pub place : rank_from low m xs ≡ k

listed_front : (low m r k : ℕ) (xs : List ℕ) → IsListed (low + 1) m r k xs → IsListed low (suc m) (suc r) k (low ∷ xs)
listed_front low m r k xs h = record {
  lawful = inl (refl, h.lawful);
  size = ap suc h.size;
  place = rw (eq-eqb low low refl) h.place;
}

listed_back : (low m r k : ℕ) (xs : List ℕ) → IsListed (low + 1) m (suc r) k xs
    → IsListed low (suc m) (suc r) (choose m r + k) xs
listed_back low m r k [] h = let s = h.size in absurd (omega arith)
listed_back low m r k (x ∷ xs) h =
    let above = head_low (low + 1) m x xs h.lawful in
    let ne : x ≢ low = omega arith in
    let s : length xs ≡ r = let q = h.size in omega arith in
    record {
      lawful = inr (ne, h.lawful);
      size = h.size;
      place = rw (ne_eqb x low ne, s, h.place) refl;
    }

-- at each place below the number of the lists of size r stands such a list
pub listed : (low m r k : ℕ) → k < choose m r → IsListed low m r k (get_or (subsets_from low m r) k [])
listed low zero zero zero l = record { lawful = tt; size = refl; place = refl }
listed low zero zero (suc k) l = absurd (omega arith)
listed low (suc m) zero zero l = record { lawful = tt; size = refl; place = refl }
listed low (suc m) zero (suc k) l = absurd (omega arith)
listed low zero (suc r) k l = absurd (omega arith)
listed low (suc m) (suc r) k l = elim (cases_lt k (choose m r)) [
  | inl lt ↦ rw (at_front low m r k lt) (listed_front low m r k _ (listed (low + 1) m r k lt))
  | inr ge ↦
      let e : choose m r + (k - choose m r) ≡ k = omega arith in
      let h = listed_back low m r (k - choose m r) _ (listed (low + 1) m (suc r) (k - choose m r) (omega arith)) in
      let back = at_back low m r (k - choose m r) in
      rw (← e) (rw back h)
]

-- ---- the lexicographic order

-- of two increasing lists of one size, one comes before the other exactly if its place is lower
pub lexicographic : (low m : ℕ) (xs ys : List ℕ) → IsSubsetFrom low m xs → IsSubsetFrom low m ys → length xs ≡ length ys
    → IsBefore xs ys ↔ (rank_from low m xs < rank_from low m ys)
lexicographic low m [] [] hx hy l = (λ b. absurd b, λ b. absurd (omega arith))
lexicographic low m [] (y ∷ ys) hx hy l = absurd (omega arith)
lexicographic low m (x ∷ xs) [] hx hy l = absurd (omega arith)
lexicographic low zero (x ∷ xs) (y ∷ ys) hx hy l = absurd hx
lexicographic low (suc m) (x ∷ xs) (y ∷ ys) (inl (e, hx)) (inl (f, hy)) l =
    let i = lexicographic (low + 1) m xs ys hx hy (omega arith) in
    let same : x ≡ y = e ∙ sym f in
    rw (eq-eqb x low e, eq-eqb y low f) (λ b. i.0 (tails b), λ r. inr (same, i.1 r))
  where
    tails : IsBefore (x ∷ xs) (y ∷ ys) → IsBefore xs ys
    tails (inl lt) = absurd (omega arith)
    tails (inr b) = b.1
lexicographic low (suc m) (x ∷ xs) (y ∷ ys) (inl (e, hx)) (inr (g, hy)) l =
    let above = head_low (low + 1) m y ys hy in
    let small = rank_from-lt (low + 1) m xs hx in
    let len : length xs ≡ length ys = omega arith in
    let c = ap (choose m) len in
    rw (eq-eqb x low e, ne_eqb y low g) (λ b. omega arith, λ r. inl (omega arith))
lexicographic low (suc m) (x ∷ xs) (y ∷ ys) (inr (g, hx)) (inl (f, hy)) l =
    let above = head_low (low + 1) m x xs hx in
    let small = rank_from-lt (low + 1) m ys hy in
    let len : length xs ≡ length ys = omega arith in
    let c = ap (choose m) len in
    rw (ne_eqb x low g, eq-eqb y low f) (λ b. absurd (not_before above b), λ r. absurd (omega arith))
  where
    not_before : low + 1 ≤ x → IsBefore (x ∷ xs) (y ∷ ys) → ⊥
    not_before above (inl lt) = omega arith
    not_before above (inr b) = let q = b.0 in omega arith
lexicographic low (suc m) (x ∷ xs) (y ∷ ys) (inr (g, hx)) (inr (j, hy)) l =
    let i = lexicographic (low + 1) m (x ∷ xs) (y ∷ ys) hx hy l in
    let len : length xs ≡ length ys = omega arith in
    let c = ap (choose m) len in
    rw (ne_eqb x low g, ne_eqb y low j) (λ b. let k = i.0 b in omega arith, λ r. i.1 (omega arith))

-- ---- increasing lists

-- the members of an increasing list of some of the m numbers from low on are among these
pub members_from : (low m e : ℕ) (xs : List ℕ) → IsSubsetFrom low m xs → IsMember e xs → (low ≤ e) × (e < low + m)
members_from low m e [] h q = absurd q
members_from low zero e (x ∷ xs) h q = absurd h
members_from low (suc m) e (x ∷ xs) (inl (p, h)) (inl q) = (omega arith, omega arith)
members_from low (suc m) e (x ∷ xs) (inl (p, h)) (inr q) = let i = members_from (low + 1) m e xs h q in
    (omega arith, omega arith)
members_from low (suc m) e (x ∷ xs) (inr (n, h)) q = let i = members_from (low + 1) m e (x ∷ xs) h q in
    (omega arith, omega arith)

cons_increasing : (x : ℕ) (xs : List ℕ) → ((e : ℕ) → IsMember e xs → x < e) → IsIncreasing xs → IsIncreasing (x ∷ xs)
cons_increasing x [] below h = tt
cons_increasing x (y ∷ ys) below h = (below y (inl refl), h)

pub increasing : (low m : ℕ) (xs : List ℕ) → IsSubsetFrom low m xs → IsIncreasing xs
increasing low m [] h = tt
increasing low zero (x ∷ xs) h = absurd h
increasing low (suc m) (x ∷ xs) (inl (e, h)) =
    cons_increasing x xs (λ f q. let b = members_from (low + 1) m f xs h q in omega arith) (increasing (low + 1) m xs h)
increasing low (suc m) (x ∷ xs) (inr (n, h)) = increasing (low + 1) m (x ∷ xs) h

-- if each number is below the next, the first is below every later one
pub head_below : (x e : ℕ) (xs : List ℕ) → IsIncreasing (x ∷ xs) → IsMember e xs → x < e
head_below x e [] h q = absurd q
head_below x e (y ∷ ys) h (inl q) = let l = h.0 in omega arith
head_below x e (y ∷ ys) h (inr q) = let l = h.0 in let i = head_below y e ys h.1 q in omega arith

-- a list whose numbers increase, and are among the m from low on, fits the recursive definition
pub from_increasing : (low m : ℕ) (xs : List ℕ) → IsIncreasing xs
    → ((e : ℕ) → IsMember e xs → (low ≤ e) × (e < low + m)) → IsSubsetFrom low m xs
from_increasing low m [] h w = tt
from_increasing low zero (x ∷ xs) h w = let b = w x (inl refl) in omega arith
from_increasing low (suc m) (x ∷ xs) h w = elim (cases_eq x low) [
  | inl e ↦
      inl (
        e,
        from_increasing (low + 1) m xs (increasing_tail x xs h)
            (λ f q. let above = head_below x f xs h q in let b = w f (inr q) in (omega arith, omega arith)),
      )
  | inr n ↦
      inr (
        n,
        from_increasing (low + 1) m (x ∷ xs) h
            (λ f q. let b = w f q in let start = (w x (inl refl)).0 in let above = later f q in
            (omega arith, omega arith)),
      )
]
  where
    later : (f : ℕ) → IsMember f (x ∷ xs) → x ≤ f
    later f (inl q) = omega arith
    later f (inr q) = let l = head_below x f xs h q in omega arith
