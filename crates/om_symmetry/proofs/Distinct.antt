-- Distinct elements of 1 to n.
--
-- Main results: there are at most n of them (few_distinct), n of them are all (all_listed); a member is at some place
-- (place_of), places of a distinct list differ in what is there (places_apart), and a list whose places differ is
-- distinct (distinct_by_places).
use Rattle.std.proofs.Common.{ℕ, zero, suc, ◌≡◌, ◌≢◌, ◌<◌, ◌≤◌, List, [], ◌∷◌, ◌++◌, length, get_or, refl, sym, ap}
use Rattle.std.proofs.Common.{subst, inl, inr, ⊎_elim, arith}
use Rattle.std.proofs.lemmas.List.{length-append}
use Rattle.om_laws.specs.Members.{IsMember, IsDistinct}
use Rattle.om_laws.specs.Sorting.{IsElement, Each, IsTuple}
use Rattle.om_laws.proofs.MemberLaws.{split_at, member_or_not, member_at, member_insert, distinct_drop}
use Rattle.om_laws.proofs.TupleSizes.{each_member, each_from}

-- ---- how many there are

within_smaller : (n : ℕ) (xs : List ℕ) → Each (IsElement (suc n)) xs → (IsMember (suc n) xs → ⊥)
    → Each (IsElement n) xs
within_smaller n xs w off = each_from (IsElement n) xs (λ e m.
    let k = each_member (IsElement (suc n)) xs w e m in
    let low = k.0 in
    let high = k.1 in
    let other : e ≢ suc n = (λ q. off (subst (λ z. IsMember z xs) q m)) in
    (low, omega arith))

-- distinct elements of 1 to n are at most n
pub few_distinct : (n : ℕ) (xs : List ℕ) → IsDistinct xs → Each (IsElement n) xs → length xs ≤ n
few_distinct zero [] d w = omega arith
few_distinct zero (x ∷ xs) d w = let low = w.0.0 in let high = w.0.1 in absurd (omega arith)
few_distinct (suc n) xs d w = ⊎_elim
    (λ m.
    let s = split_at (suc n) xs m in
    let k = distinct_drop s.0 (suc n) s.1 (subst IsDistinct s.2 d) in
    let rest = few_distinct n (s.0 ++ s.1) k.0
    (within_smaller n (s.0 ++ s.1)
    (each_from (IsElement (suc n)) (s.0 ++ s.1) (λ e j.
    each_member (IsElement (suc n)) xs w e (subst (IsMember e) (sym s.2) (member_insert e s.0 (suc n) s.1 j)))) k.1) in
    let a = length-append s.0 s.1 in
    let b = length-append s.0 (suc n ∷ s.1) in
    let q = ap length s.2 in
    omega arith)
    (λ off. let rest = few_distinct n xs d (within_smaller n xs w off) in omega arith)
    (member_or_not (suc n) xs)

pub all_listed : (n : ℕ) (xs : List ℕ) → IsTuple n n xs → IsDistinct xs → (e : ℕ) → IsElement n e → IsMember e xs
all_listed n xs t d e i = ⊎_elim
    (λ m. m)
    (λ off. let more = few_distinct n (e ∷ xs) (off, d) (i, t.within) in let l = t.size in absurd (omega arith))
    (member_or_not e xs)

-- ---- places

-- a member of a list stands at some place
pub place_of : (e : ℕ) (xs : List ℕ) → IsMember e xs → (i : ℕ) × (i < length xs) × (get_or xs i 0 ≡ e)
place_of e [] m = absurd m
place_of e (x ∷ xs) (inl q) = (0, omega arith, sym q)
place_of e (x ∷ xs) (inr m) = let k = place_of e xs m in let l = k.1 in (suc k.0, omega arith, k.2)

pub places_apart : (xs : List ℕ) → IsDistinct xs → (i j : ℕ) → i < length xs → j < length xs
    → get_or xs i 0 ≡ get_or xs j 0 → i ≡ j
places_apart [] d i j li lj q = absurd (omega arith)
places_apart (x ∷ xs) d zero zero li lj q = refl
places_apart (x ∷ xs) d zero (suc j) li lj q =
    absurd (d.0 (subst (λ z. IsMember z xs) (sym q) (member_at xs j (omega arith))))
places_apart (x ∷ xs) d (suc i) zero li lj q =
    absurd (d.0 (subst (λ z. IsMember z xs) q (member_at xs i (omega arith))))
places_apart (x ∷ xs) d (suc i) (suc j) li lj q = ap suc (places_apart xs d.1 i j (omega arith) (omega arith) q)

pub distinct_by_places : (xs : List ℕ)
    → ((i j : ℕ) → i < length xs → j < length xs → get_or xs i 0 ≡ get_or xs j 0 → i ≡ j) → IsDistinct xs
distinct_by_places [] h = tt
distinct_by_places (x ∷ xs) h = (
  λ m. let k = place_of x xs m in let l = k.1 in
      let q = h 0 (suc k.0) (omega arith) (omega arith) (sym k.2) in absurd (omega arith),
  distinct_by_places xs (λ i j li lj q. let k = h (suc i) (suc j) (omega arith) (omega arith) q in omega arith),
)
