-- Sorted members.
--
-- Main results: sorted_is, sorted_permutes, sorted_rises, All-sorted, sorted_differ, length-sorted, distinct_differ,
-- distinct_itself, same_sorted, same_members
use Rattle.std.proofs.Common.{◌≡◌, ◌≢◌, ◌≤◌, ◌+◌, ℕ, zero, suc, arith, List, [], ◌∷◌, false, cond, not, inl, inr}
use Rattle.std.proofs.Common.{length, refl, sym, ap, subst, ◌∙◌}
use Rattle.std.specs.Prelude.{All, AllPairs, filter, sum_by}
use Rattle.std.specs.List.{list_any}
use Rattle.std.specs.List.Sorted.{IsPermutation, IsSorted}
use Rattle.std.specs.Cmp.{IsStrictWeakOrder}
use Rattle.std.specs.declared.cmp.Ordering.{Ordering}
use Rattle.std.specs.declared.cmp.Ordering.TheVariants.{Less, Equal, Greater}
use Rattle.std.specs.Ordering.{is_lt, ordering_reverse}
use Rattle.std.proofs.lemmas.List.Elements.{All-nil, All-cons, All-head, All-tail}
use Rattle.std.proofs.lemmas.List.Kept.{AllPairs-cons, AllPairs-filter}
use Rattle.std.proofs.lemmas.List.Sorted.{ranks_by, sorted_far, sum_by-IsPermutation, IsPermutation-refl}
use Rattle.std.proofs.lemmas.List.Sorted.{IsPermutation-sym, IsPermutation-trans, IsPermutation-middle}
use Rattle.std.proofs.lemmas.List.Sorted.{IsPermutation-cons}
use Rattle.std.proofs.lemmas.List.Sums.{sum_by-cons}
use Rattle.std.proofs.lemmas.Bool.{cases_Bool}
use Rattle.om_signs.specs.declared.sign.Sign.{Sign}
use Rattle.om_signs.specs.Order.{lexicographic}
use Rattle.om_signs.specs.OrderLaws.{lexicographic-total, same_from_order}
use Rattle.om_document.specs.Rows.{same_row, distinct, is_before, placed, sorted}
use Rattle.om_document.proofs.SameRow.{same_row-Decides}

order : IsStrictWeakOrder is_before
order = ranks_by lexicographic-total (λ x. x)

-- y doesn't come before x
abbrev IsUpTo : List Sign → List Sign → Type 0
IsUpTo x y = is_before y x ≡ false

tied : (o p : Ordering) → o ≡ ordering_reverse p → is_lt o ≡ false → is_lt p ≡ false → o ≡ Equal
tied Less p r a b = cc
tied Equal p r a b = refl
tied Greater Less r a b = cc
tied Greater Equal r a b = cc
tied Greater Greater r a b = cc

-- two members neither of which comes before the other are one
same_from_order_tests : (x y : List Sign) → IsUpTo x y → IsUpTo y x → x ≡ y
same_from_order_tests x y a b =
    same_from_order x y (tied (lexicographic x y) (lexicographic y x) (lexicographic-total.antisymm x y) b a)

not_before_itself : (x : List Sign) → IsUpTo x x
not_before_itself x = elim (cases_Bool (is_before x x)) [
  | inl e ↦ order.one_way x x e
  | inr n ↦ n
]

pairs_head : (R : List Sign → List Sign → Type 0) (x : List Sign) (xs : List (List Sign)) → AllPairs R (x ∷ xs)
    → All (R x) xs
pairs_head R x xs h k d l = h zero (suc k) d (omega arith) (omega arith)

pairs_tail : (R : List Sign → List Sign → Type 0) (x : List Sign) (xs : List (List Sign)) → AllPairs R (x ∷ xs)
    → AllPairs R xs
pairs_tail R x xs h i j d l m = h (suc i) (suc j) d (omega arith) (omega arith)

-- how often z is a member

tally : List Sign → List Sign → ℕ
tally z y = cond (same_row z y) 1 0

count : List Sign → List (List Sign) → ℕ
count z [] = 0
count z (y ∷ ys) = tally z y + count z ys

count-sum_by : (z : List Sign) (ys : List (List Sign)) → sum_by (tally z) ys ≡ count z ys
unfolding count
count-sum_by z [] = refl
count-sum_by z (y ∷ ys) = sum_by-cons (tally z) y ys ∙ ap (λ k. tally z y + k) (count-sum_by z ys)

count-permutation : (z : List Sign) (xs ys : List (List Sign)) → IsPermutation xs ys → count z ys ≡ count z xs
count-permutation z xs ys p = sym (count-sum_by z ys) ∙ sum_by-IsPermutation (tally z) xs ys p ∙ count-sum_by z xs

tally-same : (z : List Sign) → tally z z ≡ 1
unfolding tally
tally-same z = let e = (same_row-Decides z z).1 refl in rw e refl

-- what holds of each member holds of z, if z is one
counted : (P : List Sign → Type 0) (z : List Sign) (ys : List (List Sign)) → All P ys → 1 ≤ count z ys → P z
unfolding count tally
counted P z [] a h = absurd (omega arith)
counted P z (y ∷ ys) a h = elim (cases_Bool (same_row z y)) [
  | inl e ↦ subst P (sym ((same_row-Decides z y).0 e)) (All-head P y ys a)
  | inr n ↦
      counted P z ys (All-tail P y ys a) (let g : 1 ≤ cond (same_row z y) 1 0 + count z ys = h in let m = rw n at g in
      omega arith)
]

counted_first : (z : List Sign) (ys : List (List Sign)) → 1 ≤ count z (z ∷ ys)
unfolding count
counted_first z ys = let t = tally-same z in omega arith

-- sorted members that are the same ones are in the same order
unique : (xs ys : List (List Sign)) → AllPairs IsUpTo xs → AllPairs IsUpTo ys
    → ((z : List Sign) → count z xs ≡ count z ys) → xs ≡ ys
unfolding count
unique [] [] a b h = refl
unique [] (y ∷ ys) a b h = let e = h y in let l = counted_first y ys in absurd (omega arith)
unique (x ∷ xs) [] a b h = let e = h x in let l = counted_first x xs in absurd (omega arith)
unique (x ∷ xs) (y ∷ ys) a b h =
    let p : IsUpTo y x =
    counted (IsUpTo y) x (y ∷ ys) (All-cons (IsUpTo y) y ys (not_before_itself y) (pairs_head IsUpTo y ys b))
    (let e = h x in let l = counted_first x xs in omega arith) in
    let q : IsUpTo x y =
    counted (IsUpTo x) y (x ∷ xs) (All-cons (IsUpTo x) x xs (not_before_itself x) (pairs_head IsUpTo x xs a))
    (let e = h y in let l = counted_first y ys in omega arith) in
    let s : x ≡ y = same_from_order_tests x y q p in
    let t : xs ≡ ys = unique xs ys (pairs_tail IsUpTo x xs a) (pairs_tail IsUpTo y ys b)
    (λ z. rest z (tally z x) (tally z y) (count z xs) (count z ys) (ap (tally z) s) (h z)) in
    ap (λ r. r ∷ xs) s ∙ ap (λ r. y ∷ r) t
  where
    rest : (z : List Sign) (j k m n : ℕ) → j ≡ k → j + m ≡ k + n → m ≡ n
    rest z j k m n e g = omega arith

-- what is sorted

All-placed : (P : List Sign → Type 0) (x : List Sign) (ys : List (List Sign)) → P x → All P ys → All P (placed x ys)
All-placed P x [] p a = All-cons P x [] p (All-nil P)
All-placed P x (y ∷ ys) p a = elim (cases_Bool (is_before y x)) [
  | inl e ↦ rw e (All-cons P y (placed x ys) (All-head P y ys a) (All-placed P x ys p (All-tail P y ys a)))
  | inr n ↦ rw n (All-cons P x (y ∷ ys) p a)
]

pub All-sorted : (P : List Sign → Type 0) (ms : List (List Sign)) → All P ms → All P (sorted ms)
All-sorted P [] a = a
All-sorted P (x ∷ xs) a = All-placed P x (sorted xs) (All-head P x xs a) (All-sorted P xs (All-tail P x xs a))

placed_up : (x : List Sign) (ys : List (List Sign)) → AllPairs IsUpTo ys → AllPairs IsUpTo (placed x ys)
placed_up x [] a = AllPairs-cons IsUpTo x [] (All-nil (IsUpTo x)) a
placed_up x (y ∷ ys) a = elim (cases_Bool (is_before y x)) [
  | inl e ↦
      rw e (AllPairs-cons IsUpTo y (placed x ys)
      (All-placed (IsUpTo y) x ys (order.one_way y x e) (pairs_head IsUpTo y ys a))
      (placed_up x ys (pairs_tail IsUpTo y ys a)))
  | inr n ↦
      rw n (AllPairs-cons IsUpTo x (y ∷ ys)
      (All-cons (IsUpTo x) y ys n (λ k d l. order.chain _ y x (pairs_head IsUpTo y ys a k d l) n)) a)
]

sorted_up : (ms : List (List Sign)) → AllPairs IsUpTo (sorted ms)
sorted_up [] = λ i j d l m. absurd (omega arith)
sorted_up (x ∷ xs) = placed_up x (sorted xs) (sorted_up xs)

count-placed : (z x : List Sign) (ys : List (List Sign)) → count z (placed x ys) ≡ tally z x + count z ys
unfolding count
count-placed z x [] = refl
count-placed z x (y ∷ ys) = elim (cases_Bool (is_before y x)) [
  | inl e ↦ rw e (let i = count-placed z x ys in omega arith)
  | inr n ↦ rw n refl
]

count-sorted : (z : List Sign) (ms : List (List Sign)) → count z (sorted ms) ≡ count z ms
unfolding count
count-sorted z [] = refl
count-sorted z (x ∷ xs) = count-placed z x (sorted xs) ∙ ap (λ k. tally z x + k) (count-sorted z xs)

up_from_sorted : (ys : List (List Sign)) → IsSorted lexicographic ys → AllPairs IsUpTo ys
up_from_sorted ys s i j d l m = sorted_far is_before order ys s i j d (omega arith) m

-- what a sort gives
pub sorted_is : (ms ys : List (List Sign)) → IsPermutation ms ys → IsSorted lexicographic ys → ys ≡ sorted ms
sorted_is ms ys p s = unique ys (sorted ms) (up_from_sorted ys s) (sorted_up ms)
    (λ z. count-permutation z ms ys p ∙ sym (count-sorted z ms))

-- the sorted members are the same ones

placed_permutes : (x : List Sign) (ys : List (List Sign)) → IsPermutation (x ∷ ys) (placed x ys)
placed_permutes x [] = IsPermutation-refl (x ∷ [])
placed_permutes x (y ∷ ys) = elim (cases_Bool (is_before y x)) [
  | inl e ↦
      rw e (IsPermutation-trans (x ∷ y ∷ ys) (y ∷ x ∷ ys) (y ∷ placed x ys) (IsPermutation-middle (x ∷ []) y ys)
      (IsPermutation-cons y (x ∷ ys) (placed x ys) (placed_permutes x ys)))
  | inr n ↦ rw n (IsPermutation-refl (x ∷ y ∷ ys))
]

pub sorted_permutes : (ms : List (List Sign)) → IsPermutation ms (sorted ms)
sorted_permutes [] = IsPermutation-refl []
sorted_permutes (x ∷ xs) = IsPermutation-trans (x ∷ xs) (x ∷ sorted xs) (placed x (sorted xs))
    (IsPermutation-cons x xs (sorted xs) (sorted_permutes xs)) (placed_permutes x (sorted xs))

pub sorted_rises : (ms : List (List Sign)) → IsSorted lexicographic (sorted ms)
sorted_rises ms k d l h = sorted_up ms k (k + 1) d (omega arith) h

length-placed : (x : List Sign) (ys : List (List Sign)) → length (placed x ys) ≡ suc (length ys)
length-placed x [] = refl
length-placed x (y ∷ ys) = elim (cases_Bool (is_before y x)) [
  | inl e ↦ rw e (ap suc (length-placed x ys))
  | inr n ↦ rw n refl
]

pub length-sorted : (ms : List (List Sign)) → length (sorted ms) ≡ length ms
length-sorted [] = refl
length-sorted (x ∷ xs) = length-placed x (sorted xs) ∙ ap suc (length-sorted xs)

-- different members

placed_differ : (x : List Sign) (ys : List (List Sign)) → All (λ y. x ≢ y) ys → AllPairs (λ x y. x ≢ y) ys
    → AllPairs (λ x y. x ≢ y) (placed x ys)
placed_differ x [] a p = AllPairs-cons (λ x y. x ≢ y) x [] a p
placed_differ x (y ∷ ys) a p = elim (cases_Bool (is_before y x)) [
  | inl e ↦
      rw e (AllPairs-cons (λ x y. x ≢ y) y (placed x ys)
      (All-placed (λ z. y ≢ z) x ys (λ q. All-head (λ y. x ≢ y) y ys a (sym q)) (pairs_head (λ x y. x ≢ y) y ys p))
      (placed_differ x ys (All-tail (λ y. x ≢ y) y ys a) (pairs_tail (λ x y. x ≢ y) y ys p)))
  | inr n ↦ rw n (AllPairs-cons (λ x y. x ≢ y) x (y ∷ ys) a p)
]

pub sorted_differ : (ms : List (List Sign)) → AllPairs (λ x y. x ≢ y) ms → AllPairs (λ x y. x ≢ y) (sorted ms)
sorted_differ [] p = p
sorted_differ (x ∷ xs) p = placed_differ x (sorted xs) (All-sorted (λ y. x ≢ y) xs (pairs_head (λ x y. x ≢ y) x xs p))
    (sorted_differ xs (pairs_tail (λ x y. x ≢ y) x xs p))

others_kept : (x : List Sign) (ys : List (List Sign)) → All (λ y. x ≢ y) ys → filter (λ y. not (same_row x y)) ys ≡ ys
others_kept x [] a = refl
others_kept x (y ∷ ys) a = elim (cases_Bool (same_row x y)) [
  | inl e ↦ absurd (All-head (λ y. x ≢ y) y ys a ((same_row-Decides x y).0 e))
  | inr n ↦ rw n (ap (λ r. y ∷ r) (others_kept x ys (All-tail (λ y. x ≢ y) y ys a)))
]

others_differ : (x : List Sign) (ys : List (List Sign)) → All (λ y. x ≢ y) (filter (λ y. not (same_row x y)) ys)
others_differ x [] = All-nil (λ y. x ≢ y)
others_differ x (y ∷ ys) = elim (cases_Bool (same_row x y)) [
  | inl e ↦ rw e (others_differ x ys)
  | inr n ↦ rw n (All-cons (λ y. x ≢ y) y _ (λ q. let t = (same_row-Decides x y).1 q in cc) (others_differ x ys))
]

-- members without repetition differ from one another
pub distinct_differ : (xs : List (List Sign)) → AllPairs (λ x y. x ≢ y) (distinct xs)
distinct_differ [] = λ i j d l m. absurd (omega arith)
distinct_differ (x ∷ xs) = AllPairs-cons (λ x y. x ≢ y) x _ (others_differ x (distinct xs))
    (AllPairs-filter (λ x y. x ≢ y) (λ y. not (same_row x y)) (distinct xs) (distinct_differ xs))

pub distinct_itself : (ms : List (List Sign)) → AllPairs (λ x y. x ≢ y) ms → distinct ms ≡ ms
distinct_itself [] p = refl
distinct_itself (x ∷ xs) p =
    ap (λ r. x ∷ filter (λ y. not (same_row x y)) r) (distinct_itself xs (pairs_tail (λ x y. x ≢ y) x xs p))
    ∙ ap (λ r. x ∷ r) (others_kept x xs (pairs_head (λ x y. x ≢ y) x xs p))

-- different members, each of which is a member of the other list

no_other : (x : List Sign) (ys : List (List Sign)) → All (λ y. x ≢ y) ys → list_any (same_row x) ys ≡ false
no_other x [] a = refl
no_other x (y ∷ ys) a = elim (cases_Bool (same_row x y)) [
  | inl e ↦ absurd (All-head (λ y. x ≢ y) y ys a ((same_row-Decides x y).0 e))
  | inr n ↦ rw n (no_other x ys (All-tail (λ y. x ≢ y) y ys a))
]

-- a member of different members stands there once
count-different : (z : List Sign) (xs : List (List Sign)) → AllPairs (λ x y. x ≢ y) xs
    → count z xs ≡ cond (list_any (same_row z) xs) 1 0
unfolding count tally
count-different z [] p = refl
count-different z (x ∷ xs) p = elim (cases_Bool (same_row z x)) [
  | inl e ↦
      let q : z ≡ x = (same_row-Decides z x).0 e in
      let n : list_any (same_row z) xs ≡ false =
      subst (λ y. list_any (same_row y) xs ≡ false) (sym q) (no_other x xs (pairs_head (λ x y. x ≢ y) x xs p)) in
      let k : count z xs ≡ 0 = count-different z xs (pairs_tail (λ x y. x ≢ y) x xs p) ∙ ap (λ b. cond b 1 0) n in
      rw e (omega arith)
  | inr n ↦ let i = count-different z xs (pairs_tail (λ x y. x ≢ y) x xs p) in rw n (omega arith)
]

-- different members that are the same ones are the same where they are sorted
pub same_sorted : (xs ys : List (List Sign)) → AllPairs (λ x y. x ≢ y) xs → AllPairs (λ x y. x ≢ y) ys
    → ((z : List Sign) → list_any (same_row z) xs ≡ list_any (same_row z) ys) → sorted xs ≡ sorted ys
same_sorted xs ys p q h = unique (sorted xs) (sorted ys) (sorted_up xs) (sorted_up ys)
    (λ z. count-sorted z xs ∙ count-different z xs p ∙ ap (λ b. cond b 1 0) (h z) ∙ sym (count-different z ys q)
    ∙ sym (count-sorted z ys))

pub same_members : (xs ys : List (List Sign)) → AllPairs (λ x y. x ≢ y) xs → AllPairs (λ x y. x ≢ y) ys
    → ((z : List Sign) → list_any (same_row z) xs ≡ list_any (same_row z) ys) → IsPermutation xs ys
same_members xs ys p q h = IsPermutation-trans xs (sorted xs) ys (sorted_permutes xs)
    (subst (λ zs. IsPermutation zs ys) (sym (same_sorted xs ys p q h))
    (IsPermutation-sym ys (sorted ys) (sorted_permutes ys)))
