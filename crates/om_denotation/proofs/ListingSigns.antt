-- The complement of a set, and the sign of the permutation that lists a set and then the elements off it.
--
-- Main results: complement_is, the set of the elements off another; sort_append, the sign of two lists one after the
-- other; listing_more, one more element of the whole set.
use Rattle.std.specs.Prelude.{ℕ, ◌≡◌, ◌≢◌, ◌+◌, ◌-◌, ◌%◌, ◌≤◌, ◌↔◌, List, [], ◌∷◌, ◌++◌, refl}
use Rattle.std.specs.List.{range_with_len}
use Rattle.std.proofs.Common.{zero, suc, sym, ◌∙◌, ap, inl, inr, arith, append-nil}
use Rattle.std.proofs.lemmas.Bool.{eq-eqb, ne_eqb}
use Rattle.om_signs.specs.declared.sign.Sign.{Sign}
use Rattle.om_signs.specs.declared.sign.Sign.TheVariants.{Minus, Plus}
use Rattle.om_signs.specs.Sign.{product}
use Rattle.om_signs.proofs.SignLaws.{product-plus, product_assoc, product_middle_exchange}
use Rattle.om_subsets.specs.Members.{members}
use Rattle.om_subsets.specs.Subsets.{IsSubsetFrom, IsMember, count_above}
use Rattle.om_subsets.proofs.Firsts.{same_members}
use Rattle.om_subsets.proofs.OneElement.{later_list}
use Rattle.om_laws.specs.Chirotope.{elements_to}
use Rattle.om_laws.specs.Dual.{complement}
use Rattle.om_laws.specs.Sorting.{IsIncreasing}
use Rattle.om_laws.specs.Tuples.{sort_sign, before_sign, order_sign}
use Rattle.om_laws.proofs.Complements.{is_member_cases, complement_is_complement}
use Rattle.om_laws.proofs.DualSizes.{complement_increasing, range_increasing}
use Rattle.om_laws.proofs.SortingLaws.{value_increasing}
use Rattle.om_laws.proofs.ChirotopeLaws.{elements_distinct, member_from_element, element_from_member}
use Rattle.om_chirotope.specs.Map.{parity_sign}
use Rattle.om_chirotope.proofs.Cocircuits.{sign_end}
use Rattle.om_denotation.proofs.ChirotopeBridge.{increasing_subset}

-- ---- the complement of a set

complement_subset : (low m : ℕ) (xs : List ℕ) → IsSubsetFrom low m (complement (range_with_len low m) xs)
complement_subset low zero xs = tt
complement_subset low (suc m) xs = elim (is_member_cases low xs) [
  | inl k ↦ rw k.1 (later_list low m (complement (range_with_len (low + 1) m) xs) (complement_subset (low + 1) m xs))
  | inr k ↦ rw k.1 (inl (refl, complement_subset (low + 1) m xs))
]

-- a set with the elements off another
pub complement_is : (n : ℕ) (xs ys : List ℕ) → IsSubsetFrom 1 n ys
    → ((e : ℕ) → IsMember e ys ↔ ((1 ≤ e) × (e ≤ n) × (IsMember e xs → ⊥))) → ys ≡ complement (elements_to n) xs
complement_is n xs ys h members =
    let c = complement_is_complement (elements_to n) xs (elements_distinct n) in
    same_members 1 n ys (complement (elements_to n) xs) h (complement_subset 1 n xs)
    (λ e q. let k = (members e).0 q in c.all e (member_from_element n e (k.0, k.1)) k.2)
    (λ e q. let b = element_from_member n e (c.among e q) in (members e).1 (b.0, b.1, c.apart e q))

-- ---- the sign of two lists one after the other

-- the product of the order signs of all pairs of one and the other
abbrev pub across : List ℕ → List ℕ → Sign
across [] ys = Plus
across (x ∷ xs) ys = product (before_sign x ys) (across xs ys)

before_append : (x : ℕ) (ys zs : List ℕ) → before_sign x (ys ++ zs) ≡ product (before_sign x ys) (before_sign x zs)
before_append x [] zs = refl
before_append x (y ∷ ys) zs = ap (product (order_sign x y)) (before_append x ys zs)
    ∙ sym (product_assoc (order_sign x y) (before_sign x ys) (before_sign x zs))

pub across_append : (xs ys zs : List ℕ) → across xs (ys ++ zs) ≡ product (across xs ys) (across xs zs)
across_append [] ys zs = refl
across_append (x ∷ xs) ys zs =
    ap (product (before_sign x (ys ++ zs))) (across_append xs ys zs)
    ∙ ap (λ s. product s (product (across xs ys) (across xs zs))) (before_append x ys zs)
    ∙ product_middle_exchange (before_sign x ys) (before_sign x zs) (across xs ys) (across xs zs)

pub sort_append : (xs ys : List ℕ)
    → sort_sign (xs ++ ys) ≡ product (product (sort_sign xs) (sort_sign ys)) (across xs ys)
sort_append [] ys = sym (product-plus (sort_sign ys))
sort_append (x ∷ xs) ys =
    ap (product (before_sign x (xs ++ ys))) (sort_append xs ys)
    ∙ ap (λ s. product s (product (product (sort_sign xs) (sort_sign ys)) (across xs ys))) (before_append x xs ys)
    ∙ lemma (before_sign x xs) (before_sign x ys) (sort_sign xs) (sort_sign ys) (across xs ys)
  where
    lemma : (a b c d e : Sign) → product (product a b) (product (product c d) e)
        ≡ product (product (product a c) d) (product b e)
    lemma a b c d e = grind arith

pub sort_increasing : (xs : List ℕ) → IsIncreasing xs → sort_sign xs ≡ Plus
sort_increasing xs i = sym (product-plus (sort_sign xs)) ∙ value_increasing (λ t. Plus) xs i

sort_two : (xs ys : List ℕ) → IsIncreasing xs → IsIncreasing ys → sort_sign (xs ++ ys) ≡ across xs ys
sort_two xs ys i j = sort_append xs ys
    ∙ ap (λ s. product (product s (sort_sign ys)) (across xs ys)) (sort_increasing xs i)
    ∙ ap (λ s. product s (across xs ys)) (sort_increasing ys j)

complement_append : (E F a : List ℕ) → complement (E ++ F) a ≡ complement E a ++ complement F a
complement_append [] F a = refl
complement_append (e ∷ E) F a = elim (is_member_cases e a) [
  | inl k ↦ rw k.1 (complement_append E F a)
  | inr k ↦ rw k.1 (ap (λ l. e ∷ l) (complement_append E F a))
]

range_last : (low k : ℕ) → range_with_len low (suc k) ≡ range_with_len low k ++ (low + k) ∷ []
range_last low zero = let e : low ≡ low + 0 = omega arith in ap (λ x. x ∷ []) e
range_last low (suc k) =
    ap (λ l. low ∷ l)
    (range_last (low + 1) k
    ∙ (let e : low + 1 + k ≡ low + suc k = omega arith in ap (λ x. range_with_len (low + 1) k ++ x ∷ []) e))

-- one more element of the whole set: if it is off the list it is moved over the greater ones of the list
pub listing_more : (a : List ℕ) (k : ℕ) → IsIncreasing a
    → sort_sign (a ++ complement (range_with_len 1 (suc k)) a)
    ≡ product (sort_sign (a ++ complement (range_with_len 1 k) a)) (sort_sign (a ++ complement ((1 + k) ∷ []) a))
listing_more a k i =
    let front = sort_two a (complement (range_with_len 1 k) a) i
    (complement_increasing (range_with_len 1 k) a (range_increasing 1 k)) in
    let last = sort_two a (complement ((1 + k) ∷ []) a) i (complement_increasing ((1 + k) ∷ []) a tt) in
    sort_two a (complement (range_with_len 1 (suc k)) a) i
    (complement_increasing (range_with_len 1 (suc k)) a (range_increasing 1 (suc k)))
    ∙ ap (λ E. across a (complement E a)) (range_last 1 k)
    ∙ ap (across a) (complement_append (range_with_len 1 k) ((1 + k) ∷ []) a)
    ∙ across_append a (complement (range_with_len 1 k) a) (complement ((1 + k) ∷ []) a)
    ∙ sym (ap (λ s. product s (sort_sign (a ++ complement ((1 + k) ∷ []) a))) front
    ∙ ap (product (across a (complement (range_with_len 1 k) a))) last)

pub listing_none : (a : List ℕ) → IsIncreasing a → sort_sign (a ++ []) ≡ Plus
listing_none a i = ap sort_sign (append-nil a) ∙ sort_increasing a i

pub listing_inside : (e : ℕ) (a : List ℕ) → IsIncreasing a → IsMember e a
    → sort_sign (a ++ complement (e ∷ []) a) ≡ Plus
listing_inside e a i h = elim (is_member_cases e a) [
  | inl k ↦ rw k.1 (listing_none a i)
  | inr k ↦ absurd (k.0 h)
]

pub listing_outside : (n e : ℕ) (a : List ℕ) → IsSubsetFrom 1 n a → (IsMember e a → ⊥)
    → sort_sign (a ++ complement (e ∷ []) a) ≡ parity_sign (count_above e a)
listing_outside n e a h off = elim (is_member_cases e a) [
  | inl k ↦ absurd (off k.0)
  | inr k ↦ rw k.1 (sign_end 1 n e a h off)
]

-- ---- what the calls say

-- (-1)^k is plus if k is even
pub even_parity : (k : ℕ) → (k % 2 ≡ 1 → ⊥) → parity_sign k ≡ Plus
even_parity k n = let e : k % 2 ≡ 0 = omega arith in rw (eq-eqb (k % 2) 0 e) refl

-- (-1)^k is minus if k is odd
pub odd_parity : (k : ℕ) → k % 2 ≡ 1 → parity_sign k ≡ Minus
odd_parity k o = let n : k % 2 ≢ 0 = omega arith in rw (ne_eqb (k % 2) 0 n) refl

pub moving_inside : (n e : ℕ) (a : List ℕ) → IsSubsetFrom 1 n a → IsMember e a
    → Plus ≡ sort_sign (a ++ complement (e ∷ []) a)
moving_inside n e a h m = sym (listing_inside e a (increasing_subset n a h) m)

pub moving_even : (n e : ℕ) (a : List ℕ) → IsSubsetFrom 1 n a → (IsMember e a → ⊥) → (count_above e a % 2 ≡ 1 → ⊥)
    → Plus ≡ sort_sign (a ++ complement (e ∷ []) a)
moving_even n e a h off even = sym (listing_outside n e a h off ∙ even_parity (count_above e a) even)

pub moving_odd : (n e : ℕ) (a : List ℕ) → IsSubsetFrom 1 n a → (IsMember e a → ⊥) → count_above e a % 2 ≡ 1
    → Minus ≡ sort_sign (a ++ complement (e ∷ []) a)
moving_odd n e a h off odd = sym (listing_outside n e a h off ∙ odd_parity (count_above e a) odd)

-- one turn of the loop
pub listing_turn : (n e : ℕ) (a : List ℕ) (sign s t : Sign) → 1 ≤ e → IsSubsetFrom 1 n a
    → sign ≡ sort_sign (a ++ complement (range_with_len 1 (e - 1)) a) → s ≡ sort_sign (a ++ complement (e ∷ []) a)
    → t ≡ product sign s → t ≡ sort_sign (a ++ complement (range_with_len 1 (e + 1 - 1)) a)
listing_turn n e a sign s t l h p q r =
    let up : e + 1 - 1 ≡ suc (e - 1) = omega arith in
    let here : 1 + (e - 1) ≡ e = omega arith in
    r ∙ ap (λ x. product x s) p ∙ ap (product (sort_sign (a ++ complement (range_with_len 1 (e - 1)) a))) q
    ∙ sym (ap (λ k. sort_sign (a ++ complement (range_with_len 1 k) a)) up
    ∙ listing_more a (e - 1) (increasing_subset n a h)
    ∙ ap (λ x. product (sort_sign (a ++ complement (range_with_len 1 (e - 1)) a))
    (sort_sign (a ++ complement (x ∷ []) a))) here)

pub listing_end : (n e : ℕ) (a : List ℕ) (sign : Sign) → e ≡ n + 1
    → sign ≡ sort_sign (a ++ complement (range_with_len 1 (e - 1)) a)
    → sign ≡ sort_sign (a ++ complement (elements_to n) a)
listing_end n e a sign q p = let k : e - 1 ≡ n = omega arith in p
    ∙ ap (λ j. sort_sign (a ++ complement (range_with_len 1 j) a)) k
