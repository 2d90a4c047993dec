-- The sign of a vector U at one element, from the set with it.
--
-- Main results: sorted_end, insert_with, sign_end, sign_member, along_member, along_even, along_odd, length-with,
-- with_lawful
use Rattle.std.specs.Prelude.{ℕ, ◌≡◌, ◌≢◌, ◌+◌, ◌%◌, ◌<◌, ◌≤◌, List, [], ◌∷◌, ◌++◌, length, cond, nat_lt, refl, Bool}
use Rattle.std.specs.Prelude.{true, false}
use Rattle.std.proofs.Common.{zero, suc, sym, ◌∙◌, ap, arith, inl, inr, subst}
use Rattle.std.proofs.lemmas.Bool.{cases_order, ne_eqb, lt-ltb, le-ltb}
use Rattle.om_signs.specs.declared.sign.Sign.{Sign}
use Rattle.om_signs.specs.declared.sign.Sign.TheVariants.{Zero}
use Rattle.om_signs.specs.Sign.{opposite}
use Rattle.om_signs.proofs.SignLaws.{product-plus, product-zero}
use Rattle.om_subsets.specs.Subsets.{IsSubsetFrom, IsMember, with_element, count_above}
use Rattle.om_subsets.specs.Members.{Chosen}
use Rattle.om_laws.specs.Tuples.{value, sorted, insert, sort_sign, before_sign, order_sign}
use Rattle.om_laws.specs.Relations.{along}
use Rattle.om_laws.proofs.TupleLaws.{insert_comm}
use Rattle.om_chirotope.specs.Map.{parity_sign}
use Rattle.om_chirotope.proofs.Circuits.{parity_sign-suc}
use Rattle.om_chirotope.proofs.InOrder.{value_in_order}

-- a number below all of a set is put at its front, and before them all in order
insert_below : (low m x : ℕ) (xs : List ℕ) → IsSubsetFrom low m xs → x < low → insert x xs ≡ x ∷ xs
insert_below low m x [] h l = refl
insert_below low zero x (y ∷ ys) h l = absurd h
insert_below low (suc m) x (y ∷ ys) (inl (q, h)) l = let lt : x < y = omega arith in rw (lt-ltb x y lt) refl
insert_below low (suc m) x (y ∷ ys) (inr (q, h)) l = insert_below (low + 1) m x (y ∷ ys) h (omega arith)

before_below : (low m x e : ℕ) (xs : List ℕ) → IsSubsetFrom low m xs → x < low
    → before_sign x (xs ++ e ∷ []) ≡ order_sign x e
before_below low m x e [] h l = product-plus (order_sign x e)
before_below low zero x e (y ∷ ys) h l = absurd h
before_below low (suc m) x e (y ∷ ys) (inl (q, h)) l =
    let lt : x < y = omega arith in
    rw (lt-ltb x y lt) (before_below (low + 1) m x e ys h (omega arith))
before_below low (suc m) x e (y ∷ ys) (inr (q, h)) l = before_below (low + 1) m x e (y ∷ ys) h (omega arith)

-- an increasing list with a new element at its end is sorted by inserting this element
pub sorted_end : (low m e : ℕ) (xs : List ℕ) → IsSubsetFrom low m xs → (IsMember e xs → ⊥)
    → sorted (xs ++ e ∷ []) ≡ insert e xs
sorted_end low m e [] h n = refl
sorted_end low zero e (x ∷ xs) h n = absurd h
sorted_end low (suc m) e (x ∷ xs) (inl (q, h)) n =
    let i = sorted_end (low + 1) m e xs h (λ k. n (inr k)) in
    let ne : x ≢ e = (λ r. n (inl (sym r))) in
    let b = insert_below (low + 1) m x xs h (omega arith) in
    ap (insert x) i ∙ insert_comm x e xs ne ∙ ap (insert e) b
sorted_end low (suc m) e (x ∷ xs) (inr (q, h)) n = sorted_end (low + 1) m e (x ∷ xs) h n

-- to insert an element that doesn't occur is to add it to the set
pub insert_with : (e : ℕ) (xs : List ℕ) → (IsMember e xs → ⊥) → insert e xs ≡ with_element e xs
insert_with e [] n = refl
insert_with e (x ∷ xs) n =
    let ne : e ≢ x = (λ r. n (inl r)) in
    rw (ne_eqb e x ne, insert_with e xs (λ k. n (inr k))) refl

-- if e is put behind an increasing list without it, the sign of sorting is -1 to the number of elements above e
pub sign_end : (low m e : ℕ) (xs : List ℕ) → IsSubsetFrom low m xs → (IsMember e xs → ⊥)
    → sort_sign (xs ++ e ∷ []) ≡ parity_sign (count_above e xs)
sign_end low m e [] h n = refl
sign_end low zero e (x ∷ xs) h n = absurd h
sign_end low (suc m) e (x ∷ xs) (inl (q, h)) n =
    let i = sign_end (low + 1) m e xs h (λ k. n (inr k)) in
    let b = before_below (low + 1) m x e xs h (omega arith) in
    rw (b, i) (elim (cases_order x e) [
      | inl r ↦ absurd (n (inl (sym r)))
      | inr o ↦ elim o [
        | inl lt ↦ let ge : x ≤ e = omega arith in let z : 0 + count_above e xs ≡ count_above e xs = omega arith in
            rw (lt-ltb x e lt, le-ltb e x ge, z) refl
        | inr gt ↦ let ge : e ≤ x = omega arith in let z : 1 + count_above e xs ≡ suc (count_above e xs) =
            omega arith in rw (le-ltb x e ge, lt-ltb e x gt, z, parity_sign-suc (count_above e xs)) refl
      ]
    ])
sign_end low (suc m) e (x ∷ xs) (inr (q, h)) n = sign_end (low + 1) m e (x ∷ xs) h n

pub sign_member : (low m e : ℕ) (xs : List ℕ) → IsSubsetFrom low m xs → IsMember e xs → sort_sign (xs ++ e ∷ []) ≡ Zero
sign_member low m e [] h k = absurd k
sign_member low zero e (x ∷ xs) h k = absurd h
sign_member low (suc m) e (x ∷ xs) (inl (q, h)) (inl r) =
    let b = before_below (low + 1) m x e xs h (omega arith) in
    let ge : x ≤ e = omega arith in
    let le : e ≤ x = omega arith in
    rw (b, le-ltb x e le, le-ltb e x ge) refl
sign_member low (suc m) e (x ∷ xs) (inl (q, h)) (inr k) =
    let i = sign_member (low + 1) m e xs h k in
    rw i (product-zero (before_sign x (xs ++ e ∷ [])))
sign_member low (suc m) e (x ∷ xs) (inr (q, h)) k = sign_member (low + 1) m e (x ∷ xs) h k

pub along_member : (low m e : ℕ) (f : List ℕ → Sign) (xs : List ℕ) → IsSubsetFrom low m xs → IsMember e xs
    → along (value f) xs e ≡ Zero
along_member low m e f xs h k = rw (sign_member low m e xs h k) refl

-- if e is off A and below an even number of its elements, the set with e has the value of A followed by e
pub along_even : (low m e : ℕ) (f : List ℕ → Sign) (xs : List ℕ) → IsSubsetFrom low m xs
    → IsSubsetFrom low m (with_element e xs) → (IsMember e xs → ⊥) → (count_above e xs % 2 ≡ 1 → ⊥)
    → value f (with_element e xs) ≡ along (value f) xs e
along_even low m e f xs h w n p =
    let even : count_above e xs % 2 ≡ 0 = omega arith in
    value_in_order low m f (with_element e xs) w
    ∙ rw (sign_end low m e xs h n, sorted_end low m e xs h n, insert_with e xs n, even) refl

-- if e is off A and below an odd number of its elements, A followed by e has the opposite value of the set with e
pub along_odd : (low m e : ℕ) (f : List ℕ → Sign) (xs : List ℕ) → IsSubsetFrom low m xs
    → IsSubsetFrom low m (with_element e xs) → (IsMember e xs → ⊥) → count_above e xs % 2 ≡ 1
    → opposite (value f (with_element e xs)) ≡ along (value f) xs e
along_odd low m e f xs h w n p =
    ap opposite (value_in_order low m f (with_element e xs) w)
    ∙ rw (sign_end low m e xs h n, sorted_end low m e xs h n, insert_with e xs n, p) refl

-- a set is one longer with an element that it doesn't have
pub length-with : (e : ℕ) (xs : List ℕ) → (IsMember e xs → ⊥) → length (with_element e xs) ≡ length xs + 1
length-with e [] n = refl
length-with e (x ∷ xs) n =
    let ne : e ≢ x = (λ r. n (inl r)) in
    rw (ne_eqb e x ne) (step (nat_lt e x) (length-with e xs (λ k. n (inr k))))
  where
    step : (b : Bool) → length (with_element e xs) ≡ length xs + 1
        → length (cond b (e ∷ x ∷ xs) (x ∷ with_element e xs)) ≡ suc (length xs) + 1
    step true i = omega arith
    step false i = omega arith

-- if the elements of a chosen set increase, a list that equals them does
pub with_lawful : (n : ℕ) (v : Chosen) (xs : List ℕ) → v.n ≡ n → v.elements ≡ xs → IsSubsetFrom 1 v.n v.elements
    → IsSubsetFrom 1 n xs
with_lawful n v xs en es h = subst (IsSubsetFrom 1 n) es (subst (λ k. IsSubsetFrom 1 k v.elements) en h)
