-- Tuples of elements, and the map that is zero off the tuples of its size.
--
-- Main results: a list is a tuple or not, as its test says (is_tuple_cases); on_tuples is the value on tuples
-- (on_tuples_at), nonzero only there (on_tuples_tuple), and alternates (on_tuples_alternating); a tuple with an element
-- left out or added (tuple_without, tuple_with).
use Rattle.std.proofs.lemmas.Bool.{cases_eq, cases_lt, lt-ltb, le-ltb, eq-eqb, ne_eqb}
use Rattle.std.proofs.lemmas.List.{length-append}
use Rattle.std.proofs.Common.{ℕ, suc, List, true, false, refl, arith, inl, inr, sym, ap, subst, length, ◌≡◌, ◌⊎◌, ◌∷◌}
use Rattle.std.proofs.Common.{◌++◌, ◌-◌, [], ◌∙◌}
use Rattle.om_signs.specs.declared.sign.Sign.{Sign}
use Rattle.om_signs.specs.declared.sign.Sign.TheVariants.{Zero}
use Rattle.om_signs.specs.Sign.{opposite}
use Rattle.om_laws.specs.Members.{IsMember}
use Rattle.om_laws.specs.Tuples.{IsAlternating, value}
use Rattle.om_laws.specs.Sorting.{IsElement, Each, IsTuple, is_element, are_elements, is_tuple, on_tuples}
use Rattle.om_laws.specs.Signs.{IsNonzero}
use Rattle.om_laws.proofs.TupleLaws.{value_alternating}

-- if each entry of a list has a property, so has each member
pub each_member : (P : ℕ → Type 0) (xs : List ℕ) → Each P xs → (e : ℕ) → IsMember e xs → P e
each_member P [] a e m = absurd m
each_member P (x ∷ xs) a e (inl q) = subst P (sym q) a.0
each_member P (x ∷ xs) a e (inr m) = each_member P xs a.1 e m

-- three elements of 1 to n are a tuple of three
pub triple_is_tuple : (n a b c : ℕ) → IsElement n a → IsElement n b → IsElement n c → IsTuple n 3 (a ∷ b ∷ c ∷ [])
triple_is_tuple n a b c ha hb hc = record { size = refl; within = (ha, (hb, (hc, tt))) }

is_element_cases : (n e : ℕ) → (IsElement n e × (is_element n e ≡ true))
    ⊎ ((IsElement n e → ⊥) × (is_element n e ≡ false))
is_element_cases n e = elim (cases_lt 0 e) [
  | inl lt ↦ elim (cases_lt e (suc n)) [
    | inl l2 ↦ inl ((omega arith, omega arith), rw (lt-ltb 0 e lt, lt-ltb e (suc n) l2) refl)
    | inr g2 ↦ inr ((λ h. let k = h.1 in omega (arith, k, g2)), rw (lt-ltb 0 e lt, le-ltb e (suc n) g2) refl)
  ]
  | inr ge ↦ inr ((λ h. let k = h.0 in omega (arith, k, ge)), rw (le-ltb 0 e ge) refl)
]

-- a number is an element of 1 to n or not
pub element_or_not : (n e : ℕ) → IsElement n e ⊎ (IsElement n e → ⊥)
element_or_not n e = elim (is_element_cases n e) [ inl a ↦ inl a.0 | inr a ↦ inr a.0 ]

are_elements_cases : (n : ℕ) (xs : List ℕ) → (Each (IsElement n) xs × (are_elements n xs ≡ true))
    ⊎ ((Each (IsElement n) xs → ⊥) × (are_elements n xs ≡ false))
are_elements_cases n [] = inl (tt, refl)
are_elements_cases n (x ∷ xs) = elim (is_element_cases n x) [
  | inl a ↦ elim (are_elements_cases n xs) [
    | inl b ↦ inl ((a.0, b.0), rw a.1 b.1)
    | inr b ↦ inr ((λ h. b.0 h.1), rw a.1 b.1)
  ]
  | inr a ↦ inr ((λ h. a.0 h.0), rw a.1 refl)
]

-- a list is a tuple of k of the elements 1 to n or not, as the test says
pub is_tuple_cases : (n k : ℕ) (xs : List ℕ) → (IsTuple n k xs × (is_tuple n k xs ≡ true))
    ⊎ ((IsTuple n k xs → ⊥) × (is_tuple n k xs ≡ false))
is_tuple_cases n k xs = elim (cases_eq (length xs) k) [
  | inl q ↦ elim (are_elements_cases n xs) [
    | inl b ↦ inl (record { size = q; within = b.0 }, rw (eq-eqb (length xs) k q) b.1)
    | inr b ↦ inr ((λ h. b.0 h.within), rw (eq-eqb (length xs) k q) b.1)
  ]
  | inr ne ↦ inr ((λ h. ne h.size), rw (ne_eqb (length xs) k ne) refl)
]

-- on a tuple of r of the elements 1 to n, the map of rank r has the value of the given map
pub on_tuples_at : (n r : ℕ) (f : List ℕ → Sign) (xs : List ℕ) → IsTuple n r xs → on_tuples n r f xs ≡ value f xs
on_tuples_at n r f xs h = elim (is_tuple_cases n r xs) [
  | inl a ↦ rw a.1 refl
  | inr a ↦ absurd (a.0 h)
]

-- the map of rank r is zero off the tuples of r of the elements 1 to n
pub on_tuples_off : (n r : ℕ) (f : List ℕ → Sign) (xs : List ℕ) → (IsTuple n r xs → ⊥) → on_tuples n r f xs ≡ Zero
on_tuples_off n r f xs h = elim (is_tuple_cases n r xs) [
  | inl a ↦ absurd (h a.0)
  | inr a ↦ rw a.1 refl
]

-- a list at which the map of rank r isn't zero is a tuple of r of the elements 1 to n
pub on_tuples_tuple : (n r : ℕ) (f : List ℕ → Sign) (xs : List ℕ) → IsNonzero (on_tuples n r f xs) → IsTuple n r xs
on_tuples_tuple n r f xs h = elim (is_tuple_cases n r xs) [
  | inl a ↦ a.0
  | inr a ↦ absurd (h (rw a.1 refl))
]

-- two neighbours change places
pub length_swap : (u : List ℕ) (x y : ℕ) (v : List ℕ) → length (u ++ x ∷ y ∷ v) ≡ length (u ++ y ∷ x ∷ v)
length_swap [] x y v = refl
length_swap (c ∷ u) x y v = ap suc (length_swap u x y v)

-- a tuple in which two neighbours change places is still one
pub swap_tuple : (n k x y : ℕ) (cs bs : List ℕ) → IsTuple n k (cs ++ y ∷ x ∷ bs) → IsTuple n k (cs ++ x ∷ y ∷ bs)
swap_tuple n k x y cs bs h = record { size = length_swap cs x y bs ∙ h.size; within = swap_all cs h.within }
  where
    swap_all : (cs : List ℕ) → Each (IsElement n) (cs ++ y ∷ x ∷ bs) → Each (IsElement n) (cs ++ x ∷ y ∷ bs)
    swap_all [] (a, (b, r)) = (b, (a, r))
    swap_all (c ∷ cs) (a, r) = (a, swap_all cs r)

-- the map of rank r on the elements 1 to n alternates
pub on_tuples_alternating : (n r : ℕ) (f : List ℕ → Sign) → IsAlternating (on_tuples n r f)
on_tuples_alternating n r f x y cs bs = elim (is_tuple_cases n r (cs ++ y ∷ x ∷ bs)) [
  | inl a ↦ on_tuples_at n r f (cs ++ y ∷ x ∷ bs) a.0 ∙ value_alternating f x y cs bs
      ∙ ap opposite (sym (on_tuples_at n r f (cs ++ x ∷ y ∷ bs) (swap_tuple n r x y cs bs a.0)))
  | inr a ↦ on_tuples_off n r f (cs ++ y ∷ x ∷ bs) a.0
      ∙ ap opposite (sym (on_tuples_off n r f (cs ++ x ∷ y ∷ bs) (λ t. a.0 (swap_tuple n r y x cs bs t))))
]

each_append : (P : ℕ → Type 0) (xs ys : List ℕ) → Each P (xs ++ ys) → Each P xs × Each P ys
each_append P [] ys a = (tt, a)
each_append P (x ∷ xs) ys a = let k = each_append P xs ys a.1 in ((a.0, k.0), k.1)

each_join : (P : ℕ → Type 0) (xs ys : List ℕ) → Each P xs → Each P ys → Each P (xs ++ ys)
each_join P [] ys a b = b
each_join P (x ∷ xs) ys a b = (a.0, each_join P xs ys a.1 b)

-- a tuple of k + 1 elements with one left out is a tuple of k
pub tuple_without : (n k : ℕ) (cs bs : List ℕ) (x : ℕ) → IsTuple n (suc k) (cs ++ x ∷ bs) → IsTuple n k (cs ++ bs)
tuple_without n k cs bs x t =
    let a = each_append (IsElement n) cs (x ∷ bs) t.within in
    let q = t.size in
    record {
      size = (let p = length-append cs (x ∷ bs) in let r = length-append cs bs in
          let l : length (x ∷ bs) ≡ suc (length bs) = refl in omega (arith, q, p, r, l));
      within = each_join (IsElement n) cs bs a.0 a.1.1;
    }

-- a tuple of k elements with one of 1 to n put in is a tuple of k + 1
pub tuple_with : (n k : ℕ) (cs bs : List ℕ) (x : ℕ) → IsTuple n k (cs ++ bs) → IsElement n x
    → IsTuple n (suc k) (cs ++ x ∷ bs)
tuple_with n k cs bs x t i =
    let a = each_append (IsElement n) cs bs t.within in
    let q = t.size in
    record {
      size = (let p = length-append cs (x ∷ bs) in let r = length-append cs bs in
          let l : length (x ∷ bs) ≡ suc (length bs) = refl in omega (arith, q, p, r, l));
      within = each_join (IsElement n) cs (x ∷ bs) a.0 (i, a.1);
    }

-- a tuple of r elements is a tuple of r - 1, followed by an element
pub tuple_last : (n r : ℕ) (a : List ℕ) (x : ℕ) → IsTuple n r (a ++ x ∷ []) → IsTuple n (r - 1) a × IsElement n x
tuple_last n r a x t =
    let e = each_append (IsElement n) a (x ∷ []) t.within in
    let q = t.size in (
      record {
        size = (let p = length-append a (x ∷ []) in let l : length (x ∷ []) ≡ 1 = refl in omega (arith, q, p, l));
        within = e.0;
      },
      e.1.0,
    )

-- a tuple with a last element isn't empty, so its size r is one more than r - 1
pub tuple_rank : (n r : ℕ) (a : List ℕ) (x : ℕ) → IsTuple n r (a ++ x ∷ []) → r ≡ suc (r - 1)
tuple_rank n r a x t = let q = t.size in let p = length-append a (x ∷ []) in let l : length (x ∷ []) ≡ 1 = refl in
    omega (arith, q, p, l)

-- if each member of a list has a property, so has each entry
pub each_from : (P : ℕ → Type 0) (xs : List ℕ) → ((e : ℕ) → IsMember e xs → P e) → Each P xs
each_from P [] h = tt
each_from P (x ∷ xs) h = (h x (inl refl), each_from P xs (λ e m. h e (inr m)))
