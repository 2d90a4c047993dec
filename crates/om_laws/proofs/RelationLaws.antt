-- The relations of a chirotope.
--
-- Main results: the relations of increasing lists give those of all lists (relations_by_sorting); a relation depends
-- only on the products (IsBalanced_same, IsBalanced_zero); at the i-th element of a list without repeats `around` is
-- the value of the others, negated i times (around_at), so nonzero where that value is (around_at_nonzero,
-- nonzero_from_around), and it is zero off the list (around_zero); a relation is the orthogonality of the two vectors
-- (orthogonal_from_balanced, balanced_from_orthogonal).
-- Reference: Björner, Las Vergnas, Sturmfels, White and Ziegler, Oriented Matroids, chapter 3.
use Rattle.std.proofs.lemmas.Bool.{cases_eq, eq-eqb, ne_eqb}
use Rattle.std.proofs.Common.{ℕ, suc, List, refl, arith, inl, inr, sym, ap, subst, append_assoc, append-nil, length}
use Rattle.std.proofs.Common.{◌≡◌, ◌≢◌, ◌∷◌, ◌++◌, [], ◌∙◌}
use Rattle.om_signs.specs.declared.sign.Sign.{Sign}
use Rattle.om_signs.specs.declared.sign.Sign.TheVariants.{Minus, Zero, Plus}
use Rattle.om_signs.specs.Sign.{opposite, product}
use Rattle.om_signs.proofs.SignLaws.{plus_nonzero, minus_nonzero, opposite_nonzero, left_nonzero, opposite-opposite}
use Rattle.om_signs.proofs.SignLaws.{product_turned_in, product_turned_out, product_zero_left, product_zero_right}
use Rattle.om_laws.specs.Vectors.{SignVector, HasProduct, Orthogonal}
use Rattle.om_laws.specs.Members.{IsMember, IsDistinct}
use Rattle.om_laws.specs.Tuples.{IsAlternating}
use Rattle.om_laws.specs.Sorting.{IsIncreasing}
use Rattle.om_laws.specs.Signs.{IsNonzero, negated_times}
use Rattle.om_laws.specs.Relations.{around, along, HasTerm, IsBalanced, HasRelations}
use Rattle.om_laws.proofs.MemberLaws.{member_middle, member_or_not}
use Rattle.om_laws.proofs.TupleLaws.{neighbours_zero}
use Rattle.om_laws.proofs.SortingLaws.{by_sorting}
use Rattle.om_laws.proofs.NegatedTimes.{negated_times_nonzero, nonzero_from_negated_times}

turned_product : (a b c s : Sign) → a ≡ opposite b → product a c ≡ opposite s → product b c ≡ opposite (opposite s)
turned_product a b c s e p = grind arith

HasTerm_opposite : (chi psi : List ℕ → Sign) (xs : List ℕ) (u : ℕ → Sign) (s : Sign)
    → ((t : List ℕ) → psi t ≡ opposite (chi t)) → HasTerm psi xs u s → HasTerm chi xs u (opposite s)
HasTerm_opposite chi psi [] u s n h = h
HasTerm_opposite chi psi (x ∷ xs) u s n (inl p) = inl (turned_product (psi xs) (chi xs) (u x) s (n xs) p)
HasTerm_opposite chi psi (x ∷ xs) u s n (inr h) =
    inr (HasTerm_opposite (λ t. chi (x ∷ t)) (λ t. psi (x ∷ t)) xs u (opposite s) (λ t. n (x ∷ t)) h)

HasTerm_swap : (chi : List ℕ → Sign) (x y : ℕ) (cs bs : List ℕ) (u : ℕ → Sign) (s : Sign) → IsAlternating chi
    → HasTerm chi (cs ++ y ∷ x ∷ bs) u s → HasTerm chi (cs ++ x ∷ y ∷ bs) u (opposite s)
HasTerm_swap chi x y [] bs u s alt (inl p) = inr (inl (ap (λ k. k) p ∙ sym (opposite-opposite (opposite s))))
HasTerm_swap chi x y [] bs u s alt (inr (inl p)) = inl p
HasTerm_swap chi x y [] bs u s alt (inr (inr h)) =
    inr (inr (HasTerm_opposite (λ t. chi (x ∷ y ∷ t)) (λ t. chi (y ∷ x ∷ t)) bs u (opposite (opposite s))
    (λ t. alt x y [] t) h))
HasTerm_swap chi x y (c ∷ cs) bs u s alt (inl p) =
    inl (turned_product (chi (cs ++ y ∷ x ∷ bs)) (chi (cs ++ x ∷ y ∷ bs)) (u c) s (alt x y cs bs) p)
HasTerm_swap chi x y (c ∷ cs) bs u s alt (inr h) =
    inr (HasTerm_swap (λ t. chi (c ∷ t)) x y cs bs u (opposite s) (λ x y cs bs. alt x y (c ∷ cs) bs) h)

pub IsBalanced_swap : (chi : List ℕ → Sign) (x y : ℕ) (cs bs : List ℕ) (u : ℕ → Sign) → IsAlternating chi
    → IsBalanced chi (cs ++ x ∷ y ∷ bs) u → IsBalanced chi (cs ++ y ∷ x ∷ bs) u
IsBalanced_swap chi x y cs bs u alt (f, g) = (
  λ h. HasTerm_swap chi y x cs bs u Plus alt (g (HasTerm_swap chi x y cs bs u Plus alt h)),
  λ h. HasTerm_swap chi y x cs bs u Minus alt (f (HasTerm_swap chi x y cs bs u Minus alt h)),
)

none_of_zero : (chi : List ℕ → Sign) (xs : List ℕ) (u : ℕ → Sign) (s : Sign) → s ≢ Zero → ((t : List ℕ) → chi t ≡ Zero)
    → HasTerm chi xs u s → ⊥
none_of_zero chi [] u s n z h = h
none_of_zero chi (x ∷ xs) u s n z (inl p) = opposite_nonzero s n (sym p ∙ product_zero_left (chi xs) (u x) (z xs))
none_of_zero chi (x ∷ xs) u s n z (inr h) =
    none_of_zero (λ t. chi (x ∷ t)) xs u (opposite s) (opposite_nonzero s n) (λ t. z (x ∷ t)) h

HasTerm_repeat : (chi : List ℕ → Sign) (x : ℕ) (cs bs : List ℕ) (u : ℕ → Sign) (s : Sign) → s ≢ Zero → IsAlternating chi
    → HasTerm chi (cs ++ x ∷ x ∷ bs) u s → HasTerm chi (cs ++ x ∷ x ∷ bs) u (opposite s)
HasTerm_repeat chi x [] bs u s n alt (inl p) = inr (inl (p ∙ sym (opposite-opposite (opposite s))))
HasTerm_repeat chi x [] bs u s n alt (inr (inl p)) = inl p
HasTerm_repeat chi x [] bs u s n alt (inr (inr h)) =
    absurd (none_of_zero (λ t. chi (x ∷ x ∷ t)) bs u (opposite (opposite s))
    (opposite_nonzero (opposite s) (opposite_nonzero s n)) (λ t. neighbours_zero chi alt x [] t) h)
HasTerm_repeat chi x (c ∷ cs) bs u s n alt (inl p) =
    absurd (opposite_nonzero s n
    (sym p ∙ product_zero_left (chi (cs ++ x ∷ x ∷ bs)) (u c) (neighbours_zero chi alt x cs bs)))
HasTerm_repeat chi x (c ∷ cs) bs u s n alt (inr h) =
    inr (HasTerm_repeat (λ t. chi (c ∷ t)) x cs bs u (opposite s) (opposite_nonzero s n)
    (λ x y cs bs. alt x y (c ∷ cs) bs) h)

pub IsBalanced_repeat : (chi : List ℕ → Sign) (x : ℕ) (cs bs : List ℕ) (u : ℕ → Sign) → IsAlternating chi
    → IsBalanced chi (cs ++ x ∷ x ∷ bs) u
IsBalanced_repeat chi x cs bs u alt =
    (λ h. HasTerm_repeat chi x cs bs u Plus (λ e. cc) alt h, λ h. HasTerm_repeat chi x cs bs u Minus (λ e. cc) alt h)

HasTerm_along : (chi : List ℕ → Sign) (xs : List ℕ) (u v : ℕ → Sign) (s : Sign) → ((e : ℕ) → v e ≡ opposite (u e))
    → HasTerm chi xs v s → HasTerm chi xs u (opposite s)
HasTerm_along chi [] u v s n h = h
HasTerm_along chi (x ∷ xs) u v s n (inl p) = inl (lemma (chi xs) (u x) (v x) s (n x) p)
  where
    lemma : (a b c s : Sign) → c ≡ opposite b → product a c ≡ opposite s → product a b ≡ opposite (opposite s)
    lemma a b c s e p = grind arith
HasTerm_along chi (x ∷ xs) u v s n (inr h) = inr (HasTerm_along (λ t. chi (x ∷ t)) xs u v (opposite s) n h)

IsBalanced_along : (chi : List ℕ → Sign) (xs : List ℕ) (u v : ℕ → Sign) → ((e : ℕ) → v e ≡ opposite (u e))
    → ((e : ℕ) → u e ≡ opposite (v e)) → IsBalanced chi xs u → IsBalanced chi xs v
IsBalanced_along chi xs u v n m (f, g) = (
  λ h. HasTerm_along chi xs v u Plus m (g (HasTerm_along chi xs u v Plus n h)),
  λ h. HasTerm_along chi xs v u Minus m (f (HasTerm_along chi xs u v Minus n h)),
)

none_along_zero : (chi : List ℕ → Sign) (xs : List ℕ) (u : ℕ → Sign) (s : Sign) → s ≢ Zero → ((e : ℕ) → u e ≡ Zero)
    → HasTerm chi xs u s → ⊥
none_along_zero chi [] u s n z h = h
none_along_zero chi (x ∷ xs) u s n z (inl p) = opposite_nonzero s n (sym p ∙ product_zero_right (chi xs) (u x) (z x))
none_along_zero chi (x ∷ xs) u s n z (inr h) =
    none_along_zero (λ t. chi (x ∷ t)) xs u (opposite s) (opposite_nonzero s n) z h

pub along_swap : (chi : List ℕ → Sign) (x y : ℕ) (cs bs : List ℕ) (e : ℕ) → IsAlternating chi
    → along chi (cs ++ y ∷ x ∷ bs) e ≡ opposite (along chi (cs ++ x ∷ y ∷ bs) e)
along_swap chi x y cs bs e alt =
    rw (append_assoc cs (y ∷ x ∷ bs) (e ∷ []), append_assoc cs (x ∷ y ∷ bs) (e ∷ [])) (alt x y cs (bs ++ e ∷ []))

pub along_repeat : (chi : List ℕ → Sign) (x : ℕ) (cs bs : List ℕ) (e : ℕ) → IsAlternating chi
    → along chi (cs ++ x ∷ x ∷ bs) e ≡ Zero
along_repeat chi x cs bs e alt =
    rw (append_assoc cs (x ∷ x ∷ bs) (e ∷ [])) (neighbours_zero chi alt x cs (bs ++ e ∷ []))

-- from one order of s and a to every order
pub relations_by_sorting : (chi : List ℕ → Sign) → IsAlternating chi
    → ((s a : List ℕ) → IsIncreasing s → IsIncreasing a → IsBalanced chi s (along chi a)) → HasRelations chi
relations_by_sorting chi alt rel s a = by_sorting
    (λ a. IsBalanced chi s (along chi a))
    (λ x y cs bs p. IsBalanced_along chi s (along chi (cs ++ x ∷ y ∷ bs)) (along chi (cs ++ y ∷ x ∷ bs))
    (λ e. along_swap chi x y cs bs e alt) (λ e. along_swap chi y x cs bs e alt) p)
    (λ x cs bs. (
      λ h. absurd (none_along_zero chi s _ Plus plus_nonzero (λ e. along_repeat chi x cs bs e alt) h),
      λ h. absurd (none_along_zero chi s _ Minus minus_nonzero (λ e. along_repeat chi x cs bs e alt) h),
    ))
    (λ a i. by_sorting (λ s. IsBalanced chi s (along chi a))
    (λ x y cs bs p. IsBalanced_swap chi x y cs bs (along chi a) alt p)
    (λ x cs bs. IsBalanced_repeat chi x cs bs (along chi a) alt)
    (λ s j. rel s a j i) s)
    a

HasTerm_same : (chi psi : List ℕ → Sign) (xs : List ℕ) (u v : SignVector) (s : Sign)
    → ((cs bs : List ℕ) (x : ℕ) → xs ≡ cs ++ x ∷ bs → product (chi (cs ++ bs)) (u x) ≡ product (psi (cs ++ bs)) (v x))
    → HasTerm chi xs u s → HasTerm psi xs v s
HasTerm_same chi psi [] u v s e h = h
HasTerm_same chi psi (x ∷ xs) u v s e (inl p) = inl (sym (e [] xs x refl) ∙ p)
HasTerm_same chi psi (x ∷ xs) u v s e (inr h) =
    inr (HasTerm_same (λ t. chi (x ∷ t)) (λ t. psi (x ∷ t)) xs u v (opposite s)
    (λ cs bs y q. e (x ∷ cs) bs y (ap (λ k. x ∷ k) q)) h)

pub IsBalanced_same : (chi psi : List ℕ → Sign) (xs : List ℕ) (u v : SignVector)
    → ((cs bs : List ℕ) (x : ℕ) → xs ≡ cs ++ x ∷ bs → product (chi (cs ++ bs)) (u x) ≡ product (psi (cs ++ bs)) (v x))
    → IsBalanced psi xs v → IsBalanced chi xs u
IsBalanced_same chi psi xs u v e (f, g) = (
  λ h. HasTerm_same psi chi xs v u Minus (λ cs bs x q. sym (e cs bs x q)) (f (HasTerm_same chi psi xs u v Plus e h)),
  λ h. HasTerm_same psi chi xs v u Plus (λ cs bs x q. sym (e cs bs x q)) (g (HasTerm_same chi psi xs u v Minus e h)),
)

pub no_term : (chi : List ℕ → Sign) (xs : List ℕ) (u : SignVector) (s : Sign) → IsNonzero s
    → ((cs bs : List ℕ) (x : ℕ) → xs ≡ cs ++ x ∷ bs → product (chi (cs ++ bs)) (u x) ≡ Zero) → HasTerm chi xs u s → ⊥
no_term chi [] u s n z h = h
no_term chi (x ∷ xs) u s n z (inl p) = opposite_nonzero s n (sym p ∙ z [] xs x refl)
no_term chi (x ∷ xs) u s n z (inr h) =
    no_term (λ t. chi (x ∷ t)) xs u (opposite s) (opposite_nonzero s n)
    (λ cs bs y q. z (x ∷ cs) bs y (ap (λ k. x ∷ k) q)) h

pub IsBalanced_zero : (chi : List ℕ → Sign) (xs : List ℕ) (u : SignVector)
    → ((cs bs : List ℕ) (x : ℕ) → xs ≡ cs ++ x ∷ bs → product (chi (cs ++ bs)) (u x) ≡ Zero) → IsBalanced chi xs u
IsBalanced_zero chi xs u z =
    (λ h. absurd (no_term chi xs u Plus plus_nonzero z h), λ h. absurd (no_term chi xs u Minus minus_nonzero z h))

-- zero off the list
pub around_zero : (chi : List ℕ → Sign) (xs : List ℕ) (e : ℕ) → (IsMember e xs → ⊥) → around chi xs e ≡ Zero
around_zero chi [] e n = refl
around_zero chi (x ∷ xs) e n =
    rw (ne_eqb e x (λ q. n (inl q)), around_zero (λ t. chi (x ∷ t)) xs e (λ m. n (inr m))) refl

-- the vector around a list is nonzero only at elements of the list
pub around_member : (chi : List ℕ → Sign) (xs : List ℕ) (e : ℕ) → IsNonzero (around chi xs e) → IsMember e xs
around_member chi xs e n = elim (member_or_not e xs) [ inl m ↦ m | inr k ↦ absurd (n (around_zero chi xs e k)) ]

-- the sign at one element
pub around_at : (chi : List ℕ → Sign) (u : List ℕ) (a : ℕ) (v : List ℕ) → IsDistinct (u ++ a ∷ v)
    → around chi (u ++ a ∷ v) a ≡ negated_times (suc (length u)) (chi (u ++ v))
around_at chi [] a v d = rw (eq-eqb a a refl) refl
around_at chi (c ∷ u) a v d =
    rw (ne_eqb a c (λ q. d.0 (subst (λ k. IsMember k (u ++ a ∷ v)) q (member_middle a u v))))
    (ap opposite (around_at (λ t. chi (c ∷ t)) u a v d.1))

pub around_at_nonzero : (chi : List ℕ → Sign) (u : List ℕ) (a : ℕ) (v : List ℕ) → IsDistinct (u ++ a ∷ v)
    → IsNonzero (chi (u ++ v)) → IsNonzero (around chi (u ++ a ∷ v) a)
around_at_nonzero chi u a v d n =
    subst IsNonzero (sym (around_at chi u a v d)) (negated_times_nonzero (suc (length u)) (chi (u ++ v)) n)

pub nonzero_from_around : (chi : List ℕ → Sign) (u : List ℕ) (a : ℕ) (v : List ℕ) → IsDistinct (u ++ a ∷ v)
    → IsNonzero (around chi (u ++ a ∷ v) a) → IsNonzero (chi (u ++ v))
nonzero_from_around chi u a v d n =
    nonzero_from_negated_times (suc (length u)) (chi (u ++ v)) (subst IsNonzero (around_at chi u a v d) n)

-- the sign at the last element is that of the others, up to sign
pub around_last_nonzero : (chi : List ℕ → Sign) (t : List ℕ) (e : ℕ) → IsDistinct (t ++ e ∷ []) → IsNonzero (chi t)
    → IsNonzero (around chi (t ++ e ∷ []) e)
around_last_nonzero chi t e d n = around_at_nonzero chi t e [] d (subst (λ l. IsNonzero (chi l)) (sym (append-nil t)) n)

term_product : (chi : List ℕ → Sign) (xs : List ℕ) (u : SignVector) (s : Sign) → IsNonzero s → IsDistinct xs
    → HasTerm chi xs u s → HasProduct (around chi xs) u s
term_product chi [] u s k d h = absurd h
term_product chi (x ∷ xs) u s k d (inl p) = (x, rw (eq-eqb x x refl) (product_turned_in (chi xs) (u x) s p))
term_product chi (x ∷ xs) u s k d (inr h) =
    let r = term_product (λ t. chi (x ∷ t)) xs u (opposite s) (opposite_nonzero s k) d.1 h in
    let m : IsMember r.0 xs =
    around_member (λ t. chi (x ∷ t)) xs r.0 (left_nonzero _ (u r.0) (opposite s) r.1 (opposite_nonzero s k)) in (
      r.0,
      rw (ne_eqb r.0 x (λ q. d.0 (subst (λ z. IsMember z xs) q m)))
          (product_turned_in (around (λ t. chi (x ∷ t)) xs r.0) (u r.0) s r.1),
    )

product_term : (chi : List ℕ → Sign) (xs : List ℕ) (u : SignVector) (s : Sign) (e : ℕ) → IsNonzero s
    → product (around chi xs e) (u e) ≡ s → HasTerm chi xs u s
product_term chi [] u s e n p = n (sym p)
product_term chi (x ∷ xs) u s e n p = elim (cases_eq e x) [
  | inl q ↦ inl (product_turned_out (chi xs) (u x) s (rw q at (rw (eq-eqb e x q) at p)))
  | inr q ↦
      inr (product_term (λ t. chi (x ∷ t)) xs u (opposite s) e (opposite_nonzero s n)
      (product_turned_out (around (λ t. chi (x ∷ t)) xs e) (u e) s (rw (ne_eqb e x q) at p)))
]

pub orthogonal_from_balanced : (chi : List ℕ → Sign) (xs : List ℕ) (u : SignVector) → IsDistinct xs
    → IsBalanced chi xs u → Orthogonal (around chi xs) u
orthogonal_from_balanced chi xs u d (f, g) = record {
  minus = λ h. term_product chi xs u Minus minus_nonzero d (f (product_term chi xs u Plus h.0 plus_nonzero h.1));
  plus = λ h. term_product chi xs u Plus plus_nonzero d (g (product_term chi xs u Minus h.0 minus_nonzero h.1));
}

pub balanced_from_orthogonal : (chi : List ℕ → Sign) (xs : List ℕ) (u : SignVector) → IsDistinct xs
    → Orthogonal (around chi xs) u → IsBalanced chi xs u
balanced_from_orthogonal chi xs u d o = (
  λ h. let q = o.minus (term_product chi xs u Plus plus_nonzero d h) in
      product_term chi xs u Minus q.0 minus_nonzero q.1,
  λ h. let q = o.plus (term_product chi xs u Minus minus_nonzero d h) in
      product_term chi xs u Plus q.0 plus_nonzero q.1,
)
