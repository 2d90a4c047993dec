-- Alternating maps on tuples.
--
-- Main results: the value of a map that is given on increasing lists alternates (value_alternating); an alternating map
-- is zero at a tuple with a repeat (zero_at_repeat, neighbours_zero), so a tuple with a nonzero value is distinct
-- (nonzero_distinct); an element that is moved to the end, or back, keeps the value nonzero (nonzero_to_end,
-- nonzero_from_end); the order of insertions doesn't matter (insert_comm).
-- Reference: Björner, Las Vergnas, Sturmfels, White and Ziegler, Oriented Matroids, chapter 3.
use Rattle.std.proofs.lemmas.Bool.{cases_eq}
use Rattle.std.proofs.Common.{ℕ, List, refl, arith, inl, inr, sym, ap, subst, ⊎_elim, append_assoc, append-nil, length}
use Rattle.std.proofs.Common.{◌≡◌, ◌≢◌, ◌∷◌, ◌++◌, [], ◌∙◌}
use Rattle.om_signs.specs.declared.sign.Sign.{Sign}
use Rattle.om_signs.specs.declared.sign.Sign.TheVariants.{Zero}
use Rattle.om_signs.specs.Sign.{opposite, product}
use Rattle.om_signs.proofs.SignLaws.{nonzero_if_opposite, product_left_comm, product-opposite_left}
use Rattle.om_signs.proofs.SignLaws.{product-opposite_right, products, opposite_zero, own_opposite}
use Rattle.om_laws.specs.Members.{IsMember, IsDistinct}
use Rattle.om_laws.specs.Signs.{IsNonzero, negated_times}
use Rattle.om_laws.specs.Tuples.{IsAlternating, order_sign, before_sign, sort_sign, insert, sorted, value}
use Rattle.om_laws.proofs.MemberLaws.{distinct_or_repeat, split_at}
use Rattle.om_laws.proofs.NegatedTimes.{negated_times_nonzero, nonzero_from_negated_times}
use Rattle.om_laws.proofs.OrderSigns.{order_sign_swap}

before_sign_swap : (a x y : ℕ) (cs bs : List ℕ) → before_sign a (cs ++ y ∷ x ∷ bs) ≡ before_sign a (cs ++ x ∷ y ∷ bs)
before_sign_swap a x y [] bs = product_left_comm (order_sign a y) (order_sign a x) (before_sign a bs)
before_sign_swap a x y (b ∷ cs) bs = ap (product (order_sign a b)) (before_sign_swap a x y cs bs)

pub sort_sign_swap : (x y : ℕ) (cs bs : List ℕ) → sort_sign (cs ++ y ∷ x ∷ bs) ≡ opposite (sort_sign (cs ++ x ∷ y ∷ bs))
sort_sign_swap x y [] bs = lemma (order_sign y x) (order_sign x y) (before_sign y bs) (before_sign x bs) (sort_sign bs)
    (order_sign_swap x y)
  where
    lemma : (s t u v w : Sign) → s ≡ opposite t → product (product s u) (product v w)
        ≡ opposite (product (product t v) (product u w))
    lemma s t u v w e = rw e (simp products)
sort_sign_swap x y (a ∷ cs) bs =
    ap (λ s. product s (sort_sign (cs ++ y ∷ x ∷ bs))) (before_sign_swap a x y cs bs)
    ∙ ap (product (before_sign a (cs ++ x ∷ y ∷ bs))) (sort_sign_swap x y cs bs)
    ∙ product-opposite_right (before_sign a (cs ++ x ∷ y ∷ bs)) (sort_sign (cs ++ x ∷ y ∷ bs))

insert_step : (x y z : ℕ) (zs : List ℕ) → x ≢ y → insert x (insert y zs) ≡ insert y (insert x zs)
    → insert x (insert y (z ∷ zs)) ≡ insert y (insert x (z ∷ zs))
insert_step x y z zs n e = grind arith

insert_none : (x y : ℕ) → x ≢ y → insert x (insert y []) ≡ insert y (insert x [])
insert_none x y n = grind arith

-- two different numbers are inserted in either order with the same result
pub insert_comm : (x y : ℕ) (zs : List ℕ) → x ≢ y → insert x (insert y zs) ≡ insert y (insert x zs)
insert_comm x y [] n = insert_none x y n
insert_comm x y (z ∷ zs) n = insert_step x y z zs n (insert_comm x y zs n)

sorted_swap : (x y : ℕ) (cs bs : List ℕ) → x ≢ y → sorted (cs ++ y ∷ x ∷ bs) ≡ sorted (cs ++ x ∷ y ∷ bs)
sorted_swap x y [] bs n = sym (insert_comm x y (sorted bs) n)
sorted_swap x y (a ∷ cs) bs n = ap (insert a) (sorted_swap x y cs bs n)

pub sort_sign_repeat : (x : ℕ) (cs bs : List ℕ) → sort_sign (cs ++ x ∷ x ∷ bs) ≡ Zero
sort_sign_repeat x cs bs = own_opposite _ (sort_sign_swap x x cs bs)

value_repeat : (f : List ℕ → Sign) (x : ℕ) (cs bs : List ℕ) → value f (cs ++ x ∷ x ∷ bs) ≡ Zero
value_repeat f x cs bs = rw (sort_sign_repeat x cs bs) refl

-- the value on all lists, of a map that is given on increasing lists, alternates
pub value_alternating : (f : List ℕ → Sign) → IsAlternating (value f)
value_alternating f x y cs bs = elim (cases_eq x y) [
  | inl e ↦ rw e (value_repeat f y cs bs ∙ ap opposite (sym (value_repeat f y cs bs)))
  | inr n ↦ rw (sort_sign_swap x y cs bs, sorted_swap x y cs bs n)
      (product-opposite_left (sort_sign (cs ++ x ∷ y ∷ bs)) (f (sorted (cs ++ x ∷ y ∷ bs))))
]

module _ (chi : List ℕ → Sign) (alt : IsAlternating chi) where
  -- an alternating map is zero at a list in which an element occurs twice
  pub repeat_zero : (m u : List ℕ) (x : ℕ) (w : List ℕ) → chi (u ++ x ∷ (m ++ x ∷ w)) ≡ Zero
  repeat_zero [] u x w = own_opposite _ (alt x x u w)
  repeat_zero (z ∷ m) u x w =
      let e : (u ++ z ∷ []) ++ x ∷ (m ++ x ∷ w) ≡ u ++ z ∷ x ∷ (m ++ x ∷ w) =
      append_assoc u (z ∷ []) (x ∷ (m ++ x ∷ w)) in
      let h : chi (u ++ z ∷ x ∷ (m ++ x ∷ w)) ≡ Zero = subst (λ l. chi l ≡ Zero) e (repeat_zero m (u ++ z ∷ []) x w) in
      alt z x u (m ++ x ∷ w) ∙ opposite_zero _ h

  -- an alternating map is zero at a list with two equal neighbours
  pub neighbours_zero : (x : ℕ) (cs bs : List ℕ) → chi (cs ++ x ∷ x ∷ bs) ≡ Zero
  neighbours_zero x cs bs = own_opposite _ (alt x x cs bs)

  -- an element that is moved over those of m
  pub moved_over : (m u : List ℕ) (x : ℕ) (w : List ℕ)
      → chi (u ++ x ∷ (m ++ w)) ≡ negated_times (length m) (chi (u ++ (m ++ x ∷ w)))
  moved_over [] u x w = refl
  moved_over (z ∷ m) u x w =
      let e : (u ++ z ∷ []) ++ x ∷ (m ++ w) ≡ u ++ z ∷ x ∷ (m ++ w) = append_assoc u (z ∷ []) (x ∷ (m ++ w)) in
      let e' : (u ++ z ∷ []) ++ (m ++ x ∷ w) ≡ u ++ z ∷ (m ++ x ∷ w) = append_assoc u (z ∷ []) (m ++ x ∷ w) in
      let h : chi (u ++ z ∷ x ∷ (m ++ w)) ≡ negated_times (length m) (chi (u ++ z ∷ (m ++ x ∷ w))) =
      subst (λ l. chi l ≡ negated_times (length m) (chi (u ++ z ∷ (m ++ x ∷ w)))) e
      (subst (λ l. chi ((u ++ z ∷ []) ++ x ∷ (m ++ w)) ≡ negated_times (length m) (chi l)) e'
      (moved_over m (u ++ z ∷ []) x w)) in
      alt z x u (m ++ w) ∙ ap opposite h

  -- a list at which an alternating map isn't zero has no repeat
  pub nonzero_distinct : (t : List ℕ) → IsNonzero (chi t) → IsDistinct t
  nonzero_distinct t n =
      ⊎_elim (λ r. r) (λ r. absurd (n (ap chi r.4 ∙ repeat_zero r.2 r.0 r.1 r.3))) (distinct_or_repeat t)

  pub nonzero_swapped : (u : List ℕ) (x y : ℕ) (v : List ℕ) → IsNonzero (chi (u ++ x ∷ y ∷ v))
      → IsNonzero (chi (u ++ y ∷ x ∷ v))
  nonzero_swapped u x y v n = nonzero_if_opposite _ _ (alt x y u v) n

  -- where an alternating map isn't zero, it isn't with an element moved to the end
  pub nonzero_to_end : (u v : List ℕ) (e : ℕ) → IsNonzero (chi (u ++ e ∷ v)) → IsNonzero (chi ((u ++ v) ++ e ∷ []))
  nonzero_to_end u v e n =
      let h = moved_over v u e [] in
      let n1 : IsNonzero (chi (u ++ e ∷ (v ++ []))) =
      subst (λ l. IsNonzero (chi (u ++ e ∷ l))) (sym (append-nil v)) n in
      let n2 = nonzero_from_negated_times (length v) (chi (u ++ (v ++ e ∷ []))) (subst IsNonzero h n1) in
      subst (λ l. IsNonzero (chi l)) (sym (append_assoc u v (e ∷ []))) n2

  -- where an alternating map isn't zero, it isn't with the last element moved to any place
  pub nonzero_from_end : (u v : List ℕ) (e : ℕ) → IsNonzero (chi ((u ++ v) ++ e ∷ [])) → IsNonzero (chi (u ++ e ∷ v))
  nonzero_from_end u v e n =
      let h = moved_over v u e [] in
      let n1 = subst (λ l. IsNonzero (chi l)) (append_assoc u v (e ∷ [])) n in
      let n2 : IsNonzero (chi (u ++ e ∷ (v ++ []))) =
      subst IsNonzero (sym h) (negated_times_nonzero (length v) (chi (u ++ (v ++ e ∷ []))) n1) in
      subst (λ l. IsNonzero (chi (u ++ e ∷ l))) (append-nil v) n2

  -- an alternating map is zero at a list that is followed by one of its own elements
  pub last_repeat_zero : (y : List ℕ) (g : ℕ) → IsMember g y → chi (y ++ g ∷ []) ≡ Zero
  last_repeat_zero y g m =
      let s = split_at g y m in
      ap (λ l. chi (l ++ g ∷ [])) s.2 ∙ ap chi (append_assoc s.0 (g ∷ s.1) (g ∷ [])) ∙ repeat_zero s.1 s.0 g []

pub zero_at_repeat : (chi : List ℕ → Sign) → IsAlternating chi → (t : List ℕ) → (IsDistinct t → ⊥) → chi t ≡ Zero
zero_at_repeat chi alt t n =
    ⊎_elim (λ d. absurd (n d)) (λ r. ap chi r.4 ∙ repeat_zero chi alt r.2 r.0 r.1 r.3) (distinct_or_repeat t)
