-- An alternating map pulled back along a renaming of the elements, with some elements fixed behind: its relations, and
-- what is around and along its lists.
--
-- Main results: pullback_alternating, along_pullback, pullback_relations, map_member, map_image, around_pullback,
-- renamed_distinct
-- Reference: Björner, Las Vergnas, Sturmfels, White and Ziegler, Oriented Matroids, chapters 3 and 4.
use Rattle.std.specs.Prelude.{ℕ, ◌≡◌, refl, ◌⊎◌, List, [], ◌∷◌, ◌++◌, map}
use Rattle.std.proofs.Common.{inl, inr, sym, ◌∙◌, ap, subst, ⊎_elim, append-nil}
use Rattle.std.proofs.lemmas.Bool.{cases_eq, eq-eqb, ne_eqb}
use Rattle.om_signs.specs.declared.sign.Sign.{Sign}
use Rattle.om_signs.specs.declared.sign.Sign.TheVariants.{Minus, Zero, Plus}
use Rattle.om_signs.specs.Sign.{opposite, product}
use Rattle.om_signs.proofs.SignLaws.{plus_nonzero, minus_nonzero, opposite_nonzero, product_zero_right, opposite_swap}
use Rattle.om_signs.proofs.SignLaws.{product-opposite_right}
use Rattle.om_laws.specs.Members.{IsMember, IsDistinct}
use Rattle.om_laws.specs.Minors.{pullback}
use Rattle.om_laws.specs.Relations.{around, along, HasTerm, IsBalanced, HasRelations}
use Rattle.om_laws.specs.Signs.{IsNonzero}
use Rattle.om_laws.specs.Tuples.{IsAlternating}
use Rattle.om_laws.specs.Vectors.{SignVector}
use Rattle.om_laws.proofs.BlockLaws.{negated_for, negated_for_opposite, negated_for_nonzero, negated_for_twice}
use Rattle.om_laws.proofs.MemberLaws.{member_middle, member_append, member_right}
use Rattle.om_laws.proofs.RelationLaws.{no_term, around_zero}
use Rattle.om_laws.proofs.TupleLaws.{moved_over, last_repeat_zero}

module _ (rename : ℕ → ℕ) (q : List ℕ) where
  -- the pullback of an alternating map alternates
  pub pullback_alternating : (chi : List ℕ → Sign) → IsAlternating chi → IsAlternating (pullback chi rename q)
  pullback_alternating chi alt x y [] bs = alt (rename x) (rename y) [] (map rename bs ++ q)
  pullback_alternating chi alt x y (c ∷ cs) bs =
      pullback_alternating (λ t. chi (rename c ∷ t)) (λ x y cs bs. alt x y (rename c ∷ cs) bs) x y cs bs

  pub along_pullback : (chi : List ℕ → Sign) → IsAlternating chi → (y : List ℕ) (p : ℕ)
      → along (pullback chi rename q) y p ≡ negated_for q (along chi (map rename y ++ q) (rename p))
  along_pullback chi alt [] p = ap (λ l. chi (rename p ∷ l)) (sym (append-nil q))
      ∙ moved_over chi alt q [] (rename p) []
  along_pullback chi alt (c ∷ y) p =
      along_pullback (λ t. chi (rename c ∷ t)) (λ x y cs bs. alt x y (rename c ∷ cs) bs) y p

  -- ---- relations

  product_negated_for : (q : List ℕ) (a b c t : Sign) → b ≡ negated_for q c → product a b ≡ opposite t
      → product a c ≡ opposite (negated_for q t)
  product_negated_for [] a b c t e p = ap (product a) (sym e) ∙ p
  product_negated_for (z ∷ q) a b c t e p =
      product_negated_for q a (opposite b) c (opposite t) (sym (opposite_swap b (negated_for q c) e))
      (product-opposite_right a b ∙ ap opposite p) ∙ ap opposite (negated_for_opposite q t)

  term_up : (chi : List ℕ → Sign) (s : List ℕ) (u v : SignVector) (t : Sign)
      → ((x : ℕ) → u x ≡ negated_for q (v (rename x))) → HasTerm (pullback chi rename q) s u t
      → HasTerm chi (map rename s ++ q) v (negated_for q t)
  term_up chi [] u v t e h = absurd h
  term_up chi (x ∷ s) u v t e (inl p) =
      inl (product_negated_for q (chi (map rename s ++ q)) (u x) (v (rename x)) t (e x) p)
  term_up chi (x ∷ s) u v t e (inr h) =
      inr (subst (HasTerm (λ l. chi (rename x ∷ l)) (map rename s ++ q) v) (negated_for_opposite q t)
      (term_up (λ l. chi (rename x ∷ l)) s u v (opposite t) e h))

  term_down : (chi : List ℕ → Sign) (s : List ℕ) (u v : SignVector) (t : Sign) → IsNonzero t
      → ((x : ℕ) → v (rename x) ≡ negated_for q (u x)) → ((x : ℕ) → IsMember x q → v x ≡ Zero)
      → HasTerm chi (map rename s ++ q) v t → HasTerm (pullback chi rename q) s u (negated_for q t)
  term_down chi [] u v t n e z h =
      absurd (no_term chi q v t n
      (λ cs bs x k. product_zero_right (chi (cs ++ bs)) (v x)
      (z x (subst (IsMember x) (sym k) (member_middle x cs bs)))) h)
  term_down chi (x ∷ s) u v t n e z (inl p) =
      inl (product_negated_for q (chi (map rename s ++ q)) (v (rename x)) (u x) t (e x) p)
  term_down chi (x ∷ s) u v t n e z (inr h) =
      inr (subst (HasTerm (pullback (λ l. chi (rename x ∷ l)) rename q) s u) (negated_for_opposite q t)
      (term_down (λ l. chi (rename x ∷ l)) s u v (opposite t) (opposite_nonzero t n) e z h))

  along_back : (chi : List ℕ → Sign) → IsAlternating chi → (a : List ℕ) (x : ℕ)
      → along chi (map rename a ++ q) (rename x) ≡ negated_for q (along (pullback chi rename q) a x)
  along_back chi alt a x =
      sym (ap (negated_for q) (along_pullback chi alt a x)
      ∙ negated_for_twice q (along chi (map rename a ++ q) (rename x)))

  pub along_added : (chi : List ℕ → Sign) → IsAlternating chi → (a : List ℕ) (x : ℕ) → IsMember x q
      → along chi (map rename a ++ q) x ≡ Zero
  along_added chi alt a x m = last_repeat_zero chi alt (map rename a ++ q) x (member_right x (map rename a) q m)

  -- a sign and its opposite, each negated for q
  turned_term : (chi : List ℕ → Sign) → IsAlternating chi → HasRelations chi → (s a : List ℕ) (t : Sign) → IsNonzero t
      → (HasTerm chi (map rename s ++ q) (along chi (map rename a ++ q)) (negated_for q t)
      → HasTerm chi (map rename s ++ q) (along chi (map rename a ++ q)) (opposite (negated_for q t)))
      → HasTerm (pullback chi rename q) s (along (pullback chi rename q) a) t
      → HasTerm (pullback chi rename q) s (along (pullback chi rename q) a) (opposite t)
  turned_term chi alt rel s a t n turn h =
      let up = term_up chi s (along (pullback chi rename q) a) (along chi (map rename a ++ q)) t
      (along_pullback chi alt a) h in
      subst (HasTerm (pullback chi rename q) s (along (pullback chi rename q) a))
      (negated_for_opposite q (negated_for q t) ∙ ap opposite (negated_for_twice q t))
      (term_down chi s (along (pullback chi rename q) a) (along chi (map rename a ++ q)) (opposite (negated_for q t))
      (opposite_nonzero (negated_for q t) (negated_for_nonzero q t n)) (along_back chi alt a)
      (along_added chi alt a) (turn up))

  balanced_turn : (chi : List ℕ → Sign) (xs : List ℕ) (u : SignVector) (t : Sign) → IsNonzero t → IsBalanced chi xs u
      → HasTerm chi xs u t → HasTerm chi xs u (opposite t)
  balanced_turn chi xs u Minus n (f, g) h = g h
  balanced_turn chi xs u Zero n b h = absurd (n refl)
  balanced_turn chi xs u Plus n (f, g) h = f h

  pub pullback_relations : (chi : List ℕ → Sign) → IsAlternating chi → HasRelations chi
      → HasRelations (pullback chi rename q)
  pullback_relations chi alt rel s a = (
    turned_term chi alt rel s a Plus plus_nonzero
        (balanced_turn chi (map rename s ++ q) (along chi (map rename a ++ q)) (negated_for q Plus)
        (negated_for_nonzero q Plus plus_nonzero) (rel (map rename s ++ q) (map rename a ++ q))),
    turned_term chi alt rel s a Minus minus_nonzero
        (balanced_turn chi (map rename s ++ q) (along chi (map rename a ++ q)) (negated_for q Minus)
        (negated_for_nonzero q Minus minus_nonzero) (rel (map rename s ++ q) (map rename a ++ q))),
  )

  -- what a member of a list is renamed to is a member of the renamed list
  pub map_member : (e : ℕ) (t : List ℕ) → IsMember e t → IsMember (rename e) (map rename t)
  map_member e [] m = absurd m
  map_member e (x ∷ t) (inl k) = inl (ap rename k)
  map_member e (x ∷ t) (inr m) = inr (map_member e t m)

  -- each member of a renamed list is what some member of the list is renamed to
  pub map_image : (g : ℕ) (t : List ℕ) → IsMember g (map rename t) → (e : ℕ) × IsMember e t × (g ≡ rename e)
  map_image g [] m = absurd m
  map_image g (x ∷ t) (inl k) = (x, inl refl, k)
  map_image g (x ∷ t) (inr m) = let r = map_image g t m in (r.0, inr r.1, r.2)

  -- ---- circuits, if the renaming is one to one and avoids the added elements

  module _ (apart : (x y : ℕ) → rename x ≡ rename y → x ≡ y) (fresh : (x : ℕ) → IsMember (rename x) q → ⊥) where
    pub around_pullback : (chi : List ℕ → Sign) (x : List ℕ) (p : ℕ)
        → around (pullback chi rename q) x p ≡ around chi (map rename x ++ q) (rename p)
    around_pullback chi [] p = sym (around_zero chi q (rename p) (fresh p))
    around_pullback chi (c ∷ x) p = elim (cases_eq p c) [
      | inl k ↦ rw (eq-eqb p c k, eq-eqb (rename p) (rename c) (ap rename k)) refl
      | inr n ↦ rw (ne_eqb p c n, ne_eqb (rename p) (rename c) (λ k. n (apart p c k)))
          (ap opposite (around_pullback (λ t. chi (rename c ∷ t)) x p))
    ]

    pub renamed_distinct : (x : List ℕ) → IsDistinct x → IsDistinct q → IsDistinct (map rename x ++ q)
    renamed_distinct [] d dq = dq
    renamed_distinct (c ∷ x) d dq = (
      (λ m. ⊎_elim
          (λ k. (let r = map_image (rename c) x k in d.0 (subst (λ z. IsMember z x) (apart r.0 c (sym r.2)) r.1)))
          (λ k. fresh c k)
          (member_append (rename c) (map rename x) q m)),
      renamed_distinct x d.1 dq,
    )
