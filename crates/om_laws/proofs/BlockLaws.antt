-- Signs negated once for each entry of a list, and blocks of a tuple that change places.
--
-- Main definitions: negated_for, negated_for_pairs.
-- Main results: two blocks change places (blocks_swapped); a property that is kept where neighbours change places holds
-- of each list with the same members (same_members); the sign of a permutation is nonzero (sort_sign_nonzero).
-- Reference: Björner, Las Vergnas, Sturmfels, White and Ziegler, Oriented Matroids, chapter 3.
use Rattle.std.specs.Prelude.{ℕ, ◌≡◌, List, [], ◌∷◌, ◌++◌, refl, length}
use Rattle.std.proofs.Common.{inl, inr, sym, ◌∙◌, ap, subst, ⊎_elim, append_assoc, append-nil}
use Rattle.om_signs.specs.declared.sign.Sign.{Sign}
use Rattle.om_signs.specs.declared.sign.Sign.TheVariants.{Zero, Plus}
use Rattle.om_signs.specs.Sign.{opposite, product}
use Rattle.om_signs.proofs.SignLaws.{opposite_zero, plus_nonzero, product_nonzero, opposite_nonzero, opposite-opposite}
use Rattle.om_signs.proofs.SignLaws.{product-opposite_left, product-opposite_right}
use Rattle.om_laws.specs.Signs.{IsNonzero, negated_times}
use Rattle.om_laws.specs.Members.{IsMember, IsDistinct}
use Rattle.om_laws.specs.Tuples.{IsAlternating, order_sign, before_sign, sort_sign}
use Rattle.om_laws.proofs.MemberLaws.{distinct_drop, member_drop, member_insert, split_at}
use Rattle.om_laws.proofs.TupleLaws.{moved_over}
use Rattle.om_laws.proofs.OrderSigns.{order_sign_nonzero}

-- negated once for each entry
abbrev pub negated_for : List ℕ → Sign → Sign
negated_for u s = negated_times (length u) s

pub negated_for_nonzero : (u : List ℕ) (t : Sign) → IsNonzero t → IsNonzero (negated_for u t)
negated_for_nonzero [] t n = n
negated_for_nonzero (z ∷ u) t n = opposite_nonzero (negated_for u t) (negated_for_nonzero u t n)

pub negated_for_zero : (u : List ℕ) → negated_for u Zero ≡ Zero
negated_for_zero [] = refl
negated_for_zero (z ∷ u) = opposite_zero _ (negated_for_zero u)

pub negated_for_opposite : (u : List ℕ) (t : Sign) → negated_for u (opposite t) ≡ opposite (negated_for u t)
negated_for_opposite [] t = refl
negated_for_opposite (z ∷ u) t = ap opposite (negated_for_opposite u t)

pub negated_for_append : (u v : List ℕ) (s : Sign) → negated_for (u ++ v) s ≡ negated_for u (negated_for v s)
negated_for_append [] v s = refl
negated_for_append (z ∷ u) v s = ap opposite (negated_for_append u v s)

pub negated_for_twice : (u : List ℕ) (s : Sign) → negated_for u (negated_for u s) ≡ s
negated_for_twice [] s = refl
negated_for_twice (z ∷ u) s = ap opposite (negated_for_opposite u (negated_for u s)) ∙ opposite-opposite _
    ∙ negated_for_twice u s

pub negated_for_times : (u : List ℕ) (s t : Sign) → negated_for u (product s t) ≡ product (negated_for u s) t
negated_for_times [] s t = refl
negated_for_times (z ∷ u) s t = ap opposite (negated_for_times u s t) ∙ sym (product-opposite_left (negated_for u s) t)

pub negated_for_times_right : (u : List ℕ) (s t : Sign) → product s (negated_for u t) ≡ product (negated_for u s) t
negated_for_times_right [] s t = refl
negated_for_times_right (z ∷ u) s t = product-opposite_right s (negated_for u t)
    ∙ ap opposite (negated_for_times_right u s t) ∙ sym (product-opposite_left (negated_for u s) t)

-- a sign, negated once for each pair of an entry of a and one of b
abbrev pub negated_for_pairs : List ℕ → List ℕ → Sign → Sign
negated_for_pairs [] b s = s
negated_for_pairs (x ∷ a) b s = negated_for_pairs a b (negated_for b s)

-- two blocks change places
pub blocks_swapped : (chi : List ℕ → Sign) → IsAlternating chi → (u a b : List ℕ)
    → chi (u ++ (a ++ b)) ≡ negated_for_pairs a b (chi (u ++ (b ++ a)))
blocks_swapped chi alt u [] b = ap (λ l. chi (u ++ l)) (sym (append-nil b))
blocks_swapped chi alt u (x ∷ a) b =
    ap chi (sym (append_assoc u (x ∷ []) (a ++ b)))
    ∙ blocks_swapped chi alt (u ++ x ∷ []) a b
    ∙ ap (negated_for_pairs a b) (ap chi (append_assoc u (x ∷ []) (b ++ a)) ∙ moved_over chi alt b u x a)

pub negated_for_product : (u : List ℕ) (s : Sign) → negated_for u s ≡ product (negated_for u Plus) s
negated_for_product [] s = refl
negated_for_product (z ∷ u) s = ap opposite (negated_for_product u s)
    ∙ sym (product-opposite_left (negated_for u Plus) s)

pub negated_for_last : (u : List ℕ) (a : ℕ) (s : Sign) → negated_for (u ++ a ∷ []) s ≡ opposite (negated_for u s)
negated_for_last [] a s = refl
negated_for_last (z ∷ u) a s = ap opposite (negated_for_last u a s)

-- a property kept by exchanging neighbours passes between lists with the same members
module _ (Q : List ℕ → Type 0) (swapped : (u : List ℕ) (x y : ℕ) (v : List ℕ) → Q (u ++ x ∷ y ∷ v)
    → Q (u ++ y ∷ x ∷ v)) where
  insert_later : (u p : List ℕ) (a : ℕ) (v : List ℕ) → Q (p ++ a ∷ (u ++ v)) → Q (p ++ (u ++ a ∷ v))
  insert_later [] p a v q = q
  insert_later (c ∷ u) p a v q =
      let q1 = swapped p a c (u ++ v) q in
      let q2 = subst Q (sym (append_assoc p (c ∷ []) (a ∷ (u ++ v)))) q1 in
      subst Q (append_assoc p (c ∷ []) (u ++ a ∷ v)) (insert_later u (p ++ c ∷ []) a v q2)

  -- the property passes from p ++ l to p ++ l', if l and l' are distinct and have the same members
  pub same_members : (l p l' : List ℕ) → IsDistinct l → IsDistinct l' → ((g : ℕ) → IsMember g l → IsMember g l')
      → ((g : ℕ) → IsMember g l' → IsMember g l) → Q (p ++ l) → Q (p ++ l')
  same_members [] p [] r r' to from q = q
  same_members [] p (b ∷ l') r r' to from q = absurd (from b (inl refl))
  same_members (a ∷ l) p l' r r' to from q =
      let s = split_at a l' (to a (inl refl)) in
      let d = distinct_drop s.0 a s.1 (subst IsDistinct s.2 r') in
      let to2 : (g : ℕ) → IsMember g l → IsMember g (s.0 ++ s.1) = λ g m.
      ⊎_elim (λ e. absurd (r.0 (subst (λ z. IsMember z l) e m))) (λ k. k)
      (member_drop g s.0 a s.1 (subst (IsMember g) s.2 (to g (inr m)))) in
      let from2 : (g : ℕ) → IsMember g (s.0 ++ s.1) → IsMember g l = λ g m.
      ⊎_elim (λ e. absurd (d.1 (subst (λ z. IsMember z (s.0 ++ s.1)) e m))) (λ k. k)
      (from g (subst (IsMember g) (sym s.2) (member_insert g s.0 a s.1 m))) in
      let q1 = subst Q (sym (append_assoc p (a ∷ []) l)) q in
      let q2 = same_members l (p ++ a ∷ []) (s.0 ++ s.1) r.1 d.0 to2 from2 q1 in
      let q3 = subst Q (append_assoc p (a ∷ []) (s.0 ++ s.1)) q2 in
      subst (λ z. Q (p ++ z)) (sym s.2) (insert_later s.0 p a s.1 q3)

-- ---- the sign of a permutation

before_sign_nonzero : (x : ℕ) (ys : List ℕ) → (IsMember x ys → ⊥) → IsNonzero (before_sign x ys)
before_sign_nonzero x [] n = plus_nonzero
before_sign_nonzero x (y ∷ ys) n =
    product_nonzero (order_sign x y) (before_sign x ys) (order_sign_nonzero x y (λ q. n (inl q)))
    (before_sign_nonzero x ys (λ m. n (inr m)))

-- the sign of the permutation that sorts a list isn't zero, if the list has no repeat
pub sort_sign_nonzero : (xs : List ℕ) → IsDistinct xs → IsNonzero (sort_sign xs)
sort_sign_nonzero [] d = plus_nonzero
sort_sign_nonzero (x ∷ xs) d =
    product_nonzero (before_sign x xs) (sort_sign xs) (before_sign_nonzero x xs d.0) (sort_sign_nonzero xs d.1)
