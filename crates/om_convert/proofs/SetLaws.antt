-- Increasing lists with an element in the place of another, and their order.
--
-- Main results: a smaller element in the place of another gives an earlier list (exchanged_before); of two lists the
-- earlier one has an element that is not in the other, and is less than all that only the other has (first_new).
use Rattle.std.specs.Prelude.{ℕ, ◌≡◌, ◌≢◌, ◌+◌, ◌<◌, List, [], ◌∷◌, length, refl}
use Rattle.std.proofs.Common.{zero, suc, sym, subst, ◌∙◌, ⊎_elim, inl, inr, arith}
use Rattle.std.proofs.lemmas.Bool.{cases_eq, cases_lt, eq-eqb, ne_eqb, lt-ltb, le-ltb}
use Rattle.om_subsets.specs.Subsets.{IsSubsetFrom, IsMember, with_element, without_element}
use Rattle.om_subsets.specs.Lists.{IsBefore}
use Rattle.om_subsets.proofs.OneElement.{not_later, without_other, with_below}
use Rattle.om_subsets.proofs.Order.{members_from}

pub exchanged_before : (low m e h : ℕ) (xs : List ℕ) → IsSubsetFrom low m xs → IsMember e xs → h < e
    → (IsMember h (without_element e xs) → ⊥)
    → IsBefore (with_element h (without_element e xs)) xs
exchanged_before low m e h [] s k l out = absurd k
exchanged_before low zero e h (x ∷ xs) s k l out = absurd s
exchanged_before low (suc m) e h (x ∷ xs) (inr (q, s)) k l out = exchanged_before (low + 1) m e h (x ∷ xs) s k l out
exchanged_before low (suc m) e h (x ∷ xs) (inl (q, s)) k l out = elim (cases_eq e x) [
  | inl p ↦
      let other = without_other e xs (not_later low m e xs s (p ∙ q)) in
      let front : with_element h xs ≡ h ∷ xs = with_below (low + 1) m h xs s (omega arith) in
      rw (eq-eqb e x p, other, front) (inl (omega arith))
  | inr n ↦
      let k' : IsMember e xs = ⊎_elim (λ p. absurd (n p)) (λ j. j) k in
      let shape : without_element e (x ∷ xs) ≡ x ∷ without_element e xs = rw (ne_eqb e x n) refl in
      let ne : h ≢ x = (λ p. out (subst (IsMember h) (sym shape) (inl p))) in
      subst (λ z. IsBefore (with_element h z) (x ∷ xs)) (sym shape) (elim (cases_lt h x) [
        | inl lt ↦ rw (ne_eqb h x ne, lt-ltb h x lt) (inl lt)
        | inr ge ↦
            rw (ne_eqb h x ne, le-ltb h x ge)
            (inr (refl, exchanged_before (low + 1) m e h xs s k' l (λ j. out (subst (IsMember h) (sym shape) (inr j)))))
      ])
]

-- an element of the first list that is not in the second, and less than all that are only in the second
pub record IsFirstNew (xs ys : List ℕ) : Type 0 where
  pub element : ℕ
  pub inside : IsMember element xs
  pub outside : IsMember element ys → ⊥
  pub less : (f : ℕ) → IsMember f ys → (IsMember f xs → ⊥) → element < f

-- past the numbers that both lists may begin with
pub first_new : (low m : ℕ) (xs ys : List ℕ) → IsSubsetFrom low m xs → IsSubsetFrom low m ys → length xs ≡ length ys
    → IsBefore xs ys → IsFirstNew xs ys
first_new low m [] [] hx hy l b = absurd b
first_new low m [] (y ∷ ys) hx hy l b = absurd (omega arith)
first_new low m (x ∷ xs) [] hx hy l b = absurd b
first_new low zero (x ∷ xs) (y ∷ ys) hx hy l b = absurd hx
first_new low (suc m) (x ∷ xs) (y ∷ ys) (inl (q, hx)) (inl (p, hy)) l (inl lt) = absurd (omega arith)
first_new low (suc m) (x ∷ xs) (y ∷ ys) (inl (q, hx)) (inl (p, hy)) l (inr (e, b)) =
    let r = first_new (low + 1) m xs ys hx hy (omega arith) b in
    let i = r.inside in
    let low' = (members_from (low + 1) m r.element xs hx i).0 in
    record {
      element = r.element;
      inside = inr i;
      outside = λ k. ⊎_elim (λ z. absurd (omega (arith, z, p, low'))) (λ j. r.outside j) k;
      less = λ f k out. ⊎_elim (λ z. absurd (out (inl (z ∙ sym e)))) (λ j. r.less f j (λ o. out (inr o))) k;
    }
first_new low (suc m) (x ∷ xs) (y ∷ ys) (inl (q, hx)) (inr (p, hy)) l b = record {
  element = x;
  inside = inl refl;
  outside = λ k. let a = (members_from (low + 1) m x (y ∷ ys) hy k).0 in omega (arith, a, q);
  less = λ f k out. let a = (members_from (low + 1) m f (y ∷ ys) hy k).0 in omega (arith, a, q);
}
first_new low (suc m) (x ∷ xs) (y ∷ ys) (inr (q, hx)) (inl (p, hy)) l b =
    let a = (members_from (low + 1) m x (x ∷ xs) hx (inl refl)).0 in
    absurd (⊎_elim (λ lt. omega (arith, lt, a, p)) (λ e. let z = e.0 in omega (arith, z, a, p)) b)
first_new low (suc m) (x ∷ xs) (y ∷ ys) (inr (q, hx)) (inr (p, hy)) l b =
    first_new (low + 1) m (x ∷ xs) (y ∷ ys) hx hy l b
