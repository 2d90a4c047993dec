-- Increasing lists with their last element: such a list has it at its end, or not at all.
--
-- Main results: end_or_not
-- Reference: Björner, Las Vergnas, Sturmfels, White and Ziegler, Oriented Matroids, chapter 7.
use Rattle.std.proofs.Common.{ℕ, suc, ◌≡◌, ◌+◌, ◌⊎◌, List, [], ◌∷◌, ◌++◌, true, false, refl, sym, ap, subst, inl, inr}
use Rattle.std.proofs.Common.{⊎_elim, arith}
use Rattle.std.proofs.lemmas.Bool.{cases_eq, eq-eqb, ne_eqb}
use Rattle.om_subsets.specs.Subsets.{IsSubsetFrom, IsMember, without_element}
use Rattle.om_subsets.proofs.Order.{members_from}
use Rattle.om_subsets.proofs.ReversePlaces.{split_last}
use Rattle.om_lexext.specs.Lexicographic.{has}

-- ---- increasing lists with their last element

pub off_last : (n : ℕ) (A : List ℕ) → IsSubsetFrom 1 n A → IsMember (n + 1) A → ⊥
off_last n A h k = let c = (members_from 1 n (n + 1) A h k).1 in omega (arith, c)

pub has_member : (g : ℕ) (xs : List ℕ) → IsMember g xs → has g xs ≡ true
has_member g [] k = absurd k
has_member g (x ∷ xs) k = elim (cases_eq x g) [
  | inl q ↦ rw (eq-eqb x g q) refl
  | inr n ↦ rw (ne_eqb x g n) (has_member g xs (⊎_elim (λ e. absurd (n (sym e))) (λ j. j) k))
]

pub has_not : (g : ℕ) (xs : List ℕ) → (IsMember g xs → ⊥) → has g xs ≡ false
has_not g [] k = refl
has_not g (x ∷ xs) k = rw (ne_eqb x g (λ q. k (inl (sym q)))) (has_not g xs (λ j. k (inr j)))

pub without_end : (g : ℕ) (A : List ℕ) → (IsMember g A → ⊥) → without_element g (A ++ g ∷ []) ≡ A
without_end g [] n = rw (eq-eqb g g refl) refl
without_end g (x ∷ A) n = rw (ne_eqb g x (λ q. n (inl q))) (ap (λ l. x ∷ l) (without_end g A (λ k. n (inr k))))

pub suc_plus : (n : ℕ) → suc n ≡ n + 1
suc_plus n = omega arith

abbrev EndsWithLast : ℕ → List ℕ → Type 0
EndsWithLast n xs = (A : List ℕ) × IsSubsetFrom 1 n A × (xs ≡ A ++ (n + 1) ∷ [])

-- an increasing list of 1 to n + 1 has n + 1 at its end, or not at all
pub end_or_not : (n : ℕ) (xs : List ℕ) → IsSubsetFrom 1 (n + 1) xs → EndsWithLast n xs ⊎ IsSubsetFrom 1 n xs
end_or_not n xs h =
    elim (split_last 1 n (n + 1) xs (omega arith) (subst (λ k. IsSubsetFrom 1 k xs) (sym (suc_plus n)) h)) [
      | inl s ↦ inr s
      | inr k ↦ inl (k.front, k.lawful, k.whole)
    ]
