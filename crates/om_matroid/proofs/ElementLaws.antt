-- Loops and coloops, by what the walks tell.
--
-- Main results: no basis is with e exactly where e is a loop (loop_both), and none without e exactly where it is a
-- coloop (coloop_both).
use Rattle.std.proofs.Common.{ℕ, ◌≡◌, ◌↔◌, List, [], ◌∷◌, refl, sym, subst, ◌∙◌, inl, inr, not, Bool, true, false}
use Rattle.std.proofs.Common.{IsTrue}
use Rattle.om_subsets.specs.Subsets.{IsMember}
use Rattle.om_laws.proofs.MemberLaws.{member_or_not}
use Rattle.om_chirotope.specs.Map.{SignMap}
use Rattle.om_matroid.specs.Bases.{IsLoop, IsColoop}
use Rattle.om_chirotope.specs.ThreeTerm.{IsBasis}
use Rattle.om_matroid.specs.Search.{IsBasisBetween}

-- a test that negates another
pub none_both : (some none : Bool) {P Q : Type 0} → some ≡ not none → (some ≡ false) ↔ P → P ↔ Q → IsTrue none ↔ Q
none_both some true e p q = (λ t. q.0 (p.0 e), λ h. refl)
none_both some false e p q = (λ t. cc, λ h. sym (p.1 (q.1 h)) ∙ e)

module _ (m : SignMap) (e : ℕ) where
  no_basis_with : ((b : List ℕ) → IsBasisBetween m (e ∷ []) [] b → ⊥) ↔ IsLoop m e
  no_basis_with = (
    λ none b basis k. none b (record { basis = basis; contains = with_member b k; avoids = λ f h l. h }),
    λ loop b between. loop b between.basis (between.contains e (inl refl)),
  )
    where
      with_member : (b : List ℕ) → IsMember e b → (f : ℕ) → IsMember f (e ∷ []) → IsMember f b
      with_member b k f (inl q) = subst (λ g. IsMember g b) (sym q) k
      with_member b k f (inr none) = absurd none

  pub loop_both : (inside outside : List ℕ) → inside ≡ e ∷ [] → outside ≡ []
      → ((b : List ℕ) → IsBasisBetween m inside outside b → ⊥) ↔ IsLoop m e
  loop_both inside outside p q =
      subst (λ i. ((b : List ℕ) → IsBasisBetween m i outside b → ⊥) ↔ IsLoop m e) (sym p)
      (subst (λ o. ((b : List ℕ) → IsBasisBetween m (e ∷ []) o b → ⊥) ↔ IsLoop m e) (sym q) no_basis_with)

  no_basis_without : ((b : List ℕ) → IsBasisBetween m [] (e ∷ []) b → ⊥) ↔ IsColoop m e
  no_basis_without =
      (λ none b basis. inside none b basis, λ coloop b between. between.avoids e (inl refl) (coloop b between.basis))
    where
      without : (b : List ℕ) → (IsMember e b → ⊥) → (f : ℕ) → IsMember f (e ∷ []) → IsMember f b → ⊥
      without b fresh f (inl q) k = fresh (subst (λ g. IsMember g b) q k)
      without b fresh f (inr none) k = none

      inside : ((b : List ℕ) → IsBasisBetween m [] (e ∷ []) b → ⊥) → (b : List ℕ) → IsBasis m b → IsMember e b
      inside none b basis = elim (member_or_not e b) [
        | inl k ↦ k
        | inr fresh ↦ absurd (none b (record { basis = basis; contains = λ f k. absurd k; avoids = without b fresh }))
      ]

  pub coloop_both : (inside outside : List ℕ) → inside ≡ [] → outside ≡ e ∷ []
      → ((b : List ℕ) → IsBasisBetween m inside outside b → ⊥) ↔ IsColoop m e
  coloop_both inside outside p q =
      subst (λ i. ((b : List ℕ) → IsBasisBetween m i outside b → ⊥) ↔ IsColoop m e) (sym p)
      (subst (λ o. ((b : List ℕ) → IsBasisBetween m [] o b → ⊥) ↔ IsColoop m e) (sym q) no_basis_without)
