-- Pairs of sets of sign vectors that are orthogonal to each other, and rich enough.
--
-- Main definitions: IsDualPair, what the circuits and the cocircuits of an oriented matroid have in common.
-- Main results: the pair in the other order (dual_pair_swapped); the circuits and the cocircuits of a chirotope are
-- such a pair (dual_pair, swapped_pair).
-- Reference: Björner, Las Vergnas, Sturmfels, White and Ziegler, Oriented Matroids, chapter 3.
use Rattle.std.specs.Prelude.{ℕ, ◌≡◌, ◌≢◌, refl, ◌⊎◌, List, cond, nat_eq, Bool, true, false}
use Rattle.std.proofs.Common.{inl, inr, subst, ⊎_elim}
use Rattle.std.proofs.lemmas.Bool.{cases_eq, eq-eqb, ne_eqb, both_ways}
use Rattle.om_signs.specs.declared.sign.Sign.{Sign}
use Rattle.om_signs.specs.declared.sign.Sign.TheVariants.{Zero}
use Rattle.om_signs.specs.Sign.{product}
use Rattle.om_laws.specs.Members.{IsMember}
use Rattle.om_laws.specs.Signs.{IsNonzero}
use Rattle.om_laws.specs.Vectors.{SignVector, negated, Orthogonal, HasNonzero, IsSupportedOn}
use Rattle.om_laws.specs.Chirotope.{IsChirotope}
use Rattle.om_laws.specs.Circuits.{IsCircuit, IsCocircuit}
use Rattle.om_laws.proofs.BaseLaws.{circuit_negated, cocircuit_negated, circuit_orthogonal}
use Rattle.om_laws.proofs.FundamentalCircuits.{two_colours}
use Rattle.om_laws.proofs.TwoElements.{circuit_supported, cocircuit_supported, circuit_through_two}
use Rattle.om_laws.proofs.TwoElements.{cocircuit_through_two}
use Rattle.om_laws.proofs.VectorLaws.{orthogonal_sym}

-- two sets of sign vectors on a list of elements: closed under negation, orthogonal to each other, and rich enough
pub record IsDualPair (E : List ℕ) (C D : SignVector → Type 0) : Type 0 where
  pub negated_circuit : (X : SignVector) → C X → C (negated X)
  pub negated_cocircuit : (Y : SignVector) → D Y → D (negated Y)
  pub circuit_nonzero : (X : SignVector) → C X → HasNonzero X
  pub cocircuit_nonzero : (Y : SignVector) → D Y → HasNonzero Y
  pub circuit_supported : (X : SignVector) → C X → IsSupportedOn E X
  pub cocircuit_supported : (Y : SignVector) → D Y → IsSupportedOn E Y
  pub orthogonal : (X Y : SignVector) → C X → D Y → Orthogonal X Y
  pub two_colours : (e : ℕ) → IsMember e E → (b : ℕ → Bool) → b e ≡ false
      → ((X : SignVector) × C X × IsNonzero (X e) × ((g : ℕ) → g ≢ e → b g ≡ false → X g ≡ Zero))
      ⊎ ((Y : SignVector) × D Y × IsNonzero (Y e) × ((g : ℕ) → b g ≡ true → Y g ≡ Zero))
  pub circuit_through_two : (Y : SignVector) → D Y → (e h : ℕ) → h ≢ e → IsNonzero (Y e) → IsNonzero (Y h)
      → (U : SignVector) × C U × IsNonzero (U e) × IsNonzero (U h)
      × ((g : ℕ) → g ≢ e → g ≢ h → product (U g) (Y g) ≡ Zero)
  pub cocircuit_through_two : (Y : SignVector) → C Y → (e h : ℕ) → h ≢ e → IsNonzero (Y e) → IsNonzero (Y h)
      → (U : SignVector) × D U × IsNonzero (U e) × IsNonzero (U h)
      × ((g : ℕ) → g ≢ e → g ≢ h → product (U g) (Y g) ≡ Zero)

-- off the set and off e
abbrev pub off_both : ℕ → (ℕ → Bool) → ℕ → Bool
off_both e b g = cond (nat_eq g e) false (cond (b g) false true)

off_both_at : (e : ℕ) (b : ℕ → Bool) → off_both e b e ≡ false
off_both_at e b = rw (eq-eqb e e refl) refl

off_both_in : (e : ℕ) (b : ℕ → Bool) (g : ℕ) → b g ≡ true → off_both e b g ≡ false
off_both_in e b g q = elim (cases_eq g e) [ inl s ↦ rw (eq-eqb g e s) refl | inr ne ↦ rw (ne_eqb g e ne, q) refl ]

off_both_out : (e : ℕ) (b : ℕ → Bool) (g : ℕ) → g ≢ e → b g ≡ false → off_both e b g ≡ true
off_both_out e b g ne q = rw (ne_eqb g e ne, q) refl

pub dual_pair_swapped : (E : List ℕ) (C D : SignVector → Type 0) → IsDualPair E C D → IsDualPair E D C
dual_pair_swapped E C D p = record {
  negated_circuit = p.negated_cocircuit;
  negated_cocircuit = p.negated_circuit;
  circuit_nonzero = p.cocircuit_nonzero;
  cocircuit_nonzero = p.circuit_nonzero;
  circuit_supported = p.cocircuit_supported;
  cocircuit_supported = p.circuit_supported;
  orthogonal = λ X Y x y. orthogonal_sym Y X (p.orthogonal Y X y x);
  two_colours = λ e m b q. ⊎_elim
      (λ k. inr (
        k.0,
        k.1,
        k.2,
        λ g t. k.3 g (λ s. both_ways (b e) q (subst (λ z. b z ≡ true) s t))
            (off_both_in e b g t),
      ))
      (λ k. inl (k.0, k.1, k.2, λ g ne f. k.3 g (off_both_out e b g ne f)))
      (p.two_colours e m (off_both e b) (off_both_at e b));
  circuit_through_two = p.cocircuit_through_two;
  cocircuit_through_two = p.circuit_through_two;
}

-- ---- the pair of a chirotope

module _ (E : List ℕ) (chi : List ℕ → Sign) (om : IsChirotope E chi) where
  -- the circuits and the cocircuits of a chirotope are a dual pair
  pub dual_pair : IsDualPair E (IsCircuit E chi) (IsCocircuit chi)
  dual_pair = record {
    negated_circuit = circuit_negated E chi;
    negated_cocircuit = cocircuit_negated chi;
    circuit_nonzero = λ X c. c.nonzero;
    cocircuit_nonzero = λ X c. c.nonzero;
    circuit_supported = circuit_supported E chi om;
    cocircuit_supported = cocircuit_supported E chi om;
    orthogonal = circuit_orthogonal E chi om;
    two_colours = λ e m b q. two_colours E chi om e m b q om.base.0 om.base.1;
    circuit_through_two = circuit_through_two E chi om;
    cocircuit_through_two = cocircuit_through_two E chi om;
  }

  -- the cocircuits and the circuits of a chirotope, in this order, are a dual pair too
  pub swapped_pair : IsDualPair E (IsCocircuit chi) (IsCircuit E chi)
  swapped_pair = dual_pair_swapped E (IsCircuit E chi) (IsCocircuit chi) dual_pair
