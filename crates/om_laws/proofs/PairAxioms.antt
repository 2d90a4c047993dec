-- The axioms of cocircuits and of covectors, for a dual pair of sets of sign vectors.
--
-- Main results: the cocircuits meet the circuit axioms (cocircuit_axioms) and the covectors the covector axioms
-- (covector_axioms); a covector with its support in that of a cocircuit is the cocircuit up to its sign (incomparable).
-- For circuits and vectors, take the pair in the other order.
-- Reference: Björner, Las Vergnas, Sturmfels, White and Ziegler, Oriented Matroids, chapters 3 and 4.
use Rattle.std.specs.Prelude.{ℕ, ◌≡◌, ◌≢◌, refl, ◌⊎◌, List}
use Rattle.std.proofs.Common.{arith, inl, inr, sym, ◌∙◌, subst, ⊎_elim}
use Rattle.std.proofs.lemmas.Bool.{cases_eq}
use Rattle.om_signs.specs.declared.sign.Sign.{Sign}
use Rattle.om_signs.specs.declared.sign.Sign.TheVariants.{Minus, Zero, Plus}
use Rattle.om_signs.specs.Sign.{opposite, product, first_nonzero}
use Rattle.om_signs.proofs.SignLaws.{plus_nonzero, minus_nonzero, zero_or_nonzero, opposite_nonzero, opposite_zero}
use Rattle.om_signs.proofs.SignLaws.{opposite_or_not, first_nonzero_right, equal_or_opposite, product_nonzero}
use Rattle.om_signs.proofs.SignLaws.{product_comm, product_zero_left}
use Rattle.om_laws.specs.Axioms.{AreSeparatedAt, CircuitAxioms, CovectorAxioms}
use Rattle.om_laws.specs.Covectors.{IsCovectorOf, IsOrthogonalToAll}
use Rattle.om_laws.specs.Signs.{IsNonzero}
use Rattle.om_laws.specs.Vectors.{SignVector, composition, IsSupportedOn}
use Rattle.om_laws.proofs.DualPairs.{IsDualPair}
use Rattle.om_laws.proofs.MemberLaws.{search_members}
use Rattle.om_laws.proofs.PairElimination.{composition_supported, elimination_at, covector_composition}
use Rattle.om_laws.proofs.PairElimination.{covector_negated, covector_zero, vector_elimination}
use Rattle.om_laws.proofs.VectorLaws.{orthogonal_sym, two_places}

same_product : (x y xe ye u ue : Sign) → product x u ≡ opposite (product xe ue) → product y u ≡ opposite (product ye ue)
    → xe ≡ ye → IsNonzero u → IsNonzero ue → IsNonzero xe → x ≡ y
same_product x y xe ye u ue a b e n m k = grind arith

product_zero_at : (s u y : Sign) → IsNonzero y → product u y ≡ Zero → product s u ≡ Zero
product_zero_at s u y n e = grind arith

-- some element where the two vectors are not opposite
pub not_opposite_at : (E : List ℕ) (X Y : SignVector) → IsSupportedOn E X → IsSupportedOn E Y
    → (((g : ℕ) → X g ≡ opposite (Y g)) → ⊥) → (h : ℕ) × (X h ≡ opposite (Y h) → ⊥)
not_opposite_at E X Y ox oy ne =
    ⊎_elim
    (λ k. (k.0, k.2))
    (λ all. absurd (ne (λ g. ⊎_elim (λ q. q)
    (λ o. ⊎_elim
    (λ zx. ⊎_elim (λ zy. zx ∙ sym (opposite_zero (Y g) zy)) (λ n. all g (oy g n)) (zero_or_nonzero (Y g)))
    (λ n. all g (ox g n))
    (zero_or_nonzero (X g)))
    (opposite_or_not (X g) (Y g)))))
    (search_members (λ g. X g ≡ opposite (Y g) → ⊥) (λ g. X g ≡ opposite (Y g))
    (λ g. ⊎_elim (λ q. inr q) (λ o. inl o) (opposite_or_not (X g) (Y g))) E)

pub nonzero_composition : (s t : Sign) → (s ≡ opposite t → ⊥) → IsNonzero (first_nonzero s t)
nonzero_composition Minus t o = minus_nonzero
nonzero_composition Zero Minus o = minus_nonzero
nonzero_composition Zero Zero o = absurd (o refl)
nonzero_composition Zero Plus o = plus_nonzero
nonzero_composition Plus t o = plus_nonzero

module _ (E : List ℕ) (C D : SignVector → Type 0) (pair : IsDualPair E C D) where
  -- a vector orthogonal to all circuits, with its support in that of a cocircuit, is the cocircuit up to sign
  equal_on_support : (X Y : SignVector) → IsOrthogonalToAll C X → D Y → ((g : ℕ) → IsNonzero (X g) → IsNonzero (Y g))
      → (e : ℕ) → IsNonzero (X e) → X e ≡ Y e → (h : ℕ) → X h ≡ Y h
  equal_on_support X Y cx dy sub e n q h =
      ⊎_elim
      (λ z. ⊎_elim (λ x. x ∙ sym z) (λ m. absurd (sub h m z)) (zero_or_nonzero (X h)))
      (λ nh. ⊎_elim
      (λ r. subst (λ j. X j ≡ Y j) (sym r) q)
      (λ ne.
      let ye : IsNonzero (Y e) = subst IsNonzero q n in
      let u = pair.circuit_through_two Y dy e h ne ye nh in
      let zx : (g : ℕ) → g ≢ e → g ≢ h → product (X g) (u.0 g) ≡ Zero =
      λ g a b. ⊎_elim (λ z. product_zero_left (X g) (u.0 g) z)
      (λ m. product_zero_at (X g) (u.0 g) (Y g) (sub g m) (u.4 g a b)) (zero_or_nonzero (X g)) in
      let zy : (g : ℕ) → g ≢ e → g ≢ h → product (Y g) (u.0 g) ≡ Zero = λ g a b. product_comm (Y g) (u.0 g)
      ∙ u.4 g a b in
      let kx = two_places X u.0 (cx u.0 u.1) e h zx (product_nonzero (X e) (u.0 e) n u.2) in
      let ky = two_places Y u.0 (orthogonal_sym u.0 Y (pair.orthogonal u.0 Y u.1 dy)) e h zy
      (product_nonzero (Y e) (u.0 e) ye u.2) in
      same_product (X h) (Y h) (X e) (Y e) (u.0 h) (u.0 e) kx ky q u.3 u.2 n)
      (cases_eq h e))
      (zero_or_nonzero (Y h))

  pub incomparable : (X Y : SignVector) → IsOrthogonalToAll C X → D Y → ((g : ℕ) → IsNonzero (X g) → IsNonzero (Y g))
      → (e : ℕ) → IsNonzero (X e) → ((h : ℕ) → X h ≡ Y h) ⊎ ((h : ℕ) → X h ≡ opposite (Y h))
  incomparable X Y cx dy sub e n =
      ⊎_elim
      (λ q. inl (equal_on_support X Y cx dy sub e n q))
      (λ q. inr
      (equal_on_support X (λ g. opposite (Y g)) cx (pair.negated_cocircuit Y dy)
      (λ g m. opposite_nonzero (Y g) (sub g m)) e n q))
      (equal_or_opposite (X e) (Y e) n (sub e n))

  pub cocircuit_orthogonal : (Y : SignVector) → D Y → IsOrthogonalToAll C Y
  cocircuit_orthogonal Y d V v = orthogonal_sym V Y (pair.orthogonal V Y v d)

  pub cocircuit_is_covector : (Y : SignVector) → D Y → IsCovectorOf E C Y
  cocircuit_is_covector Y d = record { orthogonal = cocircuit_orthogonal Y d; supported = pair.cocircuit_supported Y d }

  pub cocircuit_axioms : CircuitAxioms D
  cocircuit_axioms = record {
    nonzero = pair.cocircuit_nonzero;
    negation = pair.negated_cocircuit;
    incomparable =
        λ X Y dx dy sub. (let n = pair.cocircuit_nonzero X dx in
        incomparable X Y (cocircuit_orthogonal X dx) dy sub n.0 n.1);
    elimination = λ X Y dx dy ne e s.
        let h = not_opposite_at E X Y (pair.cocircuit_supported X dx) (pair.cocircuit_supported Y dy) ne in
        let z = elimination_at E C D pair pair.cocircuit_supported X Y dx dy e h.0 s.1 s.0
        (nonzero_composition (X h.0) (Y h.0) h.1) h.1 in
        (z.0, z.1, z.2, z.4);
  }

  composition_zero_off : (X Y Z : SignVector) → IsSupportedOn E X → IsSupportedOn E Y
      → ((g : ℕ) → (AreSeparatedAt X Y g → ⊥) → Z g ≡ composition X Y g) → IsSupportedOn E Z
  composition_zero_off X Y Z ox oy z g n = ⊎_elim
      (λ zx. ⊎_elim
      (λ zy. absurd (n (z g (λ s. s.0 zx) ∙ first_nonzero_right (X g) (Y g) zx ∙ zy)))
      (λ m. oy g m)
      (zero_or_nonzero (Y g)))
      (λ m. ox g m)
      (zero_or_nonzero (X g))

  pub covector_axioms : CovectorAxioms (IsCovectorOf E C)
  covector_axioms = record {
    zero = record { orthogonal = covector_zero E C D pair; supported = λ g n. absurd (n refl) };
    negation =
        λ X x. record {
          orthogonal = covector_negated E C D pair X x.orthogonal;
          supported =
              λ g n. x.supported g (λ z. n (opposite_zero (X g) z));
        };
    composition_closed =
        λ X Y x y. record {
          orthogonal = covector_composition E C D pair X Y x.orthogonal y.orthogonal;
          supported =
              composition_supported E C D pair X Y x.supported y.supported;
        };
    elimination = λ X Y x y e s.
        let z = vector_elimination E C D pair X Y x.supported y.supported x.orthogonal y.orthogonal e s.1 in
        let off : (g : ℕ) → (AreSeparatedAt X Y g → ⊥) → z.0 g ≡ composition X Y g = λ g o. z.3 g (λ n q. o (n, q)) in (
          z.0,
          record { orthogonal = z.1; supported = composition_zero_off X Y z.0 x.supported y.supported off },
          z.2,
          off,
        );
  }
