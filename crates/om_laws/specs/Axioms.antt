-- The axioms of circuits and cocircuits, and those of vectors and covectors.
--
-- Reference: Björner, Las Vergnas, Sturmfels, White and Ziegler, Oriented Matroids, chapters 3 and 4.
use Rattle.std.specs.Prelude.{ℕ, ◌≡◌, ◌⊎◌}
use Rattle.om_signs.specs.declared.sign.Sign.TheVariants.{Zero}
use Rattle.om_signs.specs.Sign.{opposite}
use Rattle.om_laws.specs.Signs.{IsNonzero}
use Rattle.om_laws.specs.Vectors.{SignVector, zero_vector, negated, composition, HasNonzero, HasSupportIn}
use Rattle.om_laws.specs.Vectors.{AreEqualUpToSign}

-- the signs at an element are nonzero and opposite
abbrev pub AreSeparatedAt : SignVector → SignVector → ℕ → Type 0
AreSeparatedAt X Y e = IsNonzero (X e) × (X e ≡ opposite (Y e))

-- each nonzero sign of Z is that of X or that of Y
abbrev pub IsFromEither : SignVector → SignVector → SignVector → Type 0
IsFromEither X Y Z = (g : ℕ) → IsNonzero (Z g) → (Z g ≡ X g) ⊎ (Z g ≡ Y g)

-- the axioms of circuits, and of cocircuits
pub record CircuitAxioms (D : SignVector → Type 0) : Type 0 where
  pub nonzero : (X : SignVector) → D X → HasNonzero X
  pub negation : (X : SignVector) → D X → D (negated X)
  pub incomparable : (X Y : SignVector) → D X → D Y → HasSupportIn X Y → AreEqualUpToSign X Y
  pub elimination : (X Y : SignVector) → D X → D Y → (((g : ℕ) → X g ≡ opposite (Y g)) → ⊥) → (e : ℕ)
      → AreSeparatedAt X Y e → (Z : SignVector) × D Z × (Z e ≡ Zero) × IsFromEither X Y Z

-- the axioms of covectors, and of vectors
pub record CovectorAxioms (L : SignVector → Type 0) : Type 0 where
  pub zero : L zero_vector
  pub negation : (X : SignVector) → L X → L (negated X)
  pub composition_closed : (X Y : SignVector) → L X → L Y → L (composition X Y)
  pub elimination : (X Y : SignVector) → L X → L Y → (e : ℕ) → AreSeparatedAt X Y e → (Z : SignVector) × L Z
      × (Z e ≡ Zero) × ((g : ℕ) → (AreSeparatedAt X Y g → ⊥) → Z g ≡ composition X Y g)
