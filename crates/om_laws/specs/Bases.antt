-- Bases of a chirotope: their exchange, and their fundamental circuits and cocircuits.
--
-- Reference: Björner, Las Vergnas, Sturmfels, White and Ziegler, Oriented Matroids, chapter 3.
use Rattle.std.specs.Prelude.{ℕ, ◌≡◌, ◌⊎◌, ◌↔◌, List, [], ◌∷◌, ◌++◌}
use Rattle.om_signs.specs.declared.sign.Sign.{Sign}
use Rattle.om_signs.specs.declared.sign.Sign.TheVariants.{Zero}
use Rattle.om_laws.specs.Signs.{IsNonzero}
use Rattle.om_laws.specs.Members.{IsMember}
use Rattle.om_laws.specs.Sorting.{IsIncreasing}
use Rattle.om_laws.specs.Vectors.{SignVector}
use Rattle.om_laws.specs.Circuits.{IsCircuit, IsCocircuit}

-- a basis: a tuple with a nonzero value
abbrev pub IsBase : (List ℕ → Sign) → List ℕ → Type 0
IsBase chi t = IsNonzero (chi t)

-- for an element e of a basis, and a basis c without e, some element of c can take the place of e
abbrev pub HasExchange : (List ℕ → Sign) → Type 0
HasExchange chi = (u : List ℕ) (e : ℕ) (v c : List ℕ) → IsBase chi (u ++ e ∷ v) → IsBase chi c → (IsMember e c → ⊥)
    → (h : ℕ) × IsMember h c × (IsMember h (u ++ e ∷ v) → ⊥) × IsBase chi (u ++ h ∷ v)

-- exchange for increasing lists: if a and e make a basis, some element of each basis c makes one with a
abbrev pub HasIncreasingExchange : (List ℕ → Sign) → Type 0
HasIncreasingExchange chi = (a c : List ℕ) (e : ℕ) → IsIncreasing a → IsIncreasing c → IsBase chi (a ++ e ∷ [])
    → IsBase chi c → (h : ℕ) × IsMember h c × IsBase chi (a ++ h ∷ [])

-- some element h of c takes the place of e, and e takes the place of h in c
abbrev pub SymmetricExchange : (List ℕ → Sign) → List ℕ → ℕ → List ℕ → List ℕ → Type 0
SymmetricExchange chi u e v c = (h : ℕ) × (p : List ℕ) × (q : List ℕ) × (c ≡ p ++ h ∷ q) × (IsMember h (u ++ e ∷ v) → ⊥)
    × IsBase chi (u ++ h ∷ v) × IsBase chi (p ++ e ∷ q)

-- the circuit of a basis and e: nonzero at e, zero off both, and nonzero at an element of the basis exactly if e
-- can take its place
pub record IsFundamentalCircuit (E : List ℕ) (chi : List ℕ → Sign) (t : List ℕ) (e : ℕ) (X : SignVector) : Type 0 where
  pub circuit : IsCircuit E chi X
  pub at_element : IsNonzero (X e)
  pub support : (g : ℕ) → IsNonzero (X g) → IsMember g t ⊎ (g ≡ e)
  pub exchange : (u : List ℕ) (g : ℕ) (v : List ℕ) → t ≡ u ++ g ∷ v → IsNonzero (X g) ↔ IsBase chi (u ++ e ∷ v)

-- the cocircuit of a basis and its element e: nonzero at e, zero at the others, and nonzero exactly at the elements
-- that can take the place of e
pub record IsFundamentalCocircuit (chi : List ℕ → Sign) (u : List ℕ) (e : ℕ) (v : List ℕ) (Y : SignVector) : Type
    0 where
  pub cocircuit : IsCocircuit chi Y
  pub at_element : IsNonzero (Y e)
  pub others : (g : ℕ) → IsMember g (u ++ v) → Y g ≡ Zero
  pub exchange : (g : ℕ) → IsNonzero (Y g) ↔ IsBase chi (u ++ g ∷ v)
