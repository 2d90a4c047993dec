-- Loops, coloops and parallel elements of a chirotope.
--
-- Reference: Björner, Las Vergnas, Sturmfels, White and Ziegler, Oriented Matroids, chapter 3.
use Rattle.std.specs.Prelude.{ℕ, List, ◌∷◌, ◌++◌}
use Rattle.om_signs.specs.declared.sign.Sign.{Sign}
use Rattle.om_laws.specs.Members.{IsMember}
use Rattle.om_laws.specs.Bases.{IsBase}

-- an element of no basis
abbrev pub IsLoop : (List ℕ → Sign) → ℕ → Type 0
IsLoop chi e = (t : List ℕ) → IsBase chi t → IsMember e t → ⊥

-- an element of every basis
abbrev pub IsColoop : (List ℕ → Sign) → ℕ → Type 0
IsColoop chi e = (t : List ℕ) → IsBase chi t → IsMember e t

-- an element of some basis
abbrev pub IsInBase : (List ℕ → Sign) → ℕ → Type 0
IsInBase chi e = (u : List ℕ) × (v : List ℕ) × IsBase chi (u ++ e ∷ v)

-- each is an element of some basis, and no basis contains both
pub record AreParallel (chi : List ℕ → Sign) (e h : ℕ) : Type 0 where
  pub first : IsInBase chi e
  pub second : IsInBase chi h
  pub apart : (t : List ℕ) → IsBase chi t → IsMember e t → IsMember h t → ⊥
