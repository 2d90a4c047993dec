-- When two families have the same sign vectors of one length, and the first vector in which they differ.
--
-- Reference: Björner, Las Vergnas, Sturmfels, White and Ziegler, Oriented Matroids, chapters 3 and 4.
use Rattle.std.specs.Prelude.{ℕ, ◌≡◌, ◌↔◌, ◌⊎◌, List, length}
use Rattle.std.specs.declared.cmp.Ordering.TheVariants.{Less}
use Rattle.om_signs.specs.declared.sign.Sign.{Sign}
use Rattle.om_signs.specs.Order.{lexicographic}

-- both families have the same covectors with n signs: they denote the same oriented matroid
abbrev pub DenoteTheSame : ℕ → (List Sign → Type 0) → (List Sign → Type 0) → Type 0
DenoteTheSame n P Q = (X : List Sign) → length X ≡ n → P X ↔ Q X

-- a covector of exactly one of the two
abbrev pub IsOfOneAlone : (List Sign → Type 0) → (List Sign → Type 0) → List Sign → Type 0
IsOfOneAlone P Q X = (P X × (Q X → ⊥)) ⊎ ((P X → ⊥) × Q X)

-- some list of n signs is a covector of exactly one of the two
abbrev pub HaveDifference : ℕ → (List Sign → Type 0) → (List Sign → Type 0) → Type 0
HaveDifference n P Q = (X : List Sign) × (length X ≡ n) × IsOfOneAlone P Q X

-- X is a covector of exactly one of the two, and each list of n signs that comes before it lexicographically is a
-- covector of both or of neither
pub record IsFirstDifference (n : ℕ) (P Q : List Sign → Type 0) (X : List Sign) : Type 0 where
  pub size : length X ≡ n
  pub differs : IsOfOneAlone P Q X
  pub first : (Y : List Sign) → length Y ≡ n → lexicographic Y X ≡ Less → P Y ↔ Q Y
