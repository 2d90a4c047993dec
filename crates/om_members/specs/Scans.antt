-- Definitions for scans of a list of members. Places in a list count from 0 here.
use Rattle.std.specs.Prelude.{ℕ, ◌<◌, List, [], slice_index_or}
use Rattle.std.specs.List.{Contains}
use Rattle.om_signs.specs.declared.sign.Sign.{Sign}
use Rattle.om_members.specs.Vectors.{negated}

-- the member at a place
abbrev pub nth : List (List Sign) → ℕ → List Sign
nth members k = slice_index_or members k []

-- each number below n is good
abbrev pub AllBelow : ℕ → (ℕ → Type 0) → Type 0
AllBelow n Good = (k : ℕ) → k < n → Good k

-- the number is below n, and isn't good
pub record IsBadBelow (n : ℕ) (Good : ℕ → Type 0) (k : ℕ) : Type 0 where
  pub within : k < n
  pub not_good : Good k → ⊥

-- the first bad number below n: all numbers before it are good
pub record IsFirstBad (n : ℕ) (Bad Good : ℕ → Type 0) (k : ℕ) : Type 0 where
  pub within : k < n
  pub bad : Bad k
  pub before : AllBelow k Good

-- the first bad pair of numbers below n and m: all pairs before it, by the first number and then by the second, are
-- good
pub record IsFirstBadPair (n m : ℕ) (Bad Good : ℕ → ℕ → Type 0) (i j : ℕ) : Type 0 where
  pub within : i < n
  pub second : IsFirstBad m (Bad i) (Good i) j
  pub before : AllBelow i (λ a. AllBelow m (Good a))

-- the negative of the member at a place is a member
abbrev pub HasNegativeAt : List (List Sign) → ℕ → Type 0
HasNegativeAt members k = Contains members (negated (nth members k))

-- the negative of the member at a place is no member
abbrev pub HasNoNegativeAt : List (List Sign) → ℕ → Type 0
HasNoNegativeAt members k = HasNegativeAt members k → ⊥
