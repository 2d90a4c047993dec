-- The order of statements, and the places of the lawful ones in it.
use Rattle.std.specs.Prelude.{ℕ, ◌≡◌, ◌≤◌, ◌⊎◌, ◌↔◌, List, [], ◌∷◌, length}
use Rattle.std.specs.List.{Contains}
use Rattle.om_subsets.specs.Lists as lists
use Rattle.om_chirotope.specs.Map.{SignMap}
use Rattle.om_grassmann.specs.declared.statement.Statement.{Statement}
use Rattle.om_grassmann.specs.Statements.{IsLawful}

-- the numbers by which statements are ordered
abbrev pub numbers : Statement → List ℕ
numbers st = st.a ∷ st.b ∷ st.c ∷ st.d ∷ st.e ∷ st.small ∷ st.big ∷ []

-- the first statement comes before the second one: lexicographically by a, b, c, d, e, small, big
abbrev pub IsBefore : Statement → Statement → Type 0
IsBefore s t = lists.IsBefore (numbers s) (numbers t)

-- the statements are in increasing order
abbrev pub IsIncreasing : List Statement → Type 0
IsIncreasing [] = Unit {0}
IsIncreasing (s ∷ []) = Unit {0}
IsIncreasing (s ∷ t ∷ ts) = IsBefore s t × IsIncreasing (t ∷ ts)

-- t is the next lawful statement after s
pub record IsNext (m : SignMap) (s t : Statement) : Type 0 where
  pub lawful : IsLawful m t
  pub later : IsBefore s t
  pub next : (u : Statement) → IsLawful m u → IsBefore u t → (u ≡ s) ⊎ IsBefore u s

-- no lawful statement comes after s
abbrev pub IsLast : SignMap → Statement → Type 0
IsLast m s = (u : Statement) → IsLawful m u → (u ≡ s) ⊎ IsBefore u s

-- the lawful statements before t, in order
pub record AreBefore (m : SignMap) (t : Statement) (ss : List Statement) : Type 0 where
  pub increasing : IsIncreasing ss
  pub members : (s : Statement) → Contains ss s ↔ (IsLawful m s × IsBefore s t)

-- all lawful statements, in order
pub record AreAll (m : SignMap) (ss : List Statement) : Type 0 where
  pub increasing : IsIncreasing ss
  pub members : (s : Statement) → Contains ss s ↔ IsLawful m s

-- t is a lawful statement, and exactly k lawful statements come before it
pub record IsNumber (m : SignMap) (k : ℕ) (t : Statement) : Type 0 where
  pub lawful : IsLawful m t
  pub before : List Statement
  pub are_before : AreBefore m t before
  pub count : length before ≡ k

-- there are at most k lawful statements
pub record HasAtMost (m : SignMap) (k : ℕ) : Type 0 where
  pub all : List Statement
  pub are_all : AreAll m all
  pub count : length all ≤ k
