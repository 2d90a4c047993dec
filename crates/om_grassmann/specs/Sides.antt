-- The brackets of the two sides of a statement, as sorted triples.
use Rattle.std.specs.Prelude.{ℕ, ◌≡◌, ◌≢◌, List, [], ◌∷◌, length}
use Rattle.om_subsets.specs.Subsets.{IsSubsetFrom}
use Rattle.om_subsets.specs.Members.{Chosen}
use Rattle.om_signs.specs.declared.sign.Sign.TheVariants.{Zero}
use Rattle.om_laws.specs.Tuples.{sorted}
use Rattle.om_chirotope.specs.Map.{SignMap, value_of, chi_of}
use Rattle.om_grassmann.specs.declared.statement.Statement.{Statement}
use Rattle.om_grassmann.specs.Terms.{pick}
use Rattle.om_grassmann.specs.Statements.{IsElement, IsApart}

-- three elements in increasing order
unfoldable pub triple : ℕ → ℕ → ℕ → List ℕ
triple x y z = sorted (x ∷ y ∷ z ∷ [])

-- the first bracket of the term with this number: abc, abd or abe
abbrev pub first_bracket : Statement → ℕ → List ℕ
first_bracket st i = pick i (triple st.a st.b st.c) (triple st.a st.b st.d) (triple st.a st.b st.e)

-- the second bracket of the term with this number: ade, ace or acd
abbrev pub second_bracket : Statement → ℕ → List ℕ
second_bracket st i = pick i (triple st.a st.d st.e) (triple st.a st.c st.e) (triple st.a st.c st.d)

-- s is the set of the elements of a list, which has three of the elements 1 to top
pub record IsTriple (top : ℕ) (xs : List ℕ) (s : Chosen) : Type 0 where
  pub n : s.n ≡ top
  pub elements : s.elements ≡ xs
  pub size : length s.elements ≡ 3
  pub increasing : IsSubsetFrom 1 top s.elements

-- a to e are distinct elements of 1 to n, in any order
pub record AreDistinct (n : ℕ) (st : Statement) : Type 0 where
  pub a : IsElement n st.a
  pub b : IsElement n st.b
  pub c : IsElement n st.c
  pub d : IsElement n st.d
  pub e : IsElement n st.e
  pub apart : IsApart st
  pub b_c : st.b ≢ st.c
  pub b_d : st.b ≢ st.d
  pub b_e : st.b ≢ st.e
  pub c_d : st.c ≢ st.d
  pub c_e : st.c ≢ st.e
  pub d_e : st.d ≢ st.e

-- an increasing list of three elements whose value isn't zero
pub record IsNonzeroTriple (m : SignMap) (xs : List ℕ) : Type 0 where
  pub increasing : IsSubsetFrom 1 m.elements xs
  pub size : length xs ≡ 3
  pub nonzero : value_of m xs ≢ Zero
  pub sign : chi_of m xs ≢ Zero

-- both brackets of the term with this number are nonzero triples
pub record HasNonzeroBrackets (m : SignMap) (st : Statement) (i : ℕ) : Type 0 where
  pub first : IsNonzeroTriple m (first_bracket st i)
  pub second : IsNonzeroTriple m (second_bracket st i)

-- the brackets of the two sides are four different lists
pub record HasFourBrackets (st : Statement) : Type 0 where
  pub small : first_bracket st st.small ≢ second_bracket st st.small
  pub first_first : first_bracket st st.small ≢ first_bracket st st.big
  pub first_second : first_bracket st st.small ≢ second_bracket st st.big
  pub second_first : second_bracket st st.small ≢ first_bracket st st.big
  pub second_second : second_bracket st st.small ≢ second_bracket st st.big
  pub big : first_bracket st st.big ≢ second_bracket st st.big
