-- Weights of the nonzero brackets of a map of rank 3, which show that it has no certificate.
--
-- Reference: Bokowski and Richter-Gebert, On the finding of final polynomials, 1990.
use Rattle.std.specs.Prelude.{ℕ, ◌≡◌, Bool, true, false, ℤ, pos, ◌+ℤ◌, ◌<ℤ◌, List, [], ◌∷◌, cond, map, filter}
use Rattle.om_signs.specs.declared.sign.Sign.{Sign}
use Rattle.om_signs.specs.declared.sign.Sign.TheVariants.{Minus, Zero, Plus}
use Rattle.om_subsets.specs.Subsets.{all_subsets}
use Rattle.om_chirotope.specs.Map.{SignMap, chi_of}
use Rattle.om_grassmann.specs.declared.statement.Statement.{Statement}
use Rattle.om_grassmann.specs.Statements.{IsLawful}
use Rattle.om_grassmann.specs.Sides.{first_bracket, second_bracket}
use Rattle.om_certificate.specs.declared.weight.Weight.{Weight}
use Rattle.om_certificate.specs.Certificates.{is_same}

-- the bracket to which a weight is given
abbrev pub bracket_of : Weight → List ℕ
bracket_of w = w.a ∷ w.b ∷ w.c ∷ []

-- whether a sign isn't zero
abbrev pub is_nonzero : Sign → Bool
is_nonzero Minus = true
is_nonzero Zero = false
is_nonzero Plus = true

-- the increasing triples whose sign isn't zero, in lexicographic order
abbrev pub nonzero_brackets : SignMap → List (List ℕ)
nonzero_brackets m = filter (λ b. is_nonzero (chi_of m b)) (all_subsets m.elements 3)

-- the weight of a bracket, and 0 if it has none
abbrev pub weight_of : List Weight → List ℕ → ℤ
weight_of [] b = pos 0
weight_of (w ∷ ws) b = cond (is_same b (bracket_of w)) w.value (weight_of ws b)

-- the sum of the weights of the two brackets of the term with number i of a statement
abbrev pub term_weight : List Weight → Statement → ℕ → ℤ
term_weight ws st i = weight_of ws (first_bracket st i) +ℤ weight_of ws (second_bracket st i)

-- less if the statement is strict, and else equal
abbrev pub Compares : Bool → ℤ → ℤ → Type 0
Compares true small big = small <ℤ big
Compares false small big = small ≡ big

-- the weights satisfy a statement: the sum over the small side is less than that over the big side if it is strict,
-- and else both are equal
abbrev pub IsMetBy : List Weight → Statement → Type 0
IsMetBy ws st = Compares st.strict (term_weight ws st st.small) (term_weight ws st st.big)

-- the weights are those of the nonzero brackets, in lexicographic order and each once
abbrev pub AreOfBrackets : SignMap → List Weight → Type 0
AreOfBrackets m ws = map bracket_of ws ≡ nonzero_brackets m

-- weights of the nonzero brackets that satisfy every lawful statement
pub record AreWeights (m : SignMap) (ws : List Weight) : Type 0 where
  pub rank : m.rank ≡ 3
  pub brackets : AreOfBrackets m ws
  pub met : (st : Statement) → IsLawful m st → IsMetBy ws st
