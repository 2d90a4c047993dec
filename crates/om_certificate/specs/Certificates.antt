-- Certificates that no vectors realize a map of rank 3: biquadratic final polynomials.
--
-- Reference: Bokowski and Richter-Gebert, On the finding of final polynomials, 1990; Björner, Las Vergnas, Sturmfels,
-- White and Ziegler, Oriented Matroids, chapter 8.
use Rattle.std.specs.Prelude.{ℕ, ◌≡◌, ◌+◌, ◌*◌, ◌≤◌, Bool, List, cond, sum_by, All, Any, IsTrue}
use Rattle.std.specs.Str.{bytes_eq}
use Rattle.om_chirotope.specs.Map.{SignMap}
use Rattle.om_subsets.specs.Subsets.{IsTriple}
use Rattle.om_grassmann.specs.declared.statement.Statement.{Statement}
use Rattle.om_grassmann.specs.Statements.{IsLawful}
use Rattle.om_grassmann.specs.Sides.{first_bracket, second_bracket}
use Rattle.om_certificate.specs.declared.entry.Entry.{Entry}

-- whether two brackets, as lists of three elements, are the same
abbrev pub is_same : List ℕ → List ℕ → Bool
is_same b c = bytes_eq b c

-- how often b is one of two brackets
abbrev pub times_among : List ℕ → List ℕ → List ℕ → ℕ
times_among b first second = cond (is_same b first) 1 0 + cond (is_same b second) 1 0

-- how often b occurs in the term with number i of a statement
abbrev pub times_in : List ℕ → Statement → ℕ → ℕ
times_in b st i = times_among b (first_bracket st i) (second_bracket st i)

-- how often b occurs on small sides, counted with multiplicities
abbrev pub small_times : List ℕ → List Entry → ℕ
small_times b es = sum_by (λ e. e.times * times_in b e.statement e.statement.small) es

-- how often b occurs on big sides, counted with multiplicities
abbrev pub big_times : List ℕ → List Entry → ℕ
big_times b es = sum_by (λ e. e.times * times_in b e.statement e.statement.big) es

-- each statement is lawful
abbrev pub AreLawful : SignMap → List Entry → Type 0
AreLawful m es = All (λ e. IsLawful m e.statement) es

-- each increasing triple occurs equally often on small sides and on big sides
abbrev pub AreBalanced : SignMap → List Entry → Type 0
AreBalanced m es = (b : List ℕ) → IsTriple m.elements b → small_times b es ≡ big_times b es

-- some statement is strict
abbrev pub HasStrict : List Entry → Type 0
HasStrict es = Any (λ e. IsTrue e.statement.strict) es

-- lawful statements with multiplicities, at least one of them strict, whose small and big sides balance
pub record IsCertificate (m : SignMap) (es : List Entry) : Type 0 where
  pub lawful : AreLawful m es
  pub counted : All (λ e. 1 ≤ e.times) es
  pub balanced : AreBalanced m es
  pub strict : HasStrict es
