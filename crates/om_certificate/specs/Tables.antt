-- Tables with a place for each increasing triple of elements, in lexicographic order. No public clause uses these.
use Rattle.std.specs.Prelude.{ℕ, ◌≡◌, ◌+◌, ◌*◌, ◌<◌, ◌≤◌, ℤ, pos, ◌+ℤ◌, List, slice_index, slice_index_or, length}
use Rattle.std.specs.Prelude.{unsigned_abs}
use Rattle.om_signs.specs.declared.limits.TheConstants.{MAX_WEIGHT}
use Rattle.om_subsets.specs.Subsets.{rank_of, choose, IsTriple}
use Rattle.om_grassmann.specs.declared.statement.Statement.{Statement}
use Rattle.om_grassmann.specs.Sides.{first_bracket, second_bracket}
use Rattle.om_certificate.specs.declared.entry.Entry.{Entry}
use Rattle.om_certificate.specs.declared.weight.Weight.{Weight}
use Rattle.om_certificate.specs.Certificates.{small_times, big_times}
use Rattle.om_certificate.specs.Weights.{weight_of}

-- the table has the number of each triple at its place
abbrev pub IsTableOf : ℕ → (List ℕ → ℕ) → List ℕ → Type 0
IsTableOf n number table = (b : List ℕ) → IsTriple n b → slice_index table (rank_of n b) ≡ number b

-- tables of how often each triple occurs on small sides and on big sides
pub record AreCounts (n : ℕ) (es : List Entry) (small big : List ℕ) : Type 0 where
  pub small_counts : IsTableOf n (λ b. small_times b es) small
  pub big_counts : IsTableOf n (λ b. big_times b es) big

-- the number of each triple is raised by a multiple of what `among` says
pub record IsRaised (n : ℕ) (among : List ℕ → ℕ) (times : ℕ) (old new : List ℕ) : Type 0 where
  pub raised : (b : List ℕ) → IsTriple n b → slice_index new (rank_of n b) ≡ slice_index old (rank_of n b) + times
      * among b
  pub bound : (k : ℕ) → slice_index new k ≤ slice_index old k + 2 * times

-- the weight is given to three increasing elements of 1 to n
pub record IsOfTriple (n : ℕ) (w : Weight) : Type 0 where
  pub a : 1 ≤ w.a
  pub a_b : w.a < w.b
  pub b_c : w.b < w.c
  pub c : w.c ≤ n

-- no number exceeds the absolute value that a weight may have
abbrev pub AreSmall : List ℤ → Type 0
AreSmall table = (k : ℕ) → unsigned_abs (slice_index_or table k (pos 0)) ≤ unsigned_abs MAX_WEIGHT

-- a table of the weights of all triples
pub record IsWeightTable (n : ℕ) (ws : List Weight) (table : List ℤ) : Type 0 where
  pub room : choose n 3 ≤ length table
  pub weights : (b : List ℕ) → IsTriple n b → slice_index_or table (rank_of n b) (pos 0) ≡ weight_of ws b
  pub small : AreSmall table

-- the sum of the numbers at the places of the two brackets of the term with number i of a statement
abbrev pub sum_at : ℕ → List ℤ → Statement → ℕ → ℤ
sum_at n table st i = slice_index_or table (rank_of n (first_bracket st i)) (pos 0)
    +ℤ slice_index_or table (rank_of n (second_bracket st i)) (pos 0)
