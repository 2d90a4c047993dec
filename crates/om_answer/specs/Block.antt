-- Verdict blocks, in terms of whole lists of lines.
--
-- Trusted: these definitions say what a claim is. Nothing here says how one is read.
use Rattle.std.specs.Prelude.{ℕ, ◌≡◌, ◌≤◌, List, [], ◌∷◌, ◌++◌, length, map, codes, Option, Some}
use Rattle.om_signs.specs.declared.limits.TheConstants.{MAX_ELEMENTS}
use Rattle.om_subsets.specs.Subsets.{choose}
use Rattle.om_vectors.specs.WholeVectors.{WholeVector}
use Rattle.om_vectors.specs.declared.unfound.Unfound.{Unfound}
use Rattle.om_vectors.specs.declared.unfound.Unfound.TheVariants.{Exhausted, Frontier}
use Rattle.om_certificate.specs.declared.entry.Entry.{Entry}
use Rattle.om_certificate.specs.declared.weight.Weight.{Weight}
use Rattle.om_certificate.specs.declared.lp_end.LpEnd.{LpEnd}
use Rattle.om_certificate.specs.declared.lp_end.LpEnd.TheVariants as lp_end
use Rattle.om_certificate.specs.declared.verdict.Verdict.{Verdict}
use Rattle.om_certificate.specs.declared.verdict.Verdict.TheVariants.{Realizable, Nonrealizable, Undecided, Limit}
use Rattle.om_lines.specs.Lines.{end_line}
use Rattle.om_answer.specs.BlockLines.{vector_of, entry_of, weight_of, pivots_of, basis_of, width_of}
use Rattle.om_reply.specs.VerdictText.{word_line}

-- each line says the item at its position
abbrev pub AreLinesOf : {A : Type 0} → (List (List ℕ) → Option A) → List (List (List ℕ)) → List A → Type 0
AreLinesOf line_of ls xs = map line_of ls ≡ map Some xs

-- the most vectors in one place, and the most weights
abbrev pub MOST_VECTORS : ℕ
MOST_VECTORS = MAX_ELEMENTS

abbrev pub MOST_WEIGHTS : ℕ
MOST_WEIGHTS = choose MAX_ELEMENTS 3

-- how a search ended: `exhausted`, or `frontier` and the vectors of its word
pub data IsSearchEnd : List (List (List ℕ)) → Unfound → Type 0 where
  exhausted : IsSearchEnd (word_line (codes "exhausted") ∷ []) Exhausted
  frontier : (ls : List (List (List ℕ))) (vs : List WholeVector) → AreLinesOf vector_of ls vs → length vs ≤ MOST_VECTORS
      → IsSearchEnd (word_line (codes "frontier") ∷ ls) (Frontier vs)

-- how a tableau ended: `pivots P` and `basis B1 B2 ..`, or `width STAGE p r c`
pub data IsTableauEnd : List (List (List ℕ)) → LpEnd → Type 0 where
  pivots : (p b : List (List ℕ)) (count : ℕ) (basis : List ℕ) → pivots_of p ≡ Some count → basis_of b ≡ Some basis
      → IsTableauEnd (p ∷ b ∷ []) (lp_end.Pivots count basis)
  width : (w : List (List ℕ)) (e : LpEnd) → width_of w ≡ Some e → IsTableauEnd (w ∷ []) e

-- a verdict word, the lines of this verdict, and `end`
pub data IsBlock : List (List (List ℕ)) → Verdict → Type 0 where
  realizable : (ls : List (List (List ℕ))) (vs : List WholeVector) → AreLinesOf vector_of ls vs
      → length vs ≤ MOST_VECTORS → IsBlock (word_line (codes "realizable") ∷ ls ++ end_line ∷ []) (Realizable vs)
  nonrealizable : (ls : List (List (List ℕ))) (es : List Entry) → AreLinesOf entry_of ls es
      → IsBlock (word_line (codes "nonrealizable") ∷ ls ++ end_line ∷ []) (Nonrealizable es)
  undecided : (ls search : List (List (List ℕ))) (ws : List Weight) (u : Unfound) → AreLinesOf weight_of ls ws
      → length ws ≤ MOST_WEIGHTS → IsSearchEnd search u
      → IsBlock (word_line (codes "undecided") ∷ ls ++ search ++ end_line ∷ []) (Undecided ws u)
  limit : (tableau search : List (List (List ℕ))) (e : LpEnd) (u : Unfound) → IsTableauEnd tableau e
      → IsSearchEnd search u → IsBlock (word_line (codes "limit") ∷ tableau ++ search ++ end_line ∷ []) (Limit e u)
