-- Reading a verdict block line by line: what the reader's loop follows. Not part of the definition of claims.
use Rattle.std.specs.Prelude.{ℕ, List, [], ◌∷◌, ◌++◌, cond, nat_lt, length, codes, Option, Some, None, Result, Ok, Err}
use Rattle.om_vectors.specs.declared.unfound.Unfound.{Unfound}
use Rattle.om_vectors.specs.declared.unfound.Unfound.TheVariants as unfound
use Rattle.om_certificate.specs.declared.entry.Entry.{Entry}
use Rattle.om_certificate.specs.declared.lp_end.LpEnd.{LpEnd}
use Rattle.om_certificate.specs.declared.lp_end.LpEnd.TheVariants as lp_end
use Rattle.om_certificate.specs.declared.verdict.Verdict.{Verdict}
use Rattle.om_certificate.specs.declared.verdict.Verdict.TheVariants as verdict
use Rattle.om_document.specs.declared.code.Code.{Code}
use Rattle.om_document.specs.declared.code.Code.TheVariants as code
use Rattle.om_lines.specs.Lines.{is_line}
use Rattle.om_text.specs.Steps.{advance_by, outcome_by}
use Rattle.om_answer.specs.declared.block.Block.{Block}
use Rattle.om_answer.specs.declared.block.Block.TheVariants.{Empty, Vectors, Entries, Weights, Tableau, Pivots, Tested}
use Rattle.om_answer.specs.declared.block.Block.TheVariants.{Exhausted, Frontier, Closed}
use Rattle.om_answer.specs.declared.block.Front.{Front}
use Rattle.om_answer.specs.declared.block.Front.TheVariants as front
use Rattle.om_answer.specs.BlockLines.{vector_of, entry_of, weight_of, pivots_of, basis_of, width_of}
use Rattle.om_reply.specs.VerdictText.{word_line}
use Rattle.om_answer.specs.Block.{MOST_VECTORS, MOST_WEIGHTS}

-- the state beside the word that is alone on the line, or the other outcome if it is none of these
abbrev pub by_word : List (List ℕ) → List (List ℕ × Block) → Result Block Code → Result Block Code
by_word w [] other = other
by_word w (row ∷ rows) other = cond (is_line w (word_line row.0)) (Ok row.1) (by_word w rows other)

-- the block that a verdict word opens
abbrev pub opened : List (List ℕ) → Result Block Code
opened w =
    by_word w
    ((codes "realizable", Vectors [])
    ∷ (codes "nonrealizable", Entries [])
    ∷ (codes "undecided", Weights [])
    ∷ (codes "limit", Tableau)
    ∷ []) (Err code.Claim)

-- the items with one more, if there is room for it
abbrev pub next_item : {A : Type 0} → ℕ → List A → Option A → Result (List A) Code
next_item most xs None = Err code.Entry
next_item most xs (Some x) = cond (nat_lt (length xs) most) (Ok (xs ++ x ∷ [])) (Err code.Many)

-- the items with one more
abbrev pub another : {A : Type 0} → List A → Option A → Result (List A) Code
another xs None = Err code.Entry
another xs (Some x) = Ok (xs ++ x ∷ [])

-- the state with these items
abbrev pub as_state : {A : Type 0} → (List A → Block) → Result (List A) Code → Result Block Code
as_state f (Ok xs) = Ok (f xs)
as_state f (Err c) = Err c

abbrev pub with_next : {A : Type 0} → (List A → Block) → ℕ → List A → Option A → Result Block Code
with_next f most xs o = as_state f (next_item most xs o)

abbrev pub with_entry : List Entry → Option Entry → Result Block Code
with_entry es o = as_state Entries (another es o)

-- the end of a tableau
abbrev pub tested : Option LpEnd → Result Block Code
tested None = Err code.Entry
tested (Some e) = Ok (Tested e)

abbrev pub with_tableau : Option ℕ → List (List ℕ) → Result Block Code
with_tableau None w = tested (width_of w)
with_tableau (Some p) w = Ok (Pivots p)

abbrev pub with_basis : ℕ → Option (List ℕ) → Result Block Code
with_basis p None = Err code.Entry
with_basis p (Some b) = Ok (Tested (lp_end.Pivots p b))

-- the state after the end of a search, or the other outcome if the line isn't one
abbrev pub searched : Front → List (List ℕ) → Result Block Code → Result Block Code
searched f w other = by_word w ((codes "exhausted", Exhausted f) ∷ (codes "frontier", Frontier f []) ∷ []) other

-- the verdict of what comes before the end of a search, and of this end
abbrev pub ended : Front → Unfound → Verdict
ended (front.Weights ws) u = verdict.Undecided ws u
ended (front.Tableau e) u = verdict.Limit e u

-- the verdict if the line is `end`, or the other outcome
abbrev pub closed : Verdict → List (List ℕ) → Result Block Code → Result Block Code
closed v w other = by_word w ((codes "end", Closed v) ∷ []) other

-- the state after one more non-blank line
abbrev pub block_step : Block → List (List ℕ) → Result Block Code
block_step Empty w = opened w
block_step (Vectors vs) w = closed (verdict.Realizable vs) w (with_next Vectors MOST_VECTORS vs (vector_of w))
block_step (Entries es) w = closed (verdict.Nonrealizable es) w (with_entry es (entry_of w))
block_step (Weights ws) w = searched (front.Weights ws) w (with_next Weights MOST_WEIGHTS ws (weight_of w))
block_step Tableau w = with_tableau (pivots_of w) w
block_step (Pivots p) w = with_basis p (basis_of w)
block_step (Tested e) w = searched (front.Tableau e) w (Err code.Entry)
block_step (Exhausted f) w = closed (ended f unfound.Exhausted) w (Err code.Entry)
block_step (Frontier f vs) w =
    closed (ended f (unfound.Frontier vs)) w (with_next (Frontier f) MOST_VECTORS vs (vector_of w))
block_step (Closed v) w = Err code.After

-- the verdict, once the whole block is read
abbrev pub block_value : Block → Option Verdict
block_value (Closed v) = Some v
block_value _ = None

-- what the lines of a block spell, after n lines before them
abbrev pub block_outcome : Block → ℕ → List (List ℕ) → Result Verdict (ℕ × Code)
block_outcome = outcome_by block_step block_value

-- the state after one more line
abbrev pub block_advance : Block → List ℕ → Result Block Code
block_advance = advance_by block_step
