-- The first line at fault in a claim, and its code.
--
-- Trusted: which line is returned for an input that is no claim, and with which code.
use Rattle.std.specs.Prelude.{ℕ, suc, List, [], ◌∷◌, Bool, cond, nat_le, ◌&&◌, ◌||◌, Option, Some, None, is_some}
use Rattle.std.specs.List.{list_any}
use Rattle.om_document.specs.declared.code.Code.{Code}
use Rattle.om_document.specs.declared.code.Code.TheVariants as code
use Rattle.om_lines.specs.Lines.{words, wordful, is_line, end_line}
use Rattle.om_text.specs.Fault.{IsFaultIn, role, table, first_of}
use Rattle.om_reply.specs.declared.claim.Claim.{Claim}
use Rattle.om_answer.specs.BlockLines.{vector_of, weight_of}
use Rattle.om_answer.specs.Block.{MOST_VECTORS, MOST_WEIGHTS}
use Rattle.om_answer.specs.Claim.{IsClaim}

-- the lines after the first `end`, if there is one: those of the block so far
abbrev pub lines_after_end : List (List (List ℕ)) → Option (List (List (List ℕ)))
lines_after_end [] = None
lines_after_end (l ∷ ls) = cond (is_line l end_line) (Some ls) (lines_after_end ls)

-- how many of the last lines pass a test, starting the count at k
abbrev pub last_passing : (List (List ℕ) → Bool) → ℕ → List (List (List ℕ)) → ℕ
last_passing p k [] = k
last_passing p k (l ∷ ls) = last_passing p (cond (p l) (suc k) 0) ls

-- a line of this form that comes directly after the greatest number of lines of this form
abbrev pub is_past : (List (List ℕ) → Bool) → ℕ → List (List (List ℕ)) → List (List ℕ) → Bool
is_past p most ls w = p w && nat_le most (last_passing p 0 ls)

-- the line exceeds the greatest number of vectors in one place, or of weights
abbrev pub goes_past : List (List (List ℕ)) → List (List ℕ) → Bool
goes_past ls w = is_past (λ l. is_some (vector_of l)) MOST_VECTORS ls w
    || is_past (λ l. is_some (weight_of l)) MOST_WEIGHTS ls w

-- The code of a line in a block, after the verdict word and the lines ls. It is `after` once the block has ended.
-- Before that it is `many` if the line exceeds a greatest number, and `entry` otherwise.
abbrev pub code_in_block : List (List (List ℕ)) → List (List ℕ) → Code
code_in_block ls w = cond (list_any (λ l. is_line l end_line) ls) code.After
    (cond (goes_past ls w) code.Many code.Entry)

-- the code of a line after the document, if ls are the block's lines before it: `claim` for the first, which
-- should be a verdict word
abbrev pub code_after_document : List (List (List ℕ)) → List (List ℕ) → Code
code_after_document [] w = code.Claim
code_after_document (v ∷ ls) w = code_in_block ls w

-- the code of the line w after the non-blank lines ls: from the document's table up to its end
abbrev pub code_by_end : Option (List (List (List ℕ))) → List (List (List ℕ)) → List (List ℕ) → Option Code
code_by_end None ls w = first_of (table (role ls w) w)
code_by_end (Some block) ls w = Some (code_after_document block w)

abbrev pub claim_code : List (List (List ℕ)) → List (List ℕ) → Option Code
claim_code ls w = code_by_end (lines_after_end ls) ls w

-- lines that are a claim
abbrev pub AreClaim : List (List ℕ) → Type 0
AreClaim ls = (c : Claim) × IsClaim ls c

-- the code of a line at fault after the lines ls
abbrev pub claim_code_after : List (List ℕ) → List ℕ → Option Code
claim_code_after ls line = claim_code (wordful ls) (words line)

-- line L is the first at fault in a claim, with the code c
abbrev pub IsClaimFault : List (List ℕ) → ℕ → Code → Type 0
IsClaimFault = IsFaultIn AreClaim claim_code_after
