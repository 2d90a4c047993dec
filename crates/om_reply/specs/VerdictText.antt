-- The text of a verdict on a chirotope: the canonical form of the chirotope's document, and the lines of the verdict
-- block.
--
-- Trusted: `print_verdict` gives exactly this.
use Rattle.std.specs.Prelude.{ℕ, ℤ, pos, List, [], ◌∷◌, ◌++◌, Bool, cond, codes, map, decimal}
use Rattle.std.specs.Fmt.{signed_decimal}
use Rattle.om_chirotope.specs.Map.{SignMap}
use Rattle.om_vectors.specs.WholeVectors.{WholeVector}
use Rattle.om_vectors.specs.declared.unfound.Unfound.{Unfound}
use Rattle.om_vectors.specs.declared.unfound.Unfound.TheVariants.{Exhausted, Frontier}
use Rattle.om_simplex.specs.declared.stage.Stage.{Stage}
use Rattle.om_simplex.specs.declared.stage.Stage.TheVariants as stage
use Rattle.om_certificate.specs.declared.entry.Entry.{Entry}
use Rattle.om_certificate.specs.declared.weight.Weight.{Weight}
use Rattle.om_certificate.specs.declared.lp_end.LpEnd.{LpEnd}
use Rattle.om_certificate.specs.declared.lp_end.LpEnd.TheVariants as lp_end
use Rattle.om_certificate.specs.declared.verdict.Verdict.{Verdict}
use Rattle.om_certificate.specs.declared.verdict.Verdict.TheVariants.{Realizable, Nonrealizable, Undecided, Limit}
use Rattle.om_document.specs.declared.document.Document.{Document}
use Rattle.om_document.specs.declared.body.Body.TheVariants.{Chirotope}
use Rattle.om_lines.specs.Lines.{end_line}
use Rattle.om_document.specs.Print.{text_of, spaced, printed}
use Rattle.om_reply.specs.declared.claim.Claim.{Claim}

-- a line of one word
abbrev pub word_line : List ℕ → List (List ℕ)
word_line w = w ∷ []

-- the words of a line: a name, then numbers
abbrev pub named : List ℕ → List ℤ → List (List ℕ)
named name zs = name ∷ map signed_decimal zs

-- `vector x y z`
abbrev pub vector_numbers : WholeVector → List ℤ
vector_numbers v = v.x ∷ v.y ∷ v.z ∷ []

abbrev pub vector_words : WholeVector → List (List ℕ)
vector_words v = named (codes "vector") (vector_numbers v)

-- `lt a b c d e small big m` of a strict statement, and `eq a b c d e small big m` of another
abbrev pub entry_numbers : Entry → List ℤ
entry_numbers e = pos e.statement.a ∷ pos e.statement.b ∷ pos e.statement.c ∷ pos e.statement.d ∷ pos e.statement.e
    ∷ pos e.statement.small ∷ pos e.statement.big ∷ pos e.times ∷ []

abbrev pub relation_name : Bool → List ℕ
relation_name strict = cond strict (codes "lt") (codes "eq")

abbrev pub entry_words : Entry → List (List ℕ)
entry_words e = named (relation_name e.statement.strict) (entry_numbers e)

-- `weight a b c w`
abbrev pub weight_numbers : Weight → List ℤ
weight_numbers w = pos w.a ∷ pos w.b ∷ pos w.c ∷ w.value ∷ []

abbrev pub weight_words : Weight → List (List ℕ)
weight_words w = named (codes "weight") (weight_numbers w)

-- the end of a search: `exhausted`, or `frontier` and the vectors of its word
abbrev pub search_lines : Unfound → List (List (List ℕ))
search_lines Exhausted = word_line (codes "exhausted") ∷ []
search_lines (Frontier vs) = word_line (codes "frontier") ∷ map vector_words vs

-- the name of a stage
abbrev pub stage_name : Stage → List ℕ
stage_name stage.Price = codes "price"
stage_name stage.Column = codes "column"
stage_name stage.Update = codes "update"
stage_name stage.Scale = codes "scale"

-- the end of a tableau: `pivots P` and `basis B1 B2 ..`, or `width STAGE p r c`
abbrev pub width_numbers : ℕ → ℕ → ℕ → List ℤ
width_numbers p r c = pos p ∷ pos r ∷ pos c ∷ []

abbrev pub tableau_lines : LpEnd → List (List (List ℕ))
tableau_lines (lp_end.Pivots count basis) = named (codes "pivots") (pos count ∷ [])
    ∷ (codes "basis" ∷ map decimal basis) ∷ []
tableau_lines (lp_end.Width s p r c) = (codes "width" ∷ named (stage_name s) (width_numbers p r c)) ∷ []

-- the word of a verdict
abbrev pub verdict_name : Verdict → List ℕ
verdict_name (Realizable vs) = codes "realizable"
verdict_name (Nonrealizable es) = codes "nonrealizable"
verdict_name (Undecided ws u) = codes "undecided"
verdict_name (Limit e u) = codes "limit"

-- the lines of what a verdict has, as their words
abbrev pub verdict_lines : Verdict → List (List (List ℕ))
verdict_lines (Realizable vs) = map vector_words vs
verdict_lines (Nonrealizable es) = map entry_words es
verdict_lines (Undecided ws u) = map weight_words ws ++ search_lines u
verdict_lines (Limit e u) = tableau_lines e ++ search_lines u

-- the lines of a block: the verdict word, what the verdict has, and `end`
abbrev pub block_lines : Verdict → List (List (List ℕ))
block_lines v = word_line (verdict_name v) ∷ verdict_lines v ++ end_line ∷ []

-- lines of words with single spaces, each ended by a line feed
abbrev pub lines_text : List (List (List ℕ)) → List ℕ
lines_text ls = text_of (map spaced ls)

-- the document of a chirotope
abbrev pub chirotope_document : SignMap → Document
chirotope_document m =
    record {
      elements = m.elements;
      body = Chirotope (record { rank = m.rank; elements = m.elements; signs = m.signs });
      names = [];
    }

-- the text of a verdict on a chirotope
abbrev pub verdict_text : SignMap → Verdict → List ℕ
verdict_text m v = printed (chirotope_document m) ++ lines_text (block_lines v)

-- the claim that this text is
abbrev pub claim_of : SignMap → Verdict → Claim
claim_of m v = record { document = chirotope_document m; verdict = v }

-- the text of a claim
abbrev pub claim_text : Claim → List ℕ
claim_text c = printed c.document ++ lines_text (block_lines c.verdict)

-- ---- what a part of a line is; no part of the definition of the text

-- words, each after a space
abbrev pub tail_text : List (List ℕ) → List ℕ
tail_text [] = []
tail_text (w ∷ ws) = 32 ∷ w ++ tail_text ws
