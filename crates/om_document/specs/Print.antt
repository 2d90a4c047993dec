-- The canonical form of a document.
--
-- Trusted: `print` gives exactly this.
use Rattle.std.specs.Prelude.{ℕ, zero, suc, ◌+◌, ◌/◌, ℤ, List, [], ◌∷◌, ◌++◌, length, take, drop, map, codes, decimal}
use Rattle.std.specs.Fmt.{signed_decimal}
use Rattle.om_signs.specs.declared.block.Block.{Block}
use Rattle.om_signs.specs.declared.sign.Sign.{Sign}
use Rattle.om_document.specs.declared.document.Document.{Document}
use Rattle.om_document.specs.declared.body.Body.{Body}
use Rattle.om_document.specs.declared.body.Body.TheVariants.{Chirotope, Wiring, Points}
use Rattle.om_lines.specs.Words.{byte_of}
use Rattle.om_document.specs.Heading.{kind_name}
use Rattle.om_document.specs.Rows.{sorted}
use Rattle.om_document.specs.Members.{members_of, with_members}

-- lines, each ended by a line feed
abbrev pub text_of : List (List ℕ) → List ℕ
text_of [] = []
text_of (l ∷ ls) = l ++ 10 ∷ text_of ls

-- bytes in k lines of 64; the last one may be shorter
abbrev pub cut : ℕ → List ℕ → List (List ℕ)
cut zero bs = []
cut (suc k) bs = take 64 bs ∷ cut k (drop 64 bs)

-- signs in lines of 64 and a last shorter line
abbrev pub sign_lines : List Sign → List (List ℕ)
sign_lines xs = cut ((length xs + 63) / 64) (map byte_of xs)

-- members, one per line
abbrev pub member_lines : List (List Sign) → List (List ℕ)
member_lines ms = map (map byte_of) ms

-- words with single spaces between them
abbrev pub spaced : List (List ℕ) → List ℕ
spaced [] = []
spaced (w ∷ []) = w
spaced (w ∷ v ∷ ws) = w ++ 32 ∷ spaced (v ∷ ws)

-- points, one per line
abbrev pub point_lines : List (List ℤ) → List (List ℕ)
point_lines ps = map (λ p. spaced (map signed_decimal p)) ps

-- a block as a word
abbrev pub block_text : Block → List ℕ
block_text b = decimal b.first ++ 45 ∷ decimal b.last

-- blocks, one per line
abbrev pub block_lines : List Block → List (List ℕ)
block_lines bs = map block_text bs

-- the numbers of a kind line, each after a space
abbrev pub sizes_text : ℕ → Body → List ℕ
sizes_text n (Chirotope m) = 32 ∷ (decimal m.rank ++ 32 ∷ decimal n)
sizes_text n _ = 32 ∷ decimal n

-- the kind line
abbrev pub kind_text : Document → List ℕ
kind_text d = kind_name d.body ++ sizes_text d.elements d.body

-- the lines of the body
abbrev pub body_lines : Body → List (List ℕ)
body_lines (Chirotope m) = sign_lines m.signs
body_lines (Wiring bs) = block_lines bs
body_lines (Points ps) = point_lines ps
body_lines b = member_lines (sorted (members_of b))

-- the lines of the canonical form
abbrev pub printed_lines : Document → List (List ℕ)
printed_lines d = codes "om 1" ∷ kind_text d ∷ (body_lines d.body ++ codes "end" ∷ [])

-- the canonical form
abbrev pub printed : Document → List ℕ
printed d = text_of (printed_lines d)

-- the document of a map, without names
abbrev pub unnamed_map : ℕ → ℕ → List Sign → Document
unnamed_map rank elements signs =
    record {
      elements = elements;
      body = Chirotope (record { rank = rank; elements = elements; signs = signs });
      names = [];
    }

-- the same body with its members sorted
abbrev pub sorted_body : Body → Body
sorted_body b = with_members b (sorted (members_of b))

-- the same document with its members sorted, and without names
abbrev pub sorted_document : Document → Document
sorted_document d = record { elements = d.elements; body = sorted_body d.body; names = [] }
