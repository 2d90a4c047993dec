-- The text of vectors that a number determines, and of their summary.
use Rattle.std.specs.Prelude.{ℕ, List, [], ◌∷◌, ◌++◌, codes, length, map}
use Rattle.std.specs.Fmt.{decimal}
use Rattle.om_document.specs.declared.document.Document.{Document}
use Rattle.om_document.specs.declared.body.Body.TheVariants.{Points}
use Rattle.om_document.specs.Print.{printed, text_of}
use Rattle.om_vectors.specs.WholeVectors.{WholeVector}
use Rattle.om_vectors.specs.declared.tally.Tally.{Tally}
use Rattle.om_reply.specs.VerdictText.{vector_numbers}

-- the document whose points have the coordinates of the vectors
abbrev pub points_document : List WholeVector → Document
points_document vs = record { elements = length vs; body = Points (map vector_numbers vs); names = [] }

-- a line for each count, and a line that says that both lists, converted back, equal the normal chirotope
abbrev pub tally_lines : Tally → List (List ℕ)
tally_lines t =
    (codes "plus " ++ decimal t.plus)
    ∷ (codes "zero " ++ decimal t.zero)
    ∷ (codes "minus " ++ decimal t.minus)
    ∷ (codes "cocircuits " ++ decimal t.cocircuits)
    ∷ (codes "covectors " ++ decimal t.covectors)
    ∷ (codes "mutations " ++ decimal t.mutations)
    ∷ codes "back equal"
    ∷ []

-- the text of the document of the points, and then of these lines
abbrev pub made_text : List WholeVector → Tally → List ℕ
made_text vs t = printed (points_document vs) ++ text_of (tally_lines t)
