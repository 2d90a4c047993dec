-- Pieces that were answered.
use Rattle.std.specs.Prelude.{ℕ, ◌≡◌, ◌<◌, ◌++◌, ◌∷◌, List, [], Option, IfSome, max, flat_map, length, take}
use Rattle.std.specs.Io.KnownBytes.{Appends, Consumes}
use Rattle.om_pieces.specs.Making.{completed, nothing}
use Rattle.om_reply.specs.declared.answer.Answer.{Answer}
use Rattle.om_reply.specs.declared.status.Status.{Status}
use Rattle.om_reply.specs.Answers.{text_of}
use Rattle.om_reply.specs.Statuses.{code_of}
use Rattle.om_program.specs.Statuses.{greatest}

-- an answer for each piece, with this meaning
pub data AreMeant (Meaning : List ℕ → Answer → Type 0) : List (List ℕ) → List Answer → Type 0 where
  none : AreMeant Meaning [] []
  one_more : (piece : List ℕ) (pieces : List (List ℕ)) (answer : Answer) (answers : List Answer) → Meaning piece answer
      → AreMeant Meaning pieces answers → AreMeant Meaning (piece ∷ pieces) (answer ∷ answers)

-- the texts of answers, one after the other
abbrev pub texts : List Answer → List ℕ
texts = flat_map text_of

-- The texts of these pieces were written, each whole, and this status is the greatest of their statuses and the one
-- before.
abbrev pub AreAnswered : (List ℕ → Answer → Type 0) → List (List ℕ) → Status → Status → Option (List ℕ)
    → Option (List ℕ) → Type 0
AreAnswered Meaning pieces before status old new =
    (answers : List Answer) × (AreMeant Meaning pieces answers ×
    (Appends old new (texts answers) × (code_of status ≡ max (code_of before) (greatest answers))))

-- the texts of these pieces were written, each whole
abbrev pub AreWritten : (List ℕ → Answer → Type 0) → List (List ℕ) → Option (List ℕ) → Option (List ℕ) → Type 0
AreWritten Meaning pieces old new =
    (answers : List Answer) × (AreMeant Meaning pieces answers × Appends old new (texts answers))

-- if the source tells the bytes that it had left: the texts of exactly those pieces were written that are whole in the
-- bytes taken
abbrev pub IsUpToDate : (List ℕ → Answer → Type 0) → ℕ → Option (List ℕ) → Option (List ℕ) → Option (List ℕ)
    → Option (List ℕ) → Type 0
IsUpToDate Meaning n left rest old new =
    IfSome left (λ all. (bytes : List ℕ) ×
    (Consumes left rest bytes × AreWritten Meaning (completed (nothing n) bytes) old new))

-- the texts of these pieces were written, each whole, followed by the first bytes of the text of another piece, but
-- not all of them
abbrev pub AreCutOff : (List ℕ → Answer → Type 0) → List (List ℕ) → List ℕ → Option (List ℕ) → Option (List ℕ) → Type 0
AreCutOff Meaning pieces piece old new =
    (answers : List Answer) × (AreMeant Meaning pieces answers ×
    ((answer : Answer) × (Meaning piece answer ×
    ((k : ℕ) × ((k < length (text_of answer)) × Appends old new (texts answers ++ take k (text_of answer)))))))

-- of all pieces, the first ones were answered, and these are left
abbrev pub GoesOn : (List ℕ → Answer → Type 0) → List (List ℕ) → List (List ℕ) → Status → Status → Option (List ℕ)
    → Option (List ℕ) → Type 0
GoesOn Meaning all left before status old new =
    (pieces : List (List ℕ)) × ((all ≡ pieces ++ left) × AreAnswered Meaning pieces before status old new)

-- of all pieces, the texts of the first ones were written, each whole
abbrev pub Stops : (List ℕ → Answer → Type 0) → List (List ℕ) → Option (List ℕ) → Option (List ℕ) → Type 0
Stops Meaning all old new =
    (pieces : List (List ℕ)) × ((left : List (List ℕ)) × ((all ≡ pieces ++ left) × AreWritten Meaning pieces old new))

-- of all pieces, the texts of the first ones were written, and that of the next one was begun, but not finished
abbrev pub Breaks : (List ℕ → Answer → Type 0) → List (List ℕ) → Option (List ℕ) → Option (List ℕ) → Type 0
Breaks Meaning all old new =
    (pieces : List (List ℕ)) × ((piece : List ℕ) ×
    ((left : List (List ℕ)) × ((all ≡ pieces ++ piece ∷ left) × AreCutOff Meaning pieces piece old new)))
