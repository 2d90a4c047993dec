-- The kind line of a document, and the limits of its numbers.
--
-- Trusted: these definitions say what a document is.
use Rattle.std.specs.Prelude.{ℕ, List, [], ◌∷◌, Bool, cond, nat_le, ◌&&◌, codes, Option, Some, None, bytes_eq}
use Rattle.std.specs.Prelude.{option_and_then, option_map}
use Rattle.om_signs.specs.declared.limits.TheConstants.{MAX_ELEMENTS, MAX_VALUES}
use Rattle.om_subsets.specs.Subsets.{choose}
use Rattle.om_document.specs.declared.document.Document.{Document}
use Rattle.om_document.specs.declared.body.Body.{Body}
use Rattle.om_document.specs.declared.body.Body.TheVariants.{Chirotope, Circuits, Cocircuits, Covectors, Wiring, Points}
use Rattle.om_document.specs.declared.document_kind.DocumentKind.{DocumentKind}
use Rattle.om_document.specs.declared.document_kind.DocumentKind.TheVariants as kinds
use Rattle.om_lines.specs.Words.{plain}

-- the kind with this name
abbrev pub kind_of : List ℕ → Option DocumentKind
kind_of w =
    cond (bytes_eq w (codes "chirotope")) (Some kinds.Chirotope)
    (cond (bytes_eq w (codes "circuits")) (Some kinds.Circuits)
    (cond (bytes_eq w (codes "cocircuits")) (Some kinds.Cocircuits)
    (cond (bytes_eq w (codes "covectors")) (Some kinds.Covectors)
    (cond (bytes_eq w (codes "wiring")) (Some kinds.Wiring)
    (cond (bytes_eq w (codes "points")) (Some kinds.Points) None)))))

-- an item in front of others, if both are there
abbrev pub with_item : {A : Type 0} → Option A → Option (List A) → Option (List A)
with_item (Some x) (Some xs) = Some (x ∷ xs)
with_item _ _ = None

-- the plain numbers that words spell, if each word spells one
abbrev pub plain_numbers : List (List ℕ) → Option (List ℕ)
plain_numbers [] = Some []
plain_numbers (w ∷ ws) = with_item (plain w) (plain_numbers ws)

-- the rank and the number of elements, if a kind line of this kind has these numbers; the rank of other kinds is
-- taken as 0
abbrev pub sizes : DocumentKind → List ℕ → Option (ℕ × ℕ)
sizes kinds.Chirotope (r ∷ n ∷ []) = Some (r, n)
sizes kinds.Chirotope _ = None
sizes _ (n ∷ []) = Some (0, n)
sizes _ _ = None

-- the rank and the number of elements that the words after the kind's name give
abbrev pub numbers : DocumentKind → List (List ℕ) → Option (ℕ × ℕ)
numbers k ws = option_and_then (sizes k) (plain_numbers ws)

-- an empty body
abbrev pub empty_body : DocumentKind → ℕ → ℕ → Body
empty_body kinds.Chirotope r n = Chirotope (record { rank = r; elements = n; signs = [] })
empty_body kinds.Circuits r n = Circuits []
empty_body kinds.Cocircuits r n = Cocircuits []
empty_body kinds.Covectors r n = Covectors []
empty_body kinds.Wiring r n = Wiring []
empty_body kinds.Points r n = Points []

-- an empty document with these numbers, and without names
abbrev pub headed : DocumentKind → ℕ × ℕ → Document
headed k p = record { elements = p.1; body = empty_body k p.0 p.1; names = [] }

-- the empty document that the words after a kind name open
abbrev pub opened : DocumentKind → List (List ℕ) → Option Document
opened k ws = option_map (headed k) (numbers k ws)

-- the empty document that a kind line opens
abbrev pub heading : List (List ℕ) → Option Document
heading [] = None
heading (w ∷ ws) = option_and_then (λ k. opened k ws) (kind_of w)

-- the name of the kind of a body
abbrev pub kind_name : Body → List ℕ
kind_name (Chirotope m) = codes "chirotope"
kind_name (Circuits ms) = codes "circuits"
kind_name (Cocircuits ms) = codes "cocircuits"
kind_name (Covectors ms) = codes "covectors"
kind_name (Wiring bs) = codes "wiring"
kind_name (Points ps) = codes "points"

-- the rank that a kind line gives, or 0 if the kind has none
abbrev pub rank_of_body : Body → ℕ
rank_of_body (Chirotope m) = m.rank
rank_of_body _ = 0

-- how many values a kind line gives, or 0 if the kind has none
abbrev pub values_of_body : Body → ℕ
values_of_body (Chirotope m) = choose m.elements m.rank
values_of_body _ = 0

-- at least 1 element, and no more than a document may have
abbrev pub has_elements : Document → Bool
has_elements d = nat_le 1 d.elements && nat_le d.elements MAX_ELEMENTS

-- a rank from 0 to the number of elements
abbrev pub has_rank : Document → Bool
has_rank d = nat_le (rank_of_body d.body) d.elements

-- no more values than a map may have
abbrev pub has_size : Document → Bool
has_size d = nat_le (values_of_body d.body) MAX_VALUES
