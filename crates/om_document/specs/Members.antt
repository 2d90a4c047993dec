-- The members of a body that is a list.
--
-- Trusted: these definitions say what a document is.
use Rattle.std.specs.Prelude.{List, []}
use Rattle.om_signs.specs.declared.sign.Sign.{Sign}
use Rattle.om_document.specs.declared.body.Body.{Body}
use Rattle.om_document.specs.declared.body.Body.TheVariants.{Chirotope, Circuits, Cocircuits, Covectors, Wiring, Points}

-- the members of a list of sign vectors; other bodies have none
abbrev pub members_of : Body → List (List Sign)
members_of (Chirotope m) = []
members_of (Wiring bs) = []
members_of (Points ps) = []
members_of (Circuits ms) = ms
members_of (Cocircuits ms) = ms
members_of (Covectors ms) = ms

-- a list of the same kind with these members; other bodies are unchanged
abbrev pub with_members : Body → List (List Sign) → Body
with_members (Chirotope m) ms = Chirotope m
with_members (Wiring bs) ms = Wiring bs
with_members (Points ps) ms = Points ps
with_members (Circuits _) ms = Circuits ms
with_members (Cocircuits _) ms = Cocircuits ms
with_members (Covectors _) ms = Covectors ms
