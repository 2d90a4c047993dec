-- The bodies that an oriented matroid holds unchanged. They are no part of the meaning.
use Rattle.om_document.specs.declared.body.Body.{Body}
use Rattle.om_document.specs.declared.body.Body.TheVariants.{Wiring, Points}

-- the body is a map or a list, whose oriented matroid holds it unchanged
abbrev pub IsGiven : Body → Type 0
IsGiven (Wiring blocks) = ⊥
IsGiven (Points points) = ⊥
IsGiven _ = Unit {0}
