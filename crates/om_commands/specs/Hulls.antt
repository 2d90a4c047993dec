-- The hull of the chirotope of a document.
use Rattle.std.specs.Prelude.{◌≡◌, ◌↔◌, List, length}
use Rattle.om_signs.specs.declared.sign.Sign.{Sign}
use Rattle.om_chirotope.specs.Map.{SignMap}
use Rattle.om_denotation.specs.Covectors.{IsCovectorOfChirotope}
use Rattle.om_paint.specs.declared.hull_error.HullError.{HullError}
use Rattle.om_paint.specs.declared.hull_error.HullError.TheVariants.{Cyclic, Memory}
use Rattle.om_oriented.specs.declared.painted.Painted.{Painted}
use Rattle.om_paint.specs.Paintings.{IsFirst, IsPaintingOf}
use Rattle.om_paint.specs.Hulls.{all_plus, IsPositiveCircuit, IsExtreme, green_alone, IsCocircuitItem, EachItem}
use Rattle.om_document.specs.declared.document.Document.{Document}
use Rattle.om_printing.specs.declared.line.Line.TheVariants as line
use Rattle.om_reply.specs.declared.answer.Answer.{Answer}
use Rattle.om_reply.specs.Answers.{says, tells}
use Rattle.om_representation.specs.AnyRank.{IsForKeptChirotope}

-- the hull of a map
pub data IsHullOfMap (m : SignMap) : Answer → Type 0 where
  -- the map isn't acyclic: the vector of all pluses is no covector, and this is the first circuit without a minus
  cyclic : (X : List Sign) → (IsCovectorOfChirotope m (all_plus m.elements) → ⊥) → IsFirst (IsPositiveCircuit m) X
      → IsHullOfMap m (says (line.Cyclic X))
  -- The map is acyclic. For each element this is what fits if the element is green and all others are red: a
  -- cocircuit exactly if the element is extreme.
  acyclic : (items : List Painted) → IsCovectorOfChirotope m (all_plus m.elements) → length items ≡ m.elements
      → EachItem (λ e. IsPaintingOf m (green_alone e) e) 1 items
      → EachItem (λ e item. IsCocircuitItem item ↔ IsExtreme m e) 1 items → IsHullOfMap m (tells items)

-- the answer to an error that names a circuit without a minus; if memory ran out there is none
abbrev pub IsCyclicAnswer : HullError → Answer → Type 0
IsCyclicAnswer (Cyclic X) a = a ≡ says (line.Cyclic X)
IsCyclicAnswer Memory a = ⊥

-- the hull of the chirotope of a document
abbrev pub IsHull : Document → Answer → Type 0
IsHull d answer = IsForKeptChirotope says IsHullOfMap d answer
