-- The operations on oriented matroids: duals, minors and reorientations.
use Rattle.std.specs.Prelude.{ℕ, ◌≡◌, ◌<◌, ◌^◌, ◌-◌, List, [], ◌∷◌, true, Some, None, Result, Ok, Err}
use Rattle.om_signs.specs.declared.limits.TheConstants.{MAX_ELEMENTS, MAX_MEMBERS}
use Rattle.om_signs.specs.declared.sign.Sign.{Sign}
use Rattle.om_signs.specs.declared.sign.Sign.TheVariants.{Plus}
use Rattle.om_subsets.specs.Members.{members}
use Rattle.om_chirotope.specs.Map.{SignMap, map_of, IsLedBy}
use Rattle.om_denotation.specs.Covectors.{IsCovectorOfChirotope}
use Rattle.om_denotation.specs.Listings.{HasMoreThan}
use Rattle.om_denotation.specs.Operations.{IsDual, IsDeletion, IsContraction, IsReorientation}
use Rattle.om_denotation.specs.Vectors.{IsVectorOf}
use Rattle.om_convert.specs.declared.convert_error.ConvertError.{ConvertError}
use Rattle.om_convert.specs.declared.convert_error.ConvertError.TheVariants as convert
use Rattle.om_minors.specs.declared.minor_error.MinorError.{MinorError}
use Rattle.om_minors.specs.declared.minor_error.MinorError.TheVariants as minor
use Rattle.om_document.specs.declared.document.Document.{Document}
use Rattle.om_document.specs.declared.body.Body.{Body}
use Rattle.om_document.specs.declared.body.Body.TheVariants as body
use Rattle.om_document.specs.Form.{IsInForm}
use Rattle.om_words.specs.Tasks.{IsElementNumber}
use Rattle.om_document.specs.declared.kinds.Kind.{Kind}
use Rattle.om_document.specs.declared.kinds.Kind.TheVariants as kind
use Rattle.om_printing.specs.declared.line.Line.TheVariants as line
use Rattle.om_reply.specs.declared.answer.Answer.{Answer}
use Rattle.om_commands.specs.declared.operation.Operation.{Operation}
use Rattle.om_commands.specs.declared.operation.Operation.TheVariants.{Dual, Delete, Contract, Reorient}
use Rattle.om_representation.specs.declared.representation.Representation.{Representation}
use Rattle.om_commands.specs.declared.unmade.Unmade.{Unmade}
use Rattle.om_commands.specs.declared.unmade.Unmade.TheVariants as unmade
use Rattle.om_reply.specs.Above.{first_above}
use Rattle.om_reply.specs.Answers.{says, shows}
use Rattle.om_representation.specs.Axioms.{MeetsAxioms}
use Rattle.om_commands.specs.Conversions.{has_kind}
use Rattle.om_representation.specs.Covectors.{IsCovectorIn}
use Rattle.om_representation.specs.Documents.{document_of}
use Rattle.om_representation.specs.Widths.{IsTooWide, HasFewValues}

-- the elements that an operation names, in increasing order
abbrev pub named_elements : Operation → List ℕ
named_elements Dual = []
named_elements (Delete e) = e ∷ []
named_elements (Contract e) = e ∷ []
named_elements (Reorient mask) = members mask 1 MAX_ELEMENTS

-- the elements that an operation names lie within the limit
abbrev pub IsLawful : Operation → Type 0
IsLawful Dual = Unit {0}
IsLawful (Delete e) = IsElementNumber e
IsLawful (Contract e) = IsElementNumber e
IsLawful (Reorient mask) = mask < 2 ^ MAX_ELEMENTS

-- an operation takes an element away, and there is one alone
abbrev pub TakesOnly : Operation → ℕ → Type 0
TakesOnly (Delete e) n = n ≡ 1
TakesOnly (Contract e) n = n ≡ 1
TakesOnly _ n = ⊥

-- how many of n elements remain after an operation
abbrev pub elements_left : Operation → ℕ → ℕ
elements_left (Delete e) n = n - 1
elements_left (Contract e) n = n - 1
elements_left _ n = n

-- Q are the covectors that result from an operation on the covectors P on n elements
abbrev pub AreMade : Operation → ℕ → (List Sign → Type 0) → (List Sign → Type 0) → Type 0
AreMade Dual n P Q = IsDual n P Q
AreMade (Delete e) n P Q = IsDeletion n e P Q
AreMade (Contract e) n P Q = IsContraction n e P Q
AreMade (Reorient mask) n P Q = IsReorientation n mask P Q

-- a map whose covectors result from an operation on the covectors P on n elements; its first nonzero sign is plus
pub record IsMapMade (o : Operation) (n : ℕ) (P : List Sign → Type 0) (m : SignMap) : Type 0 where
  pub elements : m.elements ≡ elements_left o n
  pub normal : IsLedBy Plus m.signs
  pub covectors : AreMade o n P (IsCovectorOfChirotope m)

-- The kind of the result of an operation on a body. The dual of circuits is a list of cocircuits, and the dual of
-- cocircuits is a list of circuits. Otherwise the kind stays the same.
abbrev pub kind_made : Body → Operation → Kind
kind_made (body.Circuits members) Dual = kind.Cocircuits
kind_made (body.Circuits members) _ = kind.Circuits
kind_made (body.Cocircuits members) Dual = kind.Circuits
kind_made (body.Cocircuits members) _ = kind.Cocircuits
kind_made (body.Covectors members) _ = kind.Covectors
kind_made _ _ = kind.Chirotope

-- of a map, the first nonzero sign is plus
abbrev pub IsNormalBody : Body → Type 0
IsNormalBody (body.Chirotope m) = IsLedBy Plus (map_of m).signs
IsNormalBody _ = Unit {0}

-- e has the covectors that result from the operation on those of d
pub record IsImage (o : Operation) (d e : Document) : Type 0 where
  pub elements : e.elements ≡ elements_left o d.elements
  pub kind : has_kind (kind_made d.body o) e.body ≡ true
  pub normal : IsNormalBody e.body
  pub covectors : AreMade o d.elements (IsCovectorIn d) (IsCovectorIn e)

-- the operation goes through the chirotope of a list: only the dual of covectors does
abbrev pub TakesChirotope : Body → Operation → Type 0
TakesChirotope (body.Covectors members) Dual = Unit {0}
TakesChirotope _ _ = ⊥

-- the operation goes through the chirotope of d, which would have more values than a document may hold, namely
-- `values`
abbrev pub IsTooWideToMake : Operation → Document → ℕ → Type 0
IsTooWideToMake o d values = TakesChirotope d.body o × IsTooWide d values

-- no chirotope is too wide for the operation
abbrev pub IsKeptToMake : Operation → Document → Type 0
IsKeptToMake o d = (values : ℕ) → IsTooWideToMake o d values → ⊥

-- The dual of covectors has more covectors than a list may have. Every other result has no more members than the
-- list from which it is made.
abbrev pub HasTooManyOn : Body → Operation → ℕ → (List Sign → Type 0) → Type 0
HasTooManyOn (body.Covectors members) Dual n P = HasMoreThan MAX_MEMBERS (IsVectorOf n P)
HasTooManyOn _ _ _ _ = ⊥

-- the same for a document
abbrev pub HasTooManyMade : Operation → Document → Type 0
HasTooManyMade o d = HasTooManyOn d.body o d.elements (IsCovectorIn d)

-- The outcome of an operation on d. It is the result if the operation doesn't remove the only element, its
-- chirotope isn't too wide, and the members aren't too many. Otherwise it is the reason why there is no result. A
-- document may hold the result.
abbrev pub IsOutcome : Operation → Document → Result Representation Unmade → Type 0
IsOutcome o d (Ok r) = (TakesOnly o d.elements → ⊥)
    × (IsKeptToMake o d × ((HasTooManyMade o d → ⊥) × (HasFewValues (document_of r) × IsImage o d (document_of r))))
IsOutcome o d (Err unmade.LastElement) = TakesOnly o d.elements
IsOutcome o d (Err (unmade.TooWide values)) = IsTooWideToMake o d values
IsOutcome o d (Err (unmade.TooMany limit)) = (limit ≡ MAX_MEMBERS) × (IsKeptToMake o d × HasTooManyMade o d)
IsOutcome o d (Err unmade.Memory) = Unit {0}

-- the errors of the calls below
abbrev pub of_minor : MinorError → Unmade
of_minor minor.LastElement = unmade.LastElement
of_minor minor.Memory = unmade.Memory

abbrev pub of_conversion : ConvertError → Unmade
of_conversion (convert.TooWide values) = unmade.TooWide values
of_conversion (convert.TooMany limit) = unmade.TooMany limit
of_conversion convert.Memory = unmade.Memory

-- e is what an operation makes of d
pub record IsResult (o : Operation) (d e : Document) : Type 0 where
  pub form : IsInForm e
  pub axioms : MeetsAxioms e
  pub image : IsImage o d e

-- the result of an operation on a document
pub data IsOperation (o : Operation) (d : Document) : Answer → Type 0 where
  -- it names an element above the number of elements
  outside : (e : ℕ) → first_above d.elements (named_elements o) ≡ Some e → IsOperation o d (says (line.RefusedPlace e))
  -- it would remove the only element
  last : first_above d.elements (named_elements o) ≡ None → TakesOnly o d.elements
      → IsOperation o d (says line.RefusedLastelement)
  -- it goes through a chirotope that would have more values than a document may hold
  wide : (values : ℕ) → first_above d.elements (named_elements o) ≡ None → IsTooWideToMake o d values
      → IsOperation o d (says (line.LimitValues values))
  -- the list would have more members than a list may have
  limited : first_above d.elements (named_elements o) ≡ None → IsKeptToMake o d → HasTooManyMade o d
      → IsOperation o d (says (line.LimitMembers MAX_MEMBERS))
  -- the document that it makes
  made : (e : Document) → first_above d.elements (named_elements o) ≡ None → (TakesOnly o d.elements → ⊥)
      → IsKeptToMake o d → (HasTooManyMade o d → ⊥) → IsResult o d e → IsOperation o d (shows e)
