-- Conversion of documents from one kind to another.
use Rattle.std.specs.Prelude.{ℕ, ◌≡◌, ◌↔◌, List, Bool, true, false}
use Rattle.om_signs.specs.declared.limits.TheConstants.{MAX_MEMBERS}
use Rattle.om_signs.specs.declared.sign.Sign.{Sign}
use Rattle.om_signs.specs.declared.sign.Sign.TheVariants.{Plus}
use Rattle.om_chirotope.specs.Map.{SignMap, map_of, IsLedBy}
use Rattle.om_denotation.specs.Compositions.{IsOfLeastSupport}
use Rattle.om_denotation.specs.Listings.{AreAllOf, HasMoreThan}
use Rattle.om_denotation.specs.Vectors.{IsVectorOf}
use Rattle.om_convert.specs.declared.convert_error.ConvertError.{ConvertError}
use Rattle.om_convert.specs.declared.convert_error.ConvertError.TheVariants as convert
use Rattle.om_document.specs.declared.document.Document.{Document}
use Rattle.om_document.specs.declared.body.Body.{Body}
use Rattle.om_document.specs.declared.body.Body.TheVariants as body
use Rattle.om_document.specs.Form.{IsInForm}
use Rattle.om_document.specs.declared.kinds.Kind.{Kind}
use Rattle.om_document.specs.declared.kinds.Kind.TheVariants as kind
use Rattle.om_printing.specs.declared.line.Line.TheVariants as line
use Rattle.om_reply.specs.declared.answer.Answer.{Answer}
use Rattle.om_representation.specs.declared.representation.Representation.{Representation}
use Rattle.om_reply.specs.Answers.{says, shows}
use Rattle.om_representation.specs.Axioms.{MeetsAxioms}
use Rattle.om_representation.specs.Chirotopes.{IsChirotopeOf}
use Rattle.om_representation.specs.Covectors.{IsCovectorIn}
use Rattle.om_representation.specs.Documents.{document_of}
use Rattle.om_representation.specs.Represented.{IsMeantFor}
use Rattle.om_representation.specs.Widths.{IsTooWide, IsKept}

-- whether a body is of a kind
abbrev pub has_kind : Kind → Body → Bool
has_kind kind.Chirotope (body.Chirotope m) = true
has_kind kind.Circuits (body.Circuits members) = true
has_kind kind.Cocircuits (body.Cocircuits members) = true
has_kind kind.Covectors (body.Covectors members) = true
has_kind _ _ = false

-- The members of the list of a kind that covectors P on n elements determine. Circuits are the vectors of minimal
-- support, and cocircuits are the covectors of minimal support.
abbrev pub IsMemberAs : Kind → ℕ → (List Sign → Type 0) → List Sign → Type 0
IsMemberAs kind.Circuits n P = IsOfLeastSupport (IsVectorOf n P)
IsMemberAs kind.Cocircuits n P = IsOfLeastSupport P
IsMemberAs kind.Covectors n P = P
IsMemberAs kind.Chirotope n P = λ x. ⊥

-- the members of the list of a kind that a document determines
abbrev pub IsMemberOf : Kind → Document → List Sign → Type 0
IsMemberOf k d = IsMemberAs k d.elements (IsCovectorIn d)

-- covectors become cocircuits directly, without a chirotope
abbrev pub is_direct : Kind → Body → Bool
is_direct kind.Cocircuits (body.Covectors members) = true
is_direct _ _ = false

-- the document is a list, its conversion to the kind goes through its chirotope, and this would have more values
-- than a document may hold, namely `values`
abbrev pub IsTooWideAs : Kind → Document → ℕ → Type 0
IsTooWideAs k d values = (is_direct k d.body ≡ false) × IsTooWide d values

-- the document is no such list
abbrev pub IsKeptAs : Kind → Document → Type 0
IsKeptAs k d = (values : ℕ) → IsTooWideAs k d values → ⊥

-- the list of the kind would have more members than a list may have
abbrev pub HasTooMany : Kind → Document → Type 0
HasTooMany k d = HasMoreThan MAX_MEMBERS (IsMemberOf k d)

-- a list has exactly these members; of a map, the first nonzero sign is plus
abbrev pub HasExactly : (List Sign → Type 0) → Body → Type 0
HasExactly P (body.Chirotope m) = IsLedBy Plus (map_of m).signs
HasExactly P (body.Circuits members) = AreAllOf P members
HasExactly P (body.Cocircuits members) = AreAllOf P members
HasExactly P (body.Covectors members) = AreAllOf P members
HasExactly P _ = Unit {0}

-- e is d as a document of another kind: it satisfies the axioms of this kind and denotes the same. A list has exactly
-- the members that d determines, and a chirotope is the normal one.
pub record IsConverted (k : Kind) (d e : Document) : Type 0 where
  pub form : IsInForm e
  pub kind : has_kind k e.body ≡ true
  pub elements : e.elements ≡ d.elements
  pub axioms : MeetsAxioms e
  pub same : (x : List Sign) → IsCovectorIn d x ↔ IsCovectorIn e x
  pub members : HasExactly (IsMemberOf k d) e.body

-- the conversion of a document to a kind
pub data IsConversion (k : Kind) (d : Document) : Answer → Type 0 where
  -- a document of the kind is itself, and meets its axioms
  itself : has_kind k d.body ≡ true → IsInForm d → MeetsAxioms d → IsConversion k d (shows d)
  -- its chirotope would have more values than a document may hold
  wide : (values : ℕ) → has_kind k d.body ≡ false → IsTooWideAs k d values
      → IsConversion k d (says (line.LimitValues values))
  -- the new list would have more members than a list may have
  limited : has_kind k d.body ≡ false → IsKeptAs k d → HasTooMany k d
      → IsConversion k d (says (line.LimitMembers MAX_MEMBERS))
  -- the converted document
  converted : (e : Document) → has_kind k d.body ≡ false → IsKeptAs k d → (HasTooMany k d → ⊥) → IsConverted k d e
      → IsConversion k d (shows e)

-- the answer converts every representation that has this chirotope, isn't of the kind, and isn't too wide
abbrev pub IsConversionFrom : Kind → SignMap → Answer → Type 0
IsConversionFrom k c answer = (r : Representation) → IsChirotopeOf (document_of r) c
    → has_kind k (document_of r).body ≡ false → IsKept (document_of r) → IsMeantFor (IsConversion k) r answer

-- the answer to an error of a conversion, with the number in the error; if memory ran out there is none
abbrev pub IsUnlisted : ConvertError → Answer → Type 0
IsUnlisted (convert.TooWide values) a = a ≡ says (line.LimitValues values)
IsUnlisted (convert.TooMany limit) a = a ≡ says (line.LimitMembers limit)
IsUnlisted convert.Memory a = ⊥
