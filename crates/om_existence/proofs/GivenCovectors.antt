-- The covectors of a document that is worked on, by its chirotope.
--
-- Main results: size_in: they have a sign for each element; covector_in: they are those of its chirotope;
-- circuit_in, cocircuit_in: the circuits of this are the vectors of least support, its cocircuits such covectors.
use Rattle.std.specs.Prelude.{ℕ, ◌≡◌, ◌↔◌, List, length}
use Rattle.std.proofs.Common.{sym, ◌∙◌, subst}
use Rattle.om_signs.specs.declared.sign.Sign.{Sign}
use Rattle.om_chirotope.specs.Map.{SignMap, map_of}
use Rattle.om_convert.proofs.SameFamilies.{equal_families, cocircuits_of}
use Rattle.om_denotation.specs.Circuits.{IsCircuitOfChirotope, IsCocircuitOfChirotope}
use Rattle.om_denotation.specs.Covectors.{IsCovectorOfChirotope}
use Rattle.om_denotation.specs.Denotation.{DenoteTheSame}
use Rattle.om_denotation.proofs.DualLists.{circuits_of}
use Rattle.om_document.specs.declared.body.Body.{Body}
use Rattle.om_document.specs.declared.body.Body.TheVariants as body
use Rattle.om_document.specs.declared.document.Document.{Document}
use Rattle.om_document.specs.declared.kinds.Kind.TheVariants as kind
use Rattle.om_document.specs.Form.{IsBodyOn}
use Rattle.om_representation.specs.Chirotopes.{IsChirotopeOf}
use Rattle.om_representation.specs.Covectors.{IsCovectorIn, IsCovectorOfBody}
use Rattle.om_commands.specs.Conversions.{IsMemberOf}
use Rattle.om_commands.specs.Given.{IsGiven}
use Rattle.om_existence.proofs.Worked.{IsWorked, IsItsChirotope}

-- ---- a body

size_in_body : (n : ℕ) (b : Body) → IsGiven b → IsBodyOn n b
    → (X : List Sign) → IsCovectorOfBody n b X → length X ≡ n
size_in_body n (body.Chirotope m) given on X x = x.size ∙ on.elements
size_in_body n (body.Circuits members) given on X x = x.size
size_in_body n (body.Cocircuits members) given on X x = x.size
size_in_body n (body.Covectors members) given on X x = x.size
size_in_body n (body.Wiring blocks) given on X x = absurd given
size_in_body n (body.Points points) given on X x = absurd given

same_in_body : (n : ℕ) (b : Body) (names : List (List ℕ)) (c : SignMap) → IsGiven b
    → IsChirotopeOf (record { elements = n; body = b; names = names }) c
    → DenoteTheSame n (IsCovectorOfBody n b) (IsCovectorOfChirotope c)
same_in_body n (body.Chirotope m) names c given is =
    subst (λ u. DenoteTheSame n (IsCovectorOfChirotope (map_of m)) (IsCovectorOfChirotope u)) (sym is)
    (λ X size. (λ h. h, λ h. h))
same_in_body n (body.Circuits members) names c given is = is.same
same_in_body n (body.Cocircuits members) names c given is = is.same
same_in_body n (body.Covectors members) names c given is = is.same
same_in_body n (body.Wiring blocks) names c given is = absurd given
same_in_body n (body.Points points) names c given is = absurd given

-- ---- a document and its chirotope

pub size_in : (d : Document) → IsWorked d → (X : List Sign) → IsCovectorIn d X → length X ≡ d.elements
size_in d w = size_in_body d.elements d.body w.given w.form.body

module _ (d : Document) (w : IsWorked d) (c : SignMap) (its : IsItsChirotope d c) where
  same_in : DenoteTheSame d.elements (IsCovectorIn d) (IsCovectorOfChirotope c)
  same_in = same_in_body d.elements d.body d.names c w.given its.of

  pub covector_in : (X : List Sign) → IsCovectorOfChirotope c X ↔ IsCovectorIn d X
  covector_in X =
      equal_families d.elements (IsCovectorIn d) (IsCovectorOfChirotope c) (size_in d w) (λ Y y. y.size ∙ its.elements)
      same_in X

  pub circuit_in : (X : List Sign) → IsCircuitOfChirotope c X ↔ IsMemberOf kind.Circuits d X
  circuit_in X = circuits_of d.elements (IsCovectorIn d) c its.sound.axioms its.elements same_in X

  pub cocircuit_in : (X : List Sign) → IsCocircuitOfChirotope c X ↔ IsMemberOf kind.Cocircuits d X
  cocircuit_in X =
      cocircuits_of d.elements (IsCovectorIn d) c its.sound.axioms its.elements (size_in d w) same_in X
