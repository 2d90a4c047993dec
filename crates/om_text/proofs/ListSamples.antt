-- The definitions at small inputs: documents of lists, and their faults.
use Rattle.std.proofs.Common.{◌≡◌, List, [], ◌∷◌, ℕ, refl}
use Rattle.std.specs.Prelude.{codes}
use Rattle.om_signs.specs.declared.sign.Sign.TheVariants.{Minus, Zero, Plus}
use Rattle.om_document.specs.declared.body.Body.TheVariants.{Circuits, Cocircuits, Covectors}
use Rattle.om_document.specs.declared.code.Code.TheVariants as code
use Rattle.om_document.specs.Rows.{sorted}
use Rattle.om_document.specs.Document.{IsDocument}
use Rattle.om_text.specs.Fault.{IsFault}
use Rattle.om_text.proofs.Outcome.{document_from, fault_from}

abbrev repeated_lines : List (List ℕ)
repeated_lines = codes "om 1" ∷ codes "circuits 2" ∷ codes "+-" ∷ codes "- +" ∷ codes "+-" ∷ codes "end" ∷ []

repeated : IsDocument repeated_lines
    (record { elements = 2; body = Circuits ((Plus ∷ Minus ∷ []) ∷ (Minus ∷ Plus ∷ []) ∷ []); names = [] })
repeated = document_from repeated_lines _ refl

wrong_length : IsFault (codes "om 1" ∷ codes "circuits 3" ∷ codes "+-" ∷ []) 3 code.Length
wrong_length = fault_from _ _ _ refl

empty_list : IsDocument (codes "om 1" ∷ codes "cocircuits 7" ∷ codes "end" ∷ [])
    (record { elements = 7; body = Cocircuits []; names = [] })
empty_list = document_from (codes "om 1" ∷ codes "cocircuits 7" ∷ codes "end" ∷ []) _ refl

abbrev one_element_lines : List (List ℕ)
one_element_lines = codes "om 1" ∷ codes "covectors 1" ∷ codes "0" ∷ codes "+" ∷ codes "-" ∷ codes "+" ∷ codes "end"
    ∷ []

one_element : IsDocument one_element_lines
    (record { elements = 1; body = Covectors ((Zero ∷ []) ∷ (Plus ∷ []) ∷ (Minus ∷ []) ∷ []); names = [] })
one_element = document_from one_element_lines _ refl

-- a member's sign that is none comes before its length
no_sign : IsFault (codes "om 1" ∷ codes "circuits 3" ∷ codes "+x" ∷ []) 3 code.Sign
no_sign = fault_from _ _ _ refl

order : sorted ((Plus ∷ Minus ∷ []) ∷ (Zero ∷ Zero ∷ []) ∷ (Zero ∷ Plus ∷ []) ∷ (Minus ∷ Plus ∷ []) ∷ [])
    ≡ (Minus ∷ Plus ∷ []) ∷ (Zero ∷ Zero ∷ []) ∷ (Zero ∷ Plus ∷ []) ∷ (Plus ∷ Minus ∷ []) ∷ []
order = refl
