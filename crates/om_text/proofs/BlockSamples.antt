-- The definitions at small inputs: blocks, documents of wirings, and their faults.
use Rattle.std.proofs.Common.{◌≡◌, List, [], ◌∷◌, ℕ, refl}
use Rattle.std.specs.Prelude.{codes, Some, None}
use Rattle.om_document.specs.declared.body.Body.TheVariants.{Wiring}
use Rattle.om_document.specs.declared.code.Code.TheVariants as code
use Rattle.std.specs.Fmt.{digits}
use Rattle.om_document.specs.Blocks.{block_of}
use Rattle.om_document.specs.Print.{block_lines}
use Rattle.om_document.specs.Document.{IsDocument}
use Rattle.om_text.specs.Fault.{IsFault}
use Rattle.om_text.proofs.Outcome.{document_from, fault_from}

greatest : block_of (codes "0-999") ≡ Some (record { first = 0; last = 999 })
greatest = refl

long_position : block_of (codes "1000-2") ≡ None
long_position = refl

leading_zero : block_of (codes "1-02") ≡ None
leading_zero = refl

no_dash : block_of (codes "12") ≡ None
no_dash = refl

two_dashes : block_of (codes "1--2") ≡ None
two_dashes = refl

no_first : block_of (codes "-2") ≡ None
no_first = refl

no_last : block_of (codes "1-") ≡ None
no_last = refl

abbrev three_lines : List (List ℕ)
three_lines = codes "om 1" ∷ codes "wiring 3" ∷ codes "1-2 2-3 # two steps" ∷ codes "1-2" ∷ codes "end" ∷ []

three : IsDocument three_lines
    (record {
      elements = 3;
      body =
          Wiring (record { first = 1; last = 2 } ∷ record { first = 2; last = 3 } ∷ record { first = 1; last = 2 } ∷
          []);
      names = [];
    })
three = document_from three_lines _ refl

-- any number of blocks is a document, whatever their positions
none : IsDocument (codes "om 1" ∷ codes "wiring 1" ∷ codes "end" ∷ [])
    (record { elements = 1; body = Wiring []; names = [] })
none = document_from (codes "om 1" ∷ codes "wiring 1" ∷ codes "end" ∷ []) _ refl

out_of_range : IsDocument (codes "om 1" ∷ codes "wiring 3" ∷ codes "4-0" ∷ codes "end" ∷ [])
    (record { elements = 3; body = Wiring (record { first = 4; last = 0 } ∷ []); names = [] })
out_of_range = document_from (codes "om 1" ∷ codes "wiring 3" ∷ codes "4-0" ∷ codes "end" ∷ []) _ refl

no_block : IsFault (codes "om 1" ∷ codes "wiring 3" ∷ codes "1-2 3" ∷ []) 3 code.Block
no_block = fault_from _ _ _ refl

-- a line in place of the end line is a body line
other_end : IsFault (codes "om 1" ∷ codes "wiring 3" ∷ codes "1-2" ∷ codes "ende" ∷ []) 4 code.Block
other_end = fault_from _ _ _ refl

unfinished : IsFault (codes "om 1" ∷ codes "wiring 3" ∷ codes "1-2" ∷ []) 4 code.Missing
unfinished = fault_from _ _ _ refl

two_numbers : IsFault (codes "om 1" ∷ codes "wiring 3 3" ∷ []) 2 code.Header
two_numbers = fault_from _ _ _ refl

many_elements : IsFault (codes "om 1" ∷ codes "wiring 21" ∷ []) 2 (code.Elements 21)
many_elements = fault_from _ _ _ refl

printed_lines : block_lines (record { first = 1; last = 12 } ∷ []) ≡ codes "1-12" ∷ []
unfolding digits
printed_lines = refl
