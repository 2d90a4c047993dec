-- The definitions of version 2 at small inputs: names, orders and halves, and the faults of setting lines.
use Rattle.std.proofs.Common.{◌≡◌, List, [], ◌∷◌, ℕ, true, false, refl}
use Rattle.std.specs.Prelude.{codes}
use Rattle.om_signs.specs.declared.sign.Sign.TheVariants.{Minus, Zero, Plus}
use Rattle.om_document.specs.declared.body.Body.TheVariants.{Chirotope, Circuits, Covectors, Wiring}
use Rattle.om_document.specs.declared.code.Code.TheVariants as code
use Rattle.om_document.specs.Names.{is_name, are_names}
use Rattle.om_document.specs.Settings.{values_from_revlex}
use Rattle.om_document.specs.Document.{IsDocument}
use Rattle.om_text.specs.Fault.{IsFault}
use Rattle.om_text.proofs.Outcome.{document_from, fault_from}

longest_name : is_name (codes "Abcdefghij_01234") ≡ true
longest_name = refl

long_name : is_name (codes "Abcdefghij_012345") ≡ false
long_name = refl

no_bytes : is_name [] ≡ false
no_bytes = refl

dash_in_name : is_name (codes "a-b") ≡ false
dash_in_name = refl

equal_names : are_names 3 (codes "a" ∷ codes "b" ∷ codes "a" ∷ []) ≡ false
equal_names = refl

cases_differ : are_names 2 (codes "a" ∷ codes "A" ∷ []) ≡ true
cases_differ = refl

-- the sets 12, 13, 23, 14, 24, 34 in reverse lexicographic order have the values 0, +, -, 0, +, -
reordered : values_from_revlex
    (record { rank = 2; elements = 4; signs = Zero ∷ Plus ∷ Minus ∷ Zero ∷ Plus ∷ Minus ∷ [] }) ≡ Zero ∷ Plus ∷ Zero
    ∷ Minus ∷ Plus ∷ Minus ∷ []
reordered = refl

abbrev named_lines : List (List ℕ)
named_lines = codes "om 2" ∷ codes "chirotope 2 4" ∷ codes "names half end names _1 # four" ∷ [] ∷ codes "order revlex"
    ∷ codes "0++" ∷ codes "000" ∷ codes "end" ∷ []

named : IsDocument named_lines
    (record {
      elements = 4;
      body =
          Chirotope (record { rank = 2; elements = 4; signs = Zero ∷ Plus ∷ Zero ∷ Plus ∷ Zero ∷ Zero ∷ [] });
      names =
          codes "half" ∷ codes "end" ∷ codes "names" ∷ codes "_1" ∷ [];
    })
named = document_from named_lines _ refl

abbrev lexicographic_lines : List (List ℕ)
lexicographic_lines = codes "om 2" ∷ codes "chirotope 1 2" ∷ codes "order lex" ∷ codes "+-" ∷ codes "end" ∷ []

lexicographic : IsDocument lexicographic_lines
    (record {
      elements = 2;
      body = Chirotope (record { rank = 1; elements = 2; signs = Plus ∷ Minus ∷ [] });
      names =
          [];
    })
lexicographic = document_from lexicographic_lines _ refl

-- without setting lines version 2 is read as version 1
abbrev plain_lines : List (List ℕ)
plain_lines = codes "om 2" ∷ codes "covectors 1" ∷ codes "+" ∷ codes "end" ∷ []

plain : IsDocument plain_lines (record { elements = 1; body = Covectors ((Plus ∷ []) ∷ []); names = [] })
plain = document_from plain_lines _ refl

-- repeated and opposite members count once
abbrev halved_lines : List (List ℕ)
halved_lines = codes "om 2" ∷ codes "circuits 2" ∷ codes "half" ∷ codes "+-" ∷ codes "-+" ∷ codes "00" ∷ codes "0+"
    ∷ codes "+-" ∷ codes "end" ∷ []

halved : IsDocument halved_lines
    (record {
      elements = 2;
      body =
          Circuits ((Plus ∷ Minus ∷ []) ∷ (Minus ∷ Plus ∷ []) ∷ (Zero ∷ Zero ∷ []) ∷ (Zero ∷ Plus ∷ []) ∷ (Zero ∷ Minus
          ∷ [])
          ∷ []);
      names = [];
    })
halved = document_from halved_lines _ refl

abbrev named_wiring_lines : List (List ℕ)
named_wiring_lines = codes "om 2" ∷ codes "wiring 1" ∷ codes "names e1" ∷ codes "end" ∷ []

named_wiring : IsDocument named_wiring_lines (record { elements = 1; body = Wiring []; names = codes "e1" ∷ [] })
named_wiring = document_from named_wiring_lines _ refl

cut_two : IsFault (codes "om 2" ∷ []) 2 code.Missing
cut_two = fault_from _ _ _ refl

few_names : IsFault (codes "om 2" ∷ codes "chirotope 3 4" ∷ codes "names a b c" ∷ codes "++++" ∷ codes "end" ∷ []) 3
    code.Setting
few_names = fault_from _ _ _ refl

many_names : IsFault (codes "om 2" ∷ codes "points 1" ∷ codes "names a b" ∷ []) 3 code.Setting
many_names = fault_from _ _ _ refl

names_twice : IsFault (codes "om 2" ∷ codes "wiring 1" ∷ codes "names a" ∷ codes "names a" ∷ []) 4 code.Setting
names_twice = fault_from _ _ _ refl

names_late : IsFault (codes "om 2" ∷ codes "circuits 1" ∷ codes "half" ∷ codes "names a" ∷ []) 4 code.Setting
names_late = fault_from _ _ _ refl

order_twice : IsFault (codes "om 2" ∷ codes "chirotope 0 1" ∷ codes "order lex" ∷ codes "order lex" ∷ []) 4 code.Setting
order_twice = fault_from _ _ _ refl

other_order : IsFault (codes "om 2" ∷ codes "chirotope 0 1" ∷ codes "order lexicographic" ∷ []) 3 code.Setting
other_order = fault_from _ _ _ refl

order_of_list : IsFault (codes "om 2" ∷ codes "cocircuits 1" ∷ codes "order lex" ∷ []) 3 code.Setting
order_of_list = fault_from _ _ _ refl

half_of_map : IsFault (codes "om 2" ∷ codes "chirotope 0 1" ∷ codes "names a" ∷ codes "half" ∷ []) 4 code.Setting
half_of_map = fault_from _ _ _ refl

half_and_more : IsFault (codes "om 2" ∷ codes "circuits 1" ∷ codes "half +" ∷ []) 3 code.Setting
half_and_more = fault_from _ _ _ refl

-- after a body line such a line is a body line
half_in_body : IsFault (codes "om 2" ∷ codes "circuits 1" ∷ codes "+" ∷ codes "half" ∷ []) 4 code.Sign
half_in_body = fault_from _ _ _ refl

-- and so it is in version 1
half_in_one : IsFault (codes "om 1" ∷ codes "circuits 2" ∷ codes "half" ∷ codes "end" ∷ []) 3 code.Sign
half_in_one = fault_from _ _ _ refl

names_in_one : IsFault (codes "om 1" ∷ codes "wiring 1" ∷ codes "names a" ∷ []) 3 code.Block
names_in_one = fault_from _ _ _ refl

-- a word that only begins as one of the three begins a body line
longer_word : IsFault (codes "om 2" ∷ codes "circuits 2" ∷ codes "halfs" ∷ []) 3 code.Sign
longer_word = fault_from _ _ _ refl
