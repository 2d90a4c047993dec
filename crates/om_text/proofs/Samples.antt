-- The definitions at small inputs: lines and words, documents of maps, and faults.
use Rattle.std.proofs.Common.{◌≡◌, List, [], ◌∷◌, ◌++◌, ℕ, refl}
use Rattle.std.specs.Prelude.{codes}
use Rattle.om_signs.specs.declared.sign.Sign.TheVariants.{Minus, Plus}
use Rattle.om_document.specs.declared.body.Body.TheVariants.{Chirotope}
use Rattle.om_document.specs.declared.code.Code.TheVariants as code
use Rattle.om_lines.specs.Lines.{lines, words}
use Rattle.om_document.specs.Document.{IsDocument}
use Rattle.om_text.specs.Fault.{IsFault}
use Rattle.om_text.proofs.Outcome.{document_from, fault_from}

split : lines (97 ∷ 10 ∷ 10 ∷ 98 ∷ []) ≡ codes "a" ∷ [] ∷ codes "b" ∷ []
split = refl

split_words : words (codes "a  bc # d") ≡ codes "a" ∷ codes "bc" ∷ []
split_words = refl

empty_input : IsFault (lines []) 1 code.Missing
empty_input = fault_from _ _ _ refl

one_feed : IsFault (lines (10 ∷ [])) 2 code.Missing
one_feed = fault_from _ _ _ refl

cut_one : IsFault (codes "om 1" ∷ []) 2 code.Missing
cut_one = fault_from _ _ _ refl

cut_two : IsFault (codes "om 1" ∷ codes "chirotope 3 4" ∷ []) 3 code.Missing
cut_two = fault_from _ _ _ refl

cut_three : IsFault (codes "om 1" ∷ codes "chirotope 3 4" ∷ codes "++++" ∷ []) 4 code.Missing
cut_three = fault_from _ _ _ refl

abbrev commented_lines : List (List ℕ)
commented_lines = codes "# my map" ∷ [] ∷ codes "om 1" ∷ codes "chirotope 3 4" ∷ codes "+ +" ∷ codes "++ # all plus"
    ∷ codes "end" ∷ []

commented : IsDocument commented_lines
    (record {
      elements = 4;
      body =
          Chirotope (record { rank = 3; elements = 4; signs = Plus ∷ Plus ∷ Plus ∷ Plus ∷ [] });
      names = [];
    })
commented = document_from commented_lines _ refl

past : IsFault (codes "om 1" ∷ codes "chirotope 3 4" ∷ codes "+++++" ∷ codes "end" ∷ []) 3 code.Many
past = fault_from _ _ _ refl

short : IsFault (codes "om 1" ∷ codes "chirotope 3 4" ∷ codes "+++" ∷ codes "end" ∷ []) 4 code.Few
short = fault_from _ _ _ refl

above : IsFault (codes "om 1" ∷ codes "chirotope 5 4" ∷ codes "end" ∷ []) 2 (code.Rank 5)
above = fault_from _ _ _ refl

wide : IsFault (codes "om 1" ∷ codes "chirotope 7 17" ∷ codes "end" ∷ []) 2 (code.Size 19448)
wide = fault_from _ _ _ refl

-- a line in place of the end line is a body line
other_end : IsFault (codes "om 1" ∷ codes "chirotope 0 1" ∷ codes "+" ∷ codes "foo" ∷ []) 4 code.Sign
other_end = fault_from _ _ _ refl

one_more : IsFault (codes "om 1" ∷ codes "chirotope 0 1" ∷ codes "+" ∷ codes "-" ∷ []) 4 code.Many
one_more = fault_from _ _ _ refl

no_elements : IsFault (codes "om 1" ∷ codes "chirotope 5 0" ∷ []) 2 (code.Elements 0)
no_elements = fault_from _ _ _ refl

other_version : IsFault (codes "om 3" ∷ []) 1 code.Version
other_version = fault_from _ _ _ refl

no_kind : IsFault (codes "om 1" ∷ codes "vectors 3" ∷ []) 2 code.Kind
no_kind = fault_from _ _ _ refl

trailing : IsFault (codes "om 1" ∷ codes "chirotope 0 1" ∷ codes "+" ∷ codes "end" ∷ [] ∷ codes "end" ∷ []) 6 code.After
trailing = fault_from _ _ _ refl

-- fewer values than sets at the end of the input are no value too few
unfinished : IsFault (codes "om 1" ∷ codes "chirotope 3 4" ∷ codes "+++" ∷ []) 4 code.Missing
unfinished = fault_from _ _ _ refl

large : IsFault (codes "om 1" ∷ codes "chirotope 3 100" ∷ codes "end" ∷ []) 2 (code.Elements 100)
large = fault_from _ _ _ refl

long_number : IsFault (codes "om 1" ∷ codes "chirotope 0 1000000" ∷ []) 2 code.Header
long_number = fault_from _ _ _ refl

leading_zero : IsFault (codes "om 1" ∷ codes "chirotope 0 01" ∷ []) 2 code.Header
leading_zero = fault_from _ _ _ refl

-- a vertical tab is part of a word
vertical_tab : IsFault ((111 ∷ 109 ∷ 11 ∷ 49 ∷ []) ∷ []) 1 code.Version
vertical_tab = fault_from _ _ _ refl

-- and so is a zero byte
zero_byte : IsFault ((111 ∷ 109 ∷ 0 ∷ 49 ∷ []) ∷ []) 1 code.Version
zero_byte = fault_from _ _ _ refl

-- and a byte order mark
byte_order_mark : IsFault ((239 ∷ 187 ∷ 191 ∷ codes "om 1") ∷ []) 1 code.Version
byte_order_mark = fault_from _ _ _ refl

-- a comment may hold any bytes, and carriage returns are blanks
abbrev any_comment_lines : List (List ℕ)
any_comment_lines = (35 ∷ 0 ∷ 255 ∷ 11 ∷ []) ∷ (codes "om 1" ++ 13 ∷ []) ∷ codes "chirotope 0 1#x" ∷ codes "-"
    ∷ codes "end" ∷ []

any_comment : IsDocument any_comment_lines
    (record { elements = 1; body = Chirotope (record { rank = 0; elements = 1; signs = Minus ∷ [] }); names = [] })
any_comment = document_from any_comment_lines _ refl
