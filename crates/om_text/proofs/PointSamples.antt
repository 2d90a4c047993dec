-- The definitions at small inputs: signed numbers, documents of points, and their faults.
use Rattle.std.proofs.Common.{◌≡◌, List, [], ◌∷◌, ℕ, refl}
use Rattle.std.specs.Prelude.{pos, negsuc, codes, Some, None}
use Rattle.om_document.specs.declared.body.Body.TheVariants.{Points}
use Rattle.om_document.specs.declared.code.Code.TheVariants as code
use Rattle.std.specs.Fmt.{digits}
use Rattle.om_lines.specs.Words.{unsigned, signed}
use Rattle.om_document.specs.Points.{coordinate}
use Rattle.om_document.specs.Print.{point_lines}
use Rattle.om_document.specs.Document.{IsDocument}
use Rattle.om_text.specs.Fault.{IsFault}
use Rattle.om_text.proofs.Outcome.{document_from, fault_from}

zero_number : signed 9 (codes "0") ≡ Some (pos 0)
zero_number = refl

negative_number : signed 20 (codes "-12") ≡ Some (negsuc 11)
negative_number = refl

minus_zero : signed 9 (codes "-0") ≡ None
minus_zero = refl

leading_zero : signed 9 (codes "01") ≡ None
leading_zero = refl

negative_leading_zero : signed 9 (codes "-01") ≡ None
negative_leading_zero = refl

plus_sign : signed 9 (codes "+1") ≡ None
plus_sign = refl

minus_alone : signed 9 (codes "-") ≡ None
minus_alone = refl

two_signs : signed 9 (codes "--1") ≡ None
two_signs = refl

long_number : unsigned 9 (codes "100000000000000000000000000000000000000000000000000") ≡ None
long_number = refl

greatest : coordinate (codes "1099511627776") ≡ Some (pos 1099511627776)
greatest = refl

least : coordinate (codes "-1099511627776") ≡ Some (negsuc 1099511627775)
least = refl

too_great : coordinate (codes "1099511627777") ≡ None
too_great = refl

too_small : coordinate (codes "-1099511627777") ≡ None
too_small = refl

abbrev two_lines : List (List ℕ)
two_lines = codes "om 1" ∷ codes "points 2" ∷ codes "1 -2  0 # a point" ∷ codes "0 0 0" ∷ codes "end" ∷ []

two : IsDocument two_lines
    (record {
      elements = 2;
      body = Points ((pos 1 ∷ negsuc 1 ∷ pos 0 ∷ []) ∷ (pos 0 ∷ pos 0 ∷ pos 0 ∷ []) ∷ []);
      names =
          [];
    })
two = document_from two_lines _ refl

two_numbers : IsFault (codes "om 1" ∷ codes "points 2" ∷ codes "1 0" ∷ []) 3 code.Number
two_numbers = fault_from _ _ _ refl

four_numbers : IsFault (codes "om 1" ∷ codes "points 2" ∷ codes "1 0 0 0" ∷ []) 3 code.Number
four_numbers = fault_from _ _ _ refl

past : IsFault (codes "om 1" ∷ codes "points 1" ∷ codes "1 0 0" ∷ codes "1 0 0" ∷ []) 4 code.Many
past = fault_from _ _ _ refl

-- a line that is no point is `number` behind the last point too
other_end : IsFault (codes "om 1" ∷ codes "points 1" ∷ codes "1 0 0" ∷ codes "ende" ∷ []) 4 code.Number
other_end = fault_from _ _ _ refl

short : IsFault (codes "om 1" ∷ codes "points 2" ∷ codes "1 0 0" ∷ codes "end" ∷ []) 4 code.Few
short = fault_from _ _ _ refl

unfinished : IsFault (codes "om 1" ∷ codes "points 2" ∷ codes "1 0 0" ∷ []) 4 code.Missing
unfinished = fault_from _ _ _ refl

many_elements : IsFault (codes "om 1" ∷ codes "points 21" ∷ []) 2 (code.Elements 21)
many_elements = fault_from _ _ _ refl

printed_lines : point_lines ((pos 1 ∷ negsuc 1 ∷ pos 0 ∷ []) ∷ []) ≡ codes "1 -2 0" ∷ []
unfolding digits
printed_lines = refl
