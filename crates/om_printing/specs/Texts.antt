-- The texts of one line that the program prints, and the pieces that its longer texts are made of.
--
-- Trusted: `print_line` gives exactly `line_text`.
use Rattle.std.specs.Prelude.{ℕ, List, [], ◌∷◌, ◌++◌, codes, map}
use Rattle.std.proofs.Common.{zero, suc}
use Rattle.std.specs.Fmt.{decimal}
use Rattle.std.specs.List.{join_with_byte}
use Rattle.om_signs.specs.declared.sign.Sign.{Sign}
use Rattle.om_grassmann.specs.declared.statement.Statement.{Statement}
use Rattle.om_document.specs.declared.code.Code.{Code}
use Rattle.om_document.specs.declared.code.Code.TheVariants as code
use Rattle.om_lines.specs.Words.{byte_of}
use Rattle.om_printing.specs.declared.field.Field.{Field}
use Rattle.om_printing.specs.declared.field.Field.TheVariants as field
use Rattle.om_printing.specs.declared.line.Line.{Line}
use Rattle.om_printing.specs.declared.line.Line.TheVariants as line

-- a text after a space
abbrev pub spaced : List ℕ → List ℕ
spaced text = 32 ∷ text

-- a text with a comma before it, unless it is the first
abbrev pub after_comma : ℕ → List ℕ → List ℕ
after_comma zero text = text
after_comma (suc before) text = 44 ∷ text

-- a subset: its elements joined by commas, and `none` for the empty one
abbrev pub subset_text : List ℕ → List ℕ
subset_text [] = codes "none"
subset_text (x ∷ xs) = join_with_byte 44 (map decimal (x ∷ xs))

-- signs: one byte for each
abbrev pub signs_text : List Sign → List ℕ
signs_text xs = map byte_of xs

-- the word for the code of a line at fault
abbrev pub code_name : Code → List ℕ
code_name code.Version = codes "version"
code_name code.Kind = codes "kind"
code_name code.Header = codes "header"
code_name (code.Elements _) = codes "elements"
code_name (code.Rank _) = codes "rank"
code_name (code.Size _) = codes "size"
code_name code.Setting = codes "setting"
code_name code.Sign = codes "sign"
code_name code.Length = codes "length"
code_name code.Block = codes "block"
code_name code.Number = codes "number"
code_name code.Many = codes "many"
code_name code.Few = codes "few"
code_name code.After = codes "after"
code_name code.Claim = codes "claim"
code_name code.Entry = codes "entry"
code_name code.Missing = codes "missing"

-- the number of a code after a space, if it has one
abbrev pub code_number : Code → List ℕ
code_number (code.Elements n) = spaced (decimal n)
code_number (code.Rank r) = spaced (decimal r)
code_number (code.Size v) = spaced (decimal v)
code_number _ = []

-- a code, with its number if it has one
abbrev pub code_text : Code → List ℕ
code_text c = code_name c ++ code_number c

-- a number after a space
abbrev pub number : ℕ → List ℕ
number n = spaced (decimal n)

-- the five elements and the two terms of a statement, each after a space
abbrev pub stated : Statement → List ℕ
stated st = number st.a ++ number st.b ++ number st.c ++ number st.d ++ number st.e ++ number st.small ++ number st.big

-- a field after a space
abbrev pub field_text : Field → List ℕ
field_text (field.Small n) = number n
field_text (field.Number n) = number n
field_text (field.Large n) = number n
field_text (field.Set s) = spaced (subset_text s.elements)
field_text (field.Signs x) = spaced (signs_text x)
field_text (field.Code c) = spaced (code_text c)
field_text (field.Statement st) = stated st

-- fields in order, and a line feed
abbrev pub ended : List Field → List ℕ
ended [] = 10 ∷ []
ended (f ∷ fs) = field_text f ++ ended fs

-- the words of a line's name
abbrev pub line_name : Line → List ℕ
line_name line.Accepted = codes "accepted"
line_name line.Covector = codes "covector"
line_name line.NotCovector = codes "not covector"
line_name line.ValidRealizable = codes "valid realizable"
line_name line.ValidNonrealizable = codes "valid nonrealizable"
line_name line.ValidUndecided = codes "valid undecided"
line_name (line.Circuit _) = codes "circuit"
line_name (line.Cocircuit _) = codes "cocircuit"
line_name (line.Cyclic _) = codes "cyclic"
line_name (line.Usage _) = codes "usage"
line_name (line.LimitMembers _) = codes "limit members"
line_name (line.LimitValues _) = codes "limit values"
line_name line.RefusedLong = codes "refused long"
line_name (line.RefusedLine _ _) = codes "refused line"
line_name line.RefusedAllzero = codes "refused allzero"
line_name (line.RefusedRelation _ _) = codes "refused relation"
line_name (line.RefusedZero _) = codes "refused zero"
line_name (line.RefusedNonegative _) = codes "refused nonegative"
line_name (line.RefusedNested _ _) = codes "refused nested"
line_name (line.RefusedNoelimination _ _ _) = codes "refused noelimination"
line_name line.RefusedNozero = codes "refused nozero"
line_name (line.RefusedNocomposition _ _) = codes "refused nocomposition"
line_name (line.RefusedRange _) = codes "refused range"
line_name (line.RefusedNotincreasing _) = codes "refused notincreasing"
line_name line.RefusedNotreversed = codes "refused notreversed"
line_name line.RefusedRanklow = codes "refused ranklow"
line_name line.RefusedFlatrank = codes "refused flatrank"
line_name (line.RefusedLength _) = codes "refused length"
line_name (line.RefusedPlace _) = codes "refused place"
line_name line.RefusedLastelement = codes "refused lastelement"
line_name (line.RefusedNotrank3 _) = codes "refused notrank3"
line_name (line.RefusedFull _) = codes "refused full"
line_name line.RefusedNotbasis = codes "refused notbasis"
line_name (line.RefusedNotsweepable _ _) = codes "refused notsweepable"
line_name (line.RefusedNotmutation _ _) = codes "refused notmutation"
line_name (line.RefusedColour _) = codes "refused colour"
line_name line.RefusedNotmap = codes "refused notmap"
line_name (line.RefusedNoexchange _ _ _) = codes "refused noexchange"
line_name (line.RefusedThreeterm _ _) = codes "refused threeterm"
line_name line.RefusedNocertificate = codes "refused nocertificate"
line_name (line.RefusedNumber _ _) = codes "refused number"
line_name (line.RefusedWrongsign _) = codes "refused wrongsign"
line_name (line.RefusedUnlawful _) = codes "refused unlawful"
line_name (line.RefusedUnbalanced _ _ _) = codes "refused unbalanced"
line_name line.RefusedNostrict = codes "refused nostrict"
line_name (line.RefusedBracket _) = codes "refused bracket"
line_name (line.RefusedWeightfails _) = codes "refused weightfails"

-- the fields of a line in order
abbrev pub line_fields : Line → List Field
line_fields (line.Circuit x) = field.Signs x ∷ []
line_fields (line.Cocircuit x) = field.Signs x ∷ []
line_fields (line.Cyclic x) = field.Signs x ∷ []
line_fields (line.Usage word) = field.Number word ∷ []
line_fields (line.LimitMembers limit) = field.Number limit ∷ []
line_fields (line.LimitValues values) = field.Number values ∷ []
line_fields (line.RefusedLine n c) = field.Number n ∷ field.Code c ∷ []
line_fields (line.RefusedRelation s a) = field.Set s ∷ field.Set a ∷ []
line_fields (line.RefusedZero i) = field.Number i ∷ []
line_fields (line.RefusedNonegative i) = field.Number i ∷ []
line_fields (line.RefusedNested i j) = field.Number i ∷ field.Number j ∷ []
line_fields (line.RefusedNoelimination i j e) = field.Number i ∷ field.Number j ∷ field.Small e ∷ []
line_fields (line.RefusedNocomposition i j) = field.Number i ∷ field.Number j ∷ []
line_fields (line.RefusedRange step) = field.Number step ∷ []
line_fields (line.RefusedNotincreasing step) = field.Number step ∷ []
line_fields (line.RefusedLength given) = field.Number given ∷ []
line_fields (line.RefusedPlace e) = field.Small e ∷ []
line_fields (line.RefusedNotrank3 r) = field.Small r ∷ []
line_fields (line.RefusedFull n) = field.Small n ∷ []
line_fields (line.RefusedNotsweepable s a) = field.Set s ∷ field.Set a ∷ []
line_fields (line.RefusedNotmutation s a) = field.Set s ∷ field.Set a ∷ []
line_fields (line.RefusedColour e) = field.Small e ∷ []
line_fields (line.RefusedNoexchange b c e) = field.Set b ∷ field.Set c ∷ field.Small e ∷ []
line_fields (line.RefusedThreeterm p q) = field.Set p ∷ field.Set q ∷ []
line_fields (line.RefusedNumber wanted given) = field.Number wanted ∷ field.Number given ∷ []
line_fields (line.RefusedWrongsign triple) = field.Set triple ∷ []
line_fields (line.RefusedUnlawful entry) = field.Number entry ∷ []
line_fields (line.RefusedUnbalanced bracket small big) = field.Set bracket ∷ field.Large small ∷ field.Large big ∷ []
line_fields (line.RefusedBracket entry) = field.Number entry ∷ []
line_fields (line.RefusedWeightfails statement) = field.Statement statement ∷ []
line_fields _ = []

-- a line: the words of its name in lower case, then its fields in order
abbrev pub line_text : Line → List ℕ
line_text l = line_name l ++ ended (line_fields l)
