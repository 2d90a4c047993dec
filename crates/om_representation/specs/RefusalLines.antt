-- The line that names the first violated instance of the axioms of a document, and the line of a command if there is
-- no chirotope to work on.
use Rattle.std.specs.Prelude.{◌≡◌}
use Rattle.om_chirotope.specs.declared.map_refused.MapRefused.{MapRefused}
use Rattle.om_chirotope.specs.declared.map_refused.MapRefused.TheVariants as map
use Rattle.om_circuits.specs.declared.set_refused.SetRefused.{SetRefused}
use Rattle.om_circuits.specs.declared.set_refused.SetRefused.TheVariants as set
use Rattle.om_covectors.specs.declared.cov_refused.CovRefused.{CovRefused}
use Rattle.om_covectors.specs.declared.cov_refused.CovRefused.TheVariants as cov
use Rattle.om_wiring.specs.declared.wiring_refused.WiringRefused.{WiringRefused}
use Rattle.om_wiring.specs.declared.wiring_refused.WiringRefused.TheVariants as wiring
use Rattle.om_printing.specs.declared.line.Line.{Line}
use Rattle.om_printing.specs.declared.line.Line.TheVariants as line
use Rattle.om_representation.specs.declared.document_refused.DocumentRefused.{DocumentRefused}
use Rattle.om_representation.specs.declared.document_refused.DocumentRefused.TheVariants as reason
use Rattle.om_representation.specs.declared.unchosen.Unchosen.{Unchosen}
use Rattle.om_representation.specs.declared.unchosen.Unchosen.TheVariants as unchosen

-- the line that says why a map is no chirotope
abbrev pub map_line : MapRefused → Line
map_line map.AllZero = line.RefusedAllzero
map_line (map.Relation s a) = line.RefusedRelation s a

-- the line that names a violated instance of the axioms of circuits
abbrev pub set_line : SetRefused → Line
set_line (set.Zero i) = line.RefusedZero i
set_line (set.NoNegative i) = line.RefusedNonegative i
set_line (set.Nested i j) = line.RefusedNested i j
set_line (set.NoElimination i j e) = line.RefusedNoelimination i j e

-- the line that names a violated instance of the axioms of covectors
abbrev pub cov_line : CovRefused → Line
cov_line cov.NoZero = line.RefusedNozero
cov_line (cov.NoNegative i) = line.RefusedNonegative i
cov_line (cov.NoComposition i j) = line.RefusedNocomposition i j
cov_line (cov.NoElimination i j e) = line.RefusedNoelimination i j e

-- the line that says why blocks are no wiring diagram
abbrev pub wiring_line : WiringRefused → Line
wiring_line (wiring.Range step) = line.RefusedRange step
wiring_line (wiring.NotIncreasing step) = line.RefusedNotincreasing step
wiring_line wiring.NotReversed = line.RefusedNotreversed

-- the line that names the first violated instance of the axioms of a document
abbrev pub refused_line : DocumentRefused → Line
refused_line (reason.Map why) = map_line why
refused_line (reason.Circuits why) = set_line why
refused_line (reason.Covectors why) = cov_line why
refused_line (reason.Wiring why) = wiring_line why
refused_line reason.RankLow = line.RefusedRanklow

-- the line of a command of rank 3 if there is no chirotope to work on; if memory ran out there is none
abbrev pub IsRankLine : Unchosen → Line → Type 0
IsRankLine (unchosen.TooWide rank values) l = l ≡ line.RefusedNotrank3 rank
IsRankLine unchosen.Memory l = ⊥

-- the line of the other commands if there is no chirotope to work on; if memory ran out there is none
abbrev pub IsWidthLine : Unchosen → Line → Type 0
IsWidthLine (unchosen.TooWide rank values) l = l ≡ line.LimitValues values
IsWidthLine unchosen.Memory l = ⊥
