-- The result of the three-term test of a document. A map is tested in place of its axioms, and meets the test
-- exactly if it is a chirotope: the answer says both. A document of another kind isn't tested.
use Rattle.std.specs.Prelude.{◌≡◌}
use Rattle.om_signs.specs.declared.raw_map.RawMap.{RawMap}
use Rattle.om_chirotope.specs.Chirotope.{IsChirotope, IsAllZero}
use Rattle.om_chirotope.specs.Map.{map_of}
use Rattle.om_chirotope.specs.ThreeTerm.{MeetsThreeTermTest, HasExchange}
use Rattle.om_threeterm.specs.declared.three_refused.ThreeRefused.{ThreeRefused}
use Rattle.om_threeterm.specs.declared.three_refused.ThreeRefused.TheVariants.{AllZero, NoExchange, ThreeTerm}
use Rattle.om_threeterm.specs.Violations.{IsFirstUnexchanged, IsFirstUnbalanced}
use Rattle.om_document.specs.declared.body.Body.{Body}
use Rattle.om_document.specs.declared.body.Body.TheVariants.{Chirotope}
use Rattle.om_document.specs.declared.document.Document.{Document}
use Rattle.om_printing.specs.declared.line.Line.{Line}
use Rattle.om_printing.specs.declared.line.Line.TheVariants as line
use Rattle.om_reply.specs.declared.answer.Answer.{Answer}
use Rattle.om_reply.specs.Answers.{says}
use Rattle.om_representation.specs.declared.document_refused.DocumentRefused.{DocumentRefused}
use Rattle.om_representation.specs.Axioms.{MeetsAxioms, IsRefused}
use Rattle.om_representation.specs.RefusalLines.{refused_line}

-- the line that names the first part of the test that fails
abbrev pub failure_line : ThreeRefused → Line
failure_line AllZero = line.RefusedAllzero
failure_line (NoExchange b c e) = line.RefusedNoexchange b c e
failure_line (ThreeTerm p q) = line.RefusedThreeterm p q

-- The first part of the test that a map fails: that some value isn't zero, then that no exchange is violated, then
-- that no relation is. A violated exchange or relation is the first one.
abbrev pub IsFirstFailure : RawMap → ThreeRefused → Type 0
IsFirstFailure m AllZero = IsAllZero m.signs
IsFirstFailure m (NoExchange b c e) = (IsAllZero m.signs → ⊥) × IsFirstUnexchanged (map_of m) b c e
IsFirstFailure m (ThreeTerm p q) = (IsAllZero m.signs → ⊥) × (HasExchange (map_of m) × IsFirstUnbalanced (map_of m) p q)

-- the test of a map, which it meets exactly if it is a chirotope
pub data IsTestOfMap (m : RawMap) : Answer → Type 0 where
  -- a part of it fails, and the map is no chirotope
  fails : (why : ThreeRefused) → IsFirstFailure m why → (IsChirotope (map_of m) → ⊥)
      → IsTestOfMap m (says (failure_line why))
  -- the map meets it, and is a chirotope
  meets : MeetsThreeTermTest (map_of m) → IsChirotope (map_of m) → IsTestOfMap m (says line.Accepted)

-- the body isn't a map
abbrev pub IsNoMap : Body → Type 0
IsNoMap b = (m : RawMap) → b ≡ Chirotope m → ⊥

-- the test of a document
pub data IsThreeTermTest (d : Document) : Answer → Type 0 where
  -- the document is that of a map, and the map is tested
  of_map : (m : RawMap) (answer : Answer) → d.body ≡ Chirotope m → IsTestOfMap m answer → IsThreeTermTest d answer
  -- it is of another kind, and fails the axioms of its kind; this is the first violated instance
  refused : (why : DocumentRefused) → IsNoMap d.body → IsRefused d why → IsThreeTermTest d (says (refused_line why))
  -- it is of another kind, and meets them
  no_map : IsNoMap d.body → MeetsAxioms d → IsThreeTermTest d (says line.RefusedNotmap)
