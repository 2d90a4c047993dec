-- The wiring diagram of a chirotope.
use Rattle.std.specs.Prelude.{ℕ, ◌≡◌, ◌≢◌, List, []}
use Rattle.om_signs.specs.declared.block.Block.{Block}
use Rattle.om_subsets.specs.Members.{Chosen}
use Rattle.om_chirotope.specs.Map.{SignMap}
use Rattle.om_chirotope.specs.Chirotope.{IsFirstViolated}
use Rattle.om_wiring.specs.declared.sweep_error.SweepError.{SweepError}
use Rattle.om_wiring.specs.declared.sweep_error.SweepError.TheVariants as sweep
use Rattle.om_wiring.specs.Maps.{extended, IsSweepable}
use Rattle.om_wiring.specs.Sweeps.{IsLeastWiring}
use Rattle.om_document.specs.declared.document.Document.{Document}
use Rattle.om_document.specs.declared.body.Body.TheVariants as body
use Rattle.om_document.specs.Form.{IsInForm}
use Rattle.om_printing.specs.declared.line.Line.TheVariants as line
use Rattle.om_reply.specs.declared.answer.Answer.{Answer}
use Rattle.om_reply.specs.Answers.{says, shows}
use Rattle.om_representation.specs.RankThree.{IsForChirotope}

-- the document of a wiring diagram
abbrev pub wiring_document : ℕ → List Block → Document
wiring_document n blocks = record { elements = n; body = body.Wiring blocks; names = [] }

-- the least wiring diagram of a map
pub data IsWiringOfMap (m : SignMap) : Answer → Type 0 where
  -- the rank isn't 3, and wiring diagrams are of rank 3
  other_rank : m.rank ≢ 3 → IsWiringOfMap m (says (line.RefusedNotrank3 m.rank))
  -- with the element at infinity the map breaks the axioms, and this is the first violated pair
  not_sweepable : (s a : Chosen) → m.rank ≡ 3 → IsFirstViolated (extended m) s a
      → IsWiringOfMap m (says (line.RefusedNotsweepable s a))
  -- the wiring diagram of this map whose list of blocks is least
  least : (blocks : List Block) → m.rank ≡ 3 → IsSweepable m → IsLeastWiring m blocks
      → IsInForm (wiring_document m.elements blocks) → IsWiringOfMap m (shows (wiring_document m.elements blocks))

-- the wiring diagram of the chirotope of a document
abbrev pub IsWiringOf : Document → Answer → Type 0
IsWiringOf d answer = IsForChirotope IsWiringOfMap d answer

-- the answer to a chirotope that isn't sweepable; if memory ran out there is none
abbrev pub IsSweepRefusal : SweepError → Answer → Type 0
IsSweepRefusal (sweep.NotRank3 r) answer = answer ≡ says (line.RefusedNotrank3 r)
IsSweepRefusal (sweep.NotSweepable s a) answer = answer ≡ says (line.RefusedNotsweepable s a)
IsSweepRefusal sweep.Memory answer = ⊥
