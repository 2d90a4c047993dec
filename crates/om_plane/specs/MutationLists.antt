-- The list of the mutations of a chirotope.
use Rattle.std.specs.Prelude.{◌≡◌, ◌≢◌, List}
use Rattle.om_subsets.specs.Members.{Chosen}
use Rattle.om_chirotope.specs.Map.{SignMap}
use Rattle.om_mutate.specs.Mutations.{ListsMutations}
use Rattle.om_document.specs.declared.document.Document.{Document}
use Rattle.om_printing.specs.declared.line.Line.TheVariants as line
use Rattle.om_reply.specs.declared.answer.Answer.{Answer}
use Rattle.om_reply.specs.Answers.{says, lists}
use Rattle.om_representation.specs.RankThree.{IsForChirotope}

-- the mutations of a map
pub data AreMutationsOfMap (m : SignMap) : Answer → Type 0 where
  -- the rank isn't 3, and mutations are of rank 3
  other_rank : m.rank ≢ 3 → AreMutationsOfMap m (says (line.RefusedNotrank3 m.rank))
  -- all of them, each once, in lexicographic order
  listed : (sets : List Chosen) → m.rank ≡ 3 → ListsMutations m sets → AreMutationsOfMap m (lists sets)

-- the mutations of the chirotope of a document
abbrev pub AreMutations : Document → Answer → Type 0
AreMutations d answer = IsForChirotope AreMutationsOfMap d answer
