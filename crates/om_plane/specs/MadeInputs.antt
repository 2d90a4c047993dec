-- The vectors that a number determines, and their summary.
use Rattle.std.specs.Prelude.{ℕ}
use Rattle.om_vectors.specs.declared.tally.Tally.{Tally}
use Rattle.om_make.specs.Generator.{made_vectors}
use Rattle.om_make.specs.Tallies.{IsTally, ComesBack}
use Rattle.om_vectors.specs.Realizations.{signs_map}
use Rattle.om_reply.specs.declared.answer.Answer.{Answer}
use Rattle.om_reply.specs.Answers.{makes}

-- The vectors that the number determines, with the counts of their summary. Their cocircuits and their covectors,
-- converted back, give the normal form of the map of their signs.
pub data IsMade (seed count : ℕ) : Answer → Type 0 where
  made : (t : Tally) → IsTally (made_vectors seed count) t → ComesBack (signs_map (made_vectors seed count))
      → IsMade seed count (makes (made_vectors seed count) t)
