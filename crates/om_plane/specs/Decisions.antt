-- Whether vectors realize the oriented matroid of a document: the verdict on its chirotope, within budgets.
use Rattle.std.specs.Prelude.{◌≡◌, ◌≢◌, IfOk}
use Rattle.om_chirotope.specs.Map.{SignMap}
use Rattle.om_chirotope.specs.Chirotope.{IsChirotopeWithinLimits}
use Rattle.om_certificate.specs.declared.verdict.Verdict.{Verdict}
use Rattle.om_certificate.specs.Forms.{IsVerdictInForm}
use Rattle.om_certificate.specs.Validity.{IsValid, Shows}
use Rattle.om_certificate.specs.Verdicts.{certificate_of}
use Rattle.om_budgets.specs.declared.budgets.Budgets.{Budgets}
use Rattle.om_decide.specs.Verdicts.{IsVerdictOf}
use Rattle.om_document.specs.declared.document.Document.{Document}
use Rattle.om_printing.specs.declared.line.Line.TheVariants as line
use Rattle.om_reply.specs.declared.answer.Answer.{Answer}
use Rattle.om_reply.specs.Answers.{says, judges}
use Rattle.om_representation.specs.RankThree.{IsForChirotope}

-- The verdict on a map of rank 3 within these budgets. The map is a chirotope, and the verdict has the forms and
-- the limits of a claim. Its vectors realize the map, its certificate shows that no vectors do, and its weights
-- show that there is no certificate.
pub record IsDecided (m : SignMap) (b : Budgets) (v : Verdict) : Type 0 where
  pub rank : m.rank ≡ 3
  pub sound : IsChirotopeWithinLimits m
  pub verdict : IsVerdictOf m b v
  pub form : IsVerdictInForm v
  pub valid : IfOk (certificate_of v) (IsValid m)
  pub shows : IfOk (certificate_of v) (Shows m)

-- what `decide` answers to a map
pub data DecisionMeans (b : Budgets) (m : SignMap) : Answer → Type 0 where
  -- the rank isn't 3, and verdicts are about rank 3
  other_rank : m.rank ≢ 3 → DecisionMeans b m (says (line.RefusedNotrank3 m.rank))
  -- the map with the verdict on it
  decided : (v : Verdict) → IsDecided m b v → DecisionMeans b m (judges m v)

-- what `decide` answers to a document: its answer to the chirotope of the document
abbrev pub IsDecision : Budgets → Document → Answer → Type 0
IsDecision b d answer = IsForChirotope (DecisionMeans b) d answer
