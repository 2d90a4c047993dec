-- Decisions as answers.
--
-- Main results: what a call says of a verdict (verdict_rank, verdict_decided); the document of its chirotope is in form
-- (document_form); a decision is an answer that can be written (decision_replies).
use Rattle.std.specs.Prelude.{◌≡◌, ◌≤◌, refl}
use Rattle.std.proofs.Common.{inl}
use Rattle.std.proofs.lemmas.Result.{IfOk-weaker}
use Rattle.om_signs.specs.declared.limits.TheConstants.{MAX_ELEMENTS}
use Rattle.om_chirotope.specs.Map.{SignMap}
use Rattle.om_chirotope.specs.Chirotope.{IsChirotope, IsChirotopeWithinLimits}
use Rattle.om_chirotope.proofs.FewValues.{few_of_rank3}
use Rattle.om_vectors.specs.Realizations.{Realizes}
use Rattle.om_certificate.specs.declared.verdict.Verdict.{Verdict}
use Rattle.om_certificate.specs.Forms.{IsVerdictInForm}
use Rattle.om_certificate.specs.Validity.{IsValid, Shows}
use Rattle.om_certificate.specs.Verdicts.{certificate_of}
use Rattle.om_certificate.proofs.Refusing.{valid_shows}
use Rattle.om_budgets.specs.declared.budgets.Budgets.{Budgets}
use Rattle.om_decide.specs.Verdicts as decide
use Rattle.om_decide.proofs.VerdictLaws.{verdict_shown}
use Rattle.om_document.specs.declared.document.Document.{Document}
use Rattle.om_document.specs.Form.{IsInForm}
use Rattle.om_reply.specs.VerdictText.{chirotope_document}
use Rattle.om_reply.specs.declared.answer.Answer.{Answer}
use Rattle.om_reply.specs.Answers.{IsReply}
use Rattle.om_plane.specs.Decisions.{IsDecided, DecisionMeans, other_rank, decided, IsDecision}
use Rattle.om_plane.proofs.RankThreeLaws.{chirotope_replies}

-- ---- a verdict on a chirotope

pub verdict_rank : (m : SignMap) (b : Budgets) (v : Verdict) → decide.IsVerdictOf m b v → m.rank ≡ 3
verdict_rank m b v (decide.realizable vs found) = let realizes : Realizes vs m =
    verdict_shown m b v (decide.realizable vs found) in realizes.rank
verdict_rank m b v (decide.nonrealizable counts end) = end.rank
verdict_rank m b v (decide.undecided zs u end unfound) = end.rank
verdict_rank m b v (decide.pivot_limit basis u end unfound) = end.rank
verdict_rank m b v (decide.width stage pivot row place u end unfound) = end.rank

-- if a verdict on a chirotope within the limit of elements is in form, its evidence is valid and shows what it should
pub verdict_decided : (m : SignMap) (b : Budgets) (v : Verdict) → 1 ≤ m.elements → m.elements ≤ MAX_ELEMENTS
    → IsChirotope m → decide.IsVerdictOf m b v → IsVerdictInForm v → IsDecided m b v
verdict_decided m b v low high axioms verdict form = record {
  rank = verdict_rank m b v verdict;
  sound = record { axioms = axioms; limits = record { low = low; high = high } };
  verdict = verdict;
  form = form;
  valid = verdict_shown m b v verdict;
  shows = IfOk-weaker (certificate_of v) (IsValid m) (Shows m) (valid_shows m) (verdict_shown m b v verdict);
}

-- ---- decisions as answers

-- the document of a chirotope of rank 3 within the limits is in form
pub document_form : (m : SignMap) → m.rank ≡ 3 → IsChirotopeWithinLimits m → IsInForm (chirotope_document m)
document_form m three sound = record {
  low = sound.limits.low;
  high = sound.limits.high;
  body = record {
    elements = refl;
    rank = sound.axioms.whole.part;
    signs = sound.axioms.whole.whole;
    few =
        few_of_rank3 m three sound.limits.high;
  };
  names = inl refl;
}

means_replies : (b : Budgets) (m : SignMap) (a : Answer) → DecisionMeans b m a → IsReply a
means_replies b m a (other_rank other) = tt
means_replies b m a (decided v is) = (document_form m is.rank is.sound, is.form)

-- the answers of `decide` are answers to a command
pub decision_replies : (b : Budgets) (d : Document) (a : Answer) → IsDecision b d a → IsReply a
decision_replies b d a is = chirotope_replies (DecisionMeans b) d a (means_replies b) is
