-- The commands of any rank that work on the chirotope of the document.
--
-- Main results: the answers are answers to a command (kept_replies), and are determined where they are so for each
-- chirotope (for_kept_chirotope_determined).
use Rattle.std.proofs.Common.{ap}
use Rattle.om_chirotope.specs.Map.{SignMap}
use Rattle.om_document.specs.declared.document.Document.{Document}
use Rattle.om_printing.specs.declared.line.Line.TheVariants as line
use Rattle.om_representation.specs.AnyRank.{IsForKeptChirotope, wide, kept}
use Rattle.om_representation.proofs.OneChirotope.{meant_for_one, one_width}
use Rattle.om_reply.specs.declared.answer.Answer.{Answer}
use Rattle.om_reply.specs.Answers.{says, IsReply}
use Rattle.om_reply.specs.Determined.{IsDetermined}
use Rattle.om_reply.proofs.Alike.{both_say}

-- ---- such answers are answers to a command

pub kept_replies : (Meaning : SignMap → Answer → Type 0) (d : Document) (a : Answer)
    → ((m : SignMap) (b : Answer) → Meaning m b → IsReply b) → IsForKeptChirotope says Meaning d a → IsReply a
kept_replies Meaning d a replies (wide values is) = tt
kept_replies Meaning d a replies (kept m b narrow is means) = replies m a means

-- ---- such answers are determined

-- if all answers to each map look alike, then so do those to the chirotope of a document
pub for_kept_chirotope_determined : (Meaning : SignMap → Answer → Type 0)
    → ((m : SignMap) → IsDetermined (Meaning m)) → (d : Document) → IsDetermined (IsForKeptChirotope says Meaning d)
for_kept_chirotope_determined Meaning determined d a b (wide v p) (wide w q) =
    both_say (line.LimitValues v) (line.LimitValues w) (ap line.LimitValues (one_width d v w p q))
for_kept_chirotope_determined Meaning determined d a b (wide v p) (kept k y narrow q also) = absurd (narrow v p)
for_kept_chirotope_determined Meaning determined d a b (kept m x narrow p means) (wide w q) = absurd (narrow w q)
for_kept_chirotope_determined Meaning determined d a b (kept m x narrow p means) (kept k y narrow' q also) =
    determined m a b means (meant_for_one Meaning d m k p q b also)
