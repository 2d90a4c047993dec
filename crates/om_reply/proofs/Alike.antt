-- Equal answers end a run alike.
--
-- Main results: alike, both_say; one element at most is found (one_place).
use Rattle.std.specs.Prelude.{ℕ, ◌≡◌, Option, Some}
use Rattle.std.proofs.Common.{sym, ◌∙◌, ap}
use Rattle.om_printing.specs.declared.line.Line.{Line}
use Rattle.om_printing.specs.declared.line.Line.TheVariants.{RefusedPlace}
use Rattle.om_reply.specs.declared.answer.Answer.{Answer}
use Rattle.om_reply.specs.Answers.{says, status_of, text_of}
use Rattle.om_reply.specs.Determined.{AreAlike}

-- equal answers look alike to a user
pub alike : (a b : Answer) → a ≡ b → AreAlike a b
alike a b same = (ap status_of same, ap text_of same)

-- the answers that say equal lines look alike
pub both_say : (l m : Line) → l ≡ m → AreAlike (says l) (says m)
both_say l m same = alike (says l) (says m) (ap says same)

-- if the element that is found is both e and f, the refusals that name e and f look alike
pub one_place : (found : Option ℕ) (e f : ℕ) → found ≡ Some e → found ≡ Some f
    → AreAlike (says (RefusedPlace e)) (says (RefusedPlace f))
one_place found e f p q = both_say (RefusedPlace e) (RefusedPlace f) (let same = sym p ∙ q in cc)
