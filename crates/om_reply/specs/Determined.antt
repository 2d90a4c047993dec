-- Words and bytes have one answer: what a meaning determines about its answers.
use Rattle.std.specs.Prelude.{◌≡◌}
use Rattle.om_reply.specs.declared.answer.Answer.{Answer}
use Rattle.om_reply.specs.Answers.{status_of, text_of}

-- two answers look alike to a user: they have one status and one text
abbrev pub AreAlike : Answer → Answer → Type 0
AreAlike a b = (status_of a ≡ status_of b) × (text_of a ≡ text_of b)

-- all answers of a meaning look alike
abbrev pub IsDetermined : (Answer → Type 0) → Type 0
IsDetermined Meaning = (a b : Answer) → Meaning a → Meaning b → AreAlike a b
