-- The greatest status of answers.
use Rattle.std.specs.Prelude.{ℕ, List, [], ◌∷◌, max}
use Rattle.om_reply.specs.declared.answer.Answer.{Answer}
use Rattle.om_reply.specs.Answers.{status_of}
use Rattle.om_reply.specs.Statuses.{code_of}

-- the greatest exit code of answers, and 0 if there are none
abbrev pub greatest : List Answer → ℕ
greatest [] = 0
greatest (answer ∷ answers) = max (code_of (status_of answer)) (greatest answers)
