-- Words and bytes mean an answer.
use Rattle.std.specs.Prelude.{ℕ, List}
use Rattle.om_reply.specs.declared.answer.Answer.{Answer}
use Rattle.om_program.specs.Meaning.{Means}

-- the words and the bytes mean some answer
abbrev pub HasAnswer : List (List ℕ) → List ℕ → Type 0
HasAnswer words bytes = (answer : Answer) × Means words bytes answer
