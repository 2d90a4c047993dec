-- Whether a sign vector is a covector.
use Rattle.std.specs.Prelude.{ℕ, ◌≡◌, List, length}
use Rattle.om_signs.specs.declared.sign.Sign.{Sign}
use Rattle.om_printing.specs.declared.line.Line.TheVariants as line
use Rattle.om_reply.specs.declared.answer.Answer.{Answer}
use Rattle.om_reply.specs.Answers.{says}

-- whether a sign vector is a covector, given the covectors on n elements
pub data IsMembership (n : ℕ) (IsCovector : List Sign → Type 0) (x : List Sign) : Answer → Type 0 where
  -- the vector has another number of signs
  wrong_length : (length x ≡ n → ⊥) → IsMembership n IsCovector x (says (line.RefusedLength (length x)))
  covector : length x ≡ n → IsCovector x → IsMembership n IsCovector x (says line.Covector)
  not_covector : length x ≡ n → (IsCovector x → ⊥) → IsMembership n IsCovector x (says line.NotCovector)
