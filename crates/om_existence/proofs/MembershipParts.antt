-- A sign vector is a covector, or isn't.
--
-- Main results: membership_possible.
use Rattle.std.specs.Prelude.{ℕ, ◌≡◌, List, length}
use Rattle.std.proofs.Common.{inl, inr}
use Rattle.om_signs.specs.declared.sign.Sign.{Sign}
use Rattle.om_printing.specs.declared.line.Line.TheVariants as line
use Rattle.om_reply.specs.declared.answer.Answer.{Answer}
use Rattle.om_reply.specs.Answers.{says}
use Rattle.om_commands.specs.Memberships.{IsMembership, wrong_length, covector, not_covector}
use Rattle.om_existence.specs.Possible.{IsPossible}
use Rattle.om_existence.proofs.Possible.{held, then, mapped, either_way}

pub membership_possible : (n : ℕ) (IsCovector : List Sign → Type 0) (x : List Sign)
    → IsPossible ((a : Answer) × IsMembership n IsCovector x a)
membership_possible n IsCovector x = then (either_way (length x ≡ n)) (λ e. elim e [
  | inr other ↦ held (says (line.RefusedLength (length x)), wrong_length other)
  | inl same ↦
      mapped (λ f. elim f [
        | inl is ↦ (says line.Covector, covector same is)
        | inr not ↦
            (says line.NotCovector, not_covector same not)
      ]) (either_way (IsCovector x))
])
