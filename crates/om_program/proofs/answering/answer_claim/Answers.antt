use Rattle.std.specs.Prelude.{Err, refl}
use Rattle.std.specs.declared.result.Result.{Result}
use Rattle.std.proofs.Common.{subst}
use Rattle.om_text.specs.declared.parse_error.ParseError.{ParseError}
use Rattle.om_lines.specs.Lines.{lines}
use Rattle.om_text.specs.Parsed.{IfLine}
use Rattle.om_reply.specs.declared.claim.Claim.{Claim}
use Rattle.om_answer.specs.ClaimFault.{IsClaimFault}
use Rattle.om_program.specs.Meaning.{faulty, read}
use Rattle.om_program.proofs.answering.answer_claim.Goals as goal

pub returns-in_ok-verify-in-Ok : goal.returns-in_ok-verify-in-Ok
returns-in_ok-verify-in-Ok g c =
    read c.in-Ok.claim _ c.requires c.in-Ok.ensures.claim (_, (refl, c.in_ok-verify-in-Ok.ensures))

pub returns-in-Err-Line : goal.returns-in-Err-Line
returns-in-Err-Line g c =
    let P : ParseError → Type 0 =
    λ e. (let r : Result Claim ParseError = Err e in IfLine r (IsClaimFault (lines c.args.bytes.now))) in
    rw (c.in-Err-Line.line-is, c.in-Err-Line.code-is)
    (faulty _ _ c.requires (subst P c.in-Err-Line.field-0-is c.in-Err-Line.ensures.fault))
