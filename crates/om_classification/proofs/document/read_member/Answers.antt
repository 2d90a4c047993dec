use Rattle.std.specs.Prelude.{Err}
use Rattle.std.specs.declared.result.Result.{Result}
use Rattle.std.proofs.Common.{subst, arith}
use Rattle.om_text.specs.declared.parse_error.ParseError.{ParseError}
use Rattle.om_document.specs.declared.document.Document.{Document}
use Rattle.om_text.specs.Parsed.{IfLine}
use Rattle.om_text.specs.Fault.{IsFault}
use Rattle.om_lines.specs.Lines.{lines}
use Rattle.om_classification.specs.Documents.{IsAtFault, long, line}
use Rattle.om_classification.proofs.Documents.{same_fault}
use Rattle.om_classification.proofs.document.read_member.Goals as goal

pub returns-then-piece-gt-MAX_INPUT-clause-fault : goal.returns-then-piece-gt-MAX_INPUT-clause-fault
returns-then-piece-gt-MAX_INPUT-clause-fault g c = λ why e.
    subst (λ x. IsAtFault c.args.piece.now x) (same_fault _ _ e) (long (omega (arith, c.if-piece-gt-MAX_INPUT.true)))

pub returns-in-Err-Line-clause-fault : goal.returns-in-Err-Line-clause-fault
returns-in-Err-Line-clause-fault g c = λ why e.
    let P : ParseError → Type 0 =
    λ k. (let r : Result Document ParseError = Err k in IfLine r (IsFault (lines c.args.piece.now))) in
    subst (λ x. IsAtFault c.args.piece.now x) (same_fault _ _ e)
    (rw (c.in-Err-Line.line-is, c.in-Err-Line.code-is)
    (line _ _ (omega (arith, c.if-piece-gt-MAX_INPUT.false))
    (subst P c.in-Err-Line.field-0-is c.in-Err-Line.ensures.fault)))
