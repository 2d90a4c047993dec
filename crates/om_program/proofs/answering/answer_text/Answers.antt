use Rattle.std.specs.Prelude.{Err}
use Rattle.std.specs.declared.result.Result.{Result}
use Rattle.std.proofs.Common.{subst}
use Rattle.std.proofs.lemmas.Result.{IfOk-weaker}
use Rattle.om_text.specs.declared.parse_error.ParseError.{ParseError}
use Rattle.om_document.specs.declared.document.Document.{Document}
use Rattle.om_text.specs.Parsed.{IfLine}
use Rattle.om_text.specs.Fault.{IsFault}
use Rattle.om_lines.specs.Lines.{lines}
use Rattle.om_reply.specs.declared.answer.Answer.{Answer}
use Rattle.om_program.specs.declared.plan.Reading.TheVariants as reading
use Rattle.om_program.specs.Meaning.{DocumentMeans, ReadingMeans, faulty, read}
use Rattle.om_program.proofs.answering.answer_text.Goals as goal

pub returns-in-Ok : goal.returns-in-Ok
returns-in-Ok g c =
    let P : Answer → Type 0 = DocumentMeans c.args.what c.in-Ok.document in
    let Q : Answer → Type 0 = ReadingMeans (reading.Document c.args.what) c.args.bytes.now in
    let step : (answer : Answer) → P answer → Q answer = λ answer meant.
    read _ _ c.requires.short c.in-Ok.ensures.document meant in
    IfOk-weaker c.answer_document.result P Q step c.answer_document.ensures

pub returns-in-Err-Line : goal.returns-in-Err-Line
returns-in-Err-Line g c =
    let P : ParseError → Type 0 =
    λ e. (let r : Result Document ParseError = Err e in IfLine r (IsFault (lines c.args.bytes.now))) in
    rw (c.in-Err-Line.line-is, c.in-Err-Line.code-is)
    (faulty _ _ c.requires.short
    (subst P c.in-Err-Line.field-0-is c.in-Err-Line.ensures.fault))
