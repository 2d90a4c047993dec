use Rattle.std.proofs.Common.{rules, Err}
use Rattle.om_text.specs.declared.state.State.{State}
use Rattle.om_lines.specs.Lines.{runs}
use Rattle.om_text.specs.Reading.{after_body}
use Rattle.om_text.specs.ReaderParts.{IsStepUnlessMemory}
use Rattle.om_text.proofs.BodyLines.{open_line, open_refused}
use Rattle.om_text.proofs.stepping.body_line.Goals as goal

pub returns-in_err-body : goal.returns-in_err-body
returns-in_err-body c =
    let g : IsStepUnlessMemory {A = State} (Err c.in_err-body.field-0.0)
    (after_body c.args.draft (runs c.args.line.now))
    = open_refused c.args.draft (runs c.args.line.now) c.in_err-body.field-0.0 c.in_err-body.ensures in
    search rules

pub returns : goal.returns
returns c = open_line c.args.draft (runs c.args.line.now) c.in_ok-body.body c.in_ok-body.ensures
