use Rattle.std.proofs.Common.{sym, subst}
use Rattle.om_lines.specs.Lines.{runs}
use Rattle.om_text.specs.ReaderParts.{IsStepUnlessMemory}
use Rattle.om_text.proofs.PartSteps.{names_taken, no_names_taken}
use Rattle.om_text.proofs.setting_lines.names_or_choice.Goals as goal

pub returns-in-Ok-Some : goal.returns-in-Ok-Some
returns-in-Ok-Some c = names_taken c.args.draft (runs c.args.line.now) c.in-Ok-Some.names c.in-Ok-Some.field-0
    c.in-Ok-Some.field-0-is c.in-Ok-Some.ensures

pub returns-in-Ok-None : goal.returns-in-Ok-None
returns-in-Ok-None c =
    subst (IsStepUnlessMemory c.choice.result)
    (sym (no_names_taken c.args.draft (runs c.args.line.now) c.in-Ok-None.field-0 c.in-Ok-None.field-0-is
    c.in-Ok-None.ensures)) c.choice.ensures
