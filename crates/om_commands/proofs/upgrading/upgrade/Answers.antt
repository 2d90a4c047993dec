use Rattle.std.specs.Prelude.{Err}
use Rattle.std.specs.declared.result.Result.{Result}
use Rattle.std.proofs.Common.{ap, subst}
use Rattle.om_document.specs.declared.document.Document.{Document}
use Rattle.om_reply.specs.Answers.{shows_two}
use Rattle.om_commands.specs.Checked.{refused, met}
use Rattle.om_commands.specs.declared.keeping.Unkept.{Unkept}
use Rattle.om_commands.specs.Keeping.{IsKept}
use Rattle.om_commands.proofs.upgrading.upgrade.Goals as goal

-- why the document isn't kept
abbrev IsUnkept : Document → Unkept → Type 0
IsUnkept d why = (let r : Result Document Unkept = Err why in IsKept d r)

pub returns-in-Ok : goal.returns-in-Ok
returns-in-Ok g c = met _ c.in-Ok.ensures.1 (ap shows_two c.in-Ok.ensures.0)

pub returns-in-Err-Refused : goal.returns-in-Err-Refused
returns-in-Err-Refused g c =
    rw (c.refused_line.ensures, c.in-Err-Refused.why-is)
    (refused _ (subst (IsUnkept c.args.document) c.in-Err-Refused.field-0-is c.in-Err-Refused.ensures))
