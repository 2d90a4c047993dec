use Rattle.std.proofs.Common.{refl, sym, subst}
use Rattle.om_lines.specs.Lines.{runs}
use Rattle.om_text.specs.Reading.{step}
use Rattle.om_text.specs.ReaderParts.{IsStepUnlessMemory, IsStateInRange}
use Rattle.om_text.proofs.stepping.step.Goals as goal

pub returns-in-Some : goal.returns-in-Some
returns-in-Some c = rw (c.in-Start.is, ← c.version_of.ensures, c.in-Some.is) refl

pub returns-in-Start : goal.returns-in-Start
returns-in-Start c = rw (c.in-Start.is, ← c.version_of.ensures, c.in-None.is) refl

pub open_line-requires : goal.open_line-requires
open_line-requires c = subst IsStateInRange c.in-Open.is c.requires

pub returns-in-Open : goal.returns-in-Open
returns-in-Open c =
    subst (λ t. IsStepUnlessMemory c.open_line.result (step t (runs c.args.line.now))) (sym c.in-Open.is)
    c.open_line.ensures

pub returns : goal.returns
returns c = rw c.in-Closed.is refl
