use Rattle.std.proofs.Common.{sym, subst}
use Rattle.om_lines.specs.Lines.{runs}
use Rattle.om_document.specs.declared.body.Body.TheVariants.{Circuits, Cocircuits, Covectors}
use Rattle.om_text.specs.ReaderParts.{IsStepUnlessMemory, IsBodyInRange, body_with_line}
use Rattle.om_text.proofs.PartSteps.{list_step}
use Rattle.om_text.proofs.body_lines.with_line.Goals as goal

pub with_values-requires : goal.with_values-requires
with_values-requires c = subst IsBodyInRange c.in-Chirotope.is c.requires.small

pub returns-in-Chirotope : goal.returns-in-Chirotope
returns-in-Chirotope c =
    subst (λ b. IsStepUnlessMemory c.with_values.result
    (body_with_line c.args.setting c.args.elements b (runs c.args.line.now))) (sym c.in-Chirotope.is)
    (c.with_values.ensures c.args.elements c.args.setting)

pub returns-in-Circuits : goal.returns-in-Circuits
returns-in-Circuits c =
    let w = runs c.args.line.now in
    let mapped = c.map.ensures.cases in
    let read = c.with_list_line.ensures in
    subst (λ b. IsStepUnlessMemory c.map.result (body_with_line c.args.setting c.args.elements b w))
    (sym c.in-Circuits.is)
    (list_step Circuits c.args.setting c.args.elements c.in-Circuits.members w _ _ mapped read)

pub returns-in-Cocircuits : goal.returns-in-Cocircuits
returns-in-Cocircuits c =
    let w = runs c.args.line.now in
    let mapped = c.map-in-Cocircuits.ensures.cases in
    let read = c.with_list_line-in-Cocircuits.ensures in
    subst (λ b. IsStepUnlessMemory c.map-in-Cocircuits.result (body_with_line c.args.setting c.args.elements b w))
    (sym c.in-Cocircuits.is)
    (list_step Cocircuits c.args.setting c.args.elements c.in-Cocircuits.members w _ _ mapped read)

pub returns-in-Covectors : goal.returns-in-Covectors
returns-in-Covectors c =
    let w = runs c.args.line.now in
    let mapped = c.map-in-Covectors.ensures.cases in
    let read = c.with_list_line-in-Covectors.ensures in
    subst (λ b. IsStepUnlessMemory c.map-in-Covectors.result (body_with_line c.args.setting c.args.elements b w))
    (sym c.in-Covectors.is)
    (list_step Covectors c.args.setting c.args.elements c.in-Covectors.members w _ _ mapped read)

pub returns-in-Wiring : goal.returns-in-Wiring
returns-in-Wiring c =
    subst (λ b. IsStepUnlessMemory c.with_blocks.result
    (body_with_line c.args.setting c.args.elements b (runs c.args.line.now))) (sym c.in-Wiring.is)
    (c.with_blocks.ensures c.args.elements c.args.setting)

pub returns-in-Points : goal.returns-in-Points
returns-in-Points c =
    subst (λ b. IsStepUnlessMemory c.with_point.result
    (body_with_line c.args.setting c.args.elements b (runs c.args.line.now))) (sym c.in-Points.is)
    (c.with_point.ensures c.args.setting)
