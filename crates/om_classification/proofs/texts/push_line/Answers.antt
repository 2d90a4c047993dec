use Rattle.std.proofs.Common.{◌++◌, codes, sym, ap, ◌∙◌}
use Rattle.om_classification.specs.Texts.{named, fault_text, unfit_text, line_text}
use Rattle.om_classification.proofs.Results.{behind}
use Rattle.om_classification.proofs.texts.push_line.Goals as goal

pub returns-in_ok-push_named-in-Fault : goal.returns-in_ok-push_named-in-Fault
returns-in_ok-push_named-in-Fault c =
    behind c.push_fault.result _ _ _ _ _ _ c.in_ok-push_named-in-Fault.ensures
    (ap line_text c.in-Fault.is ∙ ap (λ k. named (codes "refused document") k ++ fault_text c.in-Fault.fault)
    (sym c.from-in-Fault.ensures)) c.push_fault.ensures

pub returns-in_ok-push_named-in-Elements : goal.returns-in_ok-push_named-in-Elements
returns-in_ok-push_named-in-Elements c =
    behind c.push-in-Elements.result _ _ _ _ _ _ c.in_ok-push_named-in-Elements.ensures
    (ap line_text c.in-Elements.is ∙ ap (λ k. named (codes "refused document") k ++ codes " elements\n")
    (sym c.from-in-Elements.ensures)) c.push-in-Elements.ensures.ok

pub returns-in_ok-push_named-in-Unfit : goal.returns-in_ok-push_named-in-Unfit
returns-in_ok-push_named-in-Unfit c =
    behind c.push_unfit.result _ _ _ _ _ _ c.in_ok-push_named-in-Unfit.ensures
    (ap line_text c.in-Unfit.is ∙ ap (λ k. named (codes "refused document") k ++ unfit_text c.in-Unfit.unfit)
    (sym c.from-in-Unfit.ensures)) c.push_unfit.ensures
