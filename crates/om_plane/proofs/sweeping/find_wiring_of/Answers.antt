use Rattle.std.proofs.Common.{ap, sym, subst, ◌∙◌}
use Rattle.std.proofs.lemmas.Result.{IfOk-weaker}
use Rattle.om_document.specs.declared.document.Document.{Document}
use Rattle.om_document.specs.Form.{IsInForm}
use Rattle.om_wiring.specs.declared.sweep_error.SweepError.TheVariants.{NotRank3}
use Rattle.om_reply.specs.Answers.{shows}
use Rattle.om_plane.specs.Sweeps.{IsWiringOfMap, wiring_document, least}
use Rattle.om_plane.proofs.RankThreeLaws.{of_rank3, no_error}
use Rattle.om_plane.proofs.SweepLaws.{refused_sweep}
use Rattle.om_plane.proofs.sweeping.find_wiring_of.Goals as goal

pub returns-in-Ok : goal.returns-in-Ok
returns-in-Ok c =
    let P : Document → Type 0 = λ d. IsWiringOfMap c.args.chirotope.now (shows d) in
    let same = c.wiring_document.ensures.value
    ∙ ap (λ n. wiring_document n c.in-Ok.wiring.blocks) c.in-Ok.ensures.elements in
    let three = of_rank3 c.args.chirotope.now c.sweep.result NotRank3 c.sweep.ensures.rank
    (λ r. no_error _ (NotRank3 r) _ c.in-Ok.is) in
    subst P (sym same)
    (least c.in-Ok.wiring.blocks three c.in-Ok.ensures.sweepable c.in-Ok.ensures.least
    (subst IsInForm same c.wiring_document.ensures.form))

pub returns-in-Err : goal.returns-in-Err
returns-in-Err c =
    IfOk-weaker _ _ _
    (refused_sweep c.args.chirotope.now c.sweep.result c.in-Err.why c.in-Err.is c.sweep.ensures.rank
    c.in-Err.ensures.not_sweepable) c.sweep_refusal.ensures
