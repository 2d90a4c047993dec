use Rattle.std.proofs.Common.{sym, ◌∙◌}
use Rattle.std.proofs.lemmas.Bool.{false≢true}
use Rattle.std.proofs.lemmas.Result.{IfOk-weaker}
use Rattle.om_minors.proofs.BasisLaws.{basis_with, coloop_none, loop_none}
use Rattle.om_minors.proofs.NormalMinors.{contracted_at_coloop, deleted_normal}
use Rattle.om_minors.proofs.minors.deletion_beside_others.Goals as goal

pub general_contraction-requires-clause-used : goal.general_contraction-requires-clause-used
general_contraction-requires-clause-used c = λ loop.
    loop_none c.args.chi.now c.args.e loop
    (basis_with c.args.chi.now c.requires.lawful c.args.e
    (coloop_none c.args.chi.now c.args.e (c.is_coloop.ensures.0 c.if-is_coloop.true)))

pub returns-then-is_coloop : goal.returns-then-is_coloop
returns-then-is_coloop c = IfOk-weaker c.general_contraction.result _ _
    (contracted_at_coloop c.args.chi.now c.requires.lawful c.args.e c.requires.several c.requires.low c.requires.high
    (c.is_coloop.ensures.0 c.if-is_coloop.true)) c.general_contraction.ensures

pub returns-else-is_coloop : goal.returns-else-is_coloop
returns-else-is_coloop c = IfOk-weaker c.general_deletion.result _ _
    (deleted_normal c.args.chi.now c.requires.lawful c.args.e c.requires.several c.requires.low c.requires.high
    (λ coloop. false≢true (sym c.if-is_coloop.false ∙ c.is_coloop.ensures.1 coloop))) c.general_deletion.ensures
