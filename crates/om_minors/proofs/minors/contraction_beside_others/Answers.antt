use Rattle.std.proofs.Common.{sym, ◌∙◌}
use Rattle.std.proofs.lemmas.Bool.{false≢true}
use Rattle.std.proofs.lemmas.Result.{IfOk-weaker}
use Rattle.om_minors.proofs.BasisLaws.{basis_without, coloop_none, loop_none}
use Rattle.om_minors.proofs.NormalMinors.{contracted_normal, deleted_at_loop}
use Rattle.om_minors.proofs.minors.contraction_beside_others.Goals as goal

pub general_deletion-requires-clause-avoided : goal.general_deletion-requires-clause-avoided
general_deletion-requires-clause-avoided c = λ coloop.
    coloop_none c.args.chi.now c.args.e coloop
    (basis_without c.args.chi.now c.requires.lawful c.args.e
    (loop_none c.args.chi.now c.args.e (c.is_loop.ensures.0 c.if-is_loop.true)))

pub returns-then-is_loop : goal.returns-then-is_loop
returns-then-is_loop c = IfOk-weaker c.general_deletion.result _ _
    (deleted_at_loop c.args.chi.now c.requires.lawful c.args.e c.requires.several c.requires.low c.requires.high
    (c.is_loop.ensures.0 c.if-is_loop.true)) c.general_deletion.ensures

pub returns-else-is_loop : goal.returns-else-is_loop
returns-else-is_loop c = IfOk-weaker c.general_contraction.result _ _
    (contracted_normal c.args.chi.now c.requires.lawful c.args.e c.requires.several c.requires.low c.requires.high
    (λ loop. false≢true (sym c.if-is_loop.false ∙ c.is_loop.ensures.1 loop))) c.general_contraction.ensures
