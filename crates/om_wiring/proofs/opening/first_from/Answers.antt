use Rattle.std.proofs.Common.{sym, ◌∙◌}
use Rattle.std.proofs.lemmas.Bool.{false≢true}
use Rattle.om_wiring.specs.Scans.{position_in}
use Rattle.om_wiring.proofs.OpeningLaws.{none_before, none_more, none_at_all, least_found}
use Rattle.om_wiring.proofs.opening.first_from.Goals as goal

pub loop-last-init : goal.loop-last-init
loop-last-init c = none_before c.args.chi.now (position_in c.args.order.now) c.args.first

pub returns-then-is_open-clause-some : goal.returns-then-is_open-clause-some
returns-then-is_open-clause-some c =
    least_found c.args.chi.now (position_in c.args.order.now) c.args.first c.loop-last.last c.loop-last.invariant
    (c.is_open.ensures.0 c.if-is_open.true)

pub loop-last-preserved : goal.loop-last-preserved
loop-last-preserved c =
    none_more c.args.chi.now (position_in c.args.order.now) c.args.first c.loop-last.last c.loop-last.invariant
    (λ o. false≢true (sym c.if-is_open.false ∙ c.is_open.ensures.1 o))

pub returns-clause-none : goal.returns-clause-none
returns-clause-none c =
    none_at_all c.args.chi.now (position_in c.args.order.now) c.args.first c.loop-last.last
    c.elements-elements.result c.elements-elements.ensures.value c.loop-last-test.false c.loop-last.invariant
