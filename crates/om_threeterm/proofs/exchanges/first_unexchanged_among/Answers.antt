use Rattle.om_subsets.specs.Subsets.{choose}
use Rattle.std.proofs.Common.{ap, ◌∙◌}
use Rattle.om_threeterm.proofs.ExchangeLaws.{exchange_of_none, first_of_least}
use Rattle.om_threeterm.proofs.exchanges.first_unexchanged_among.Goals as goal

pub returns-in-None-clause-none : goal.returns-in-None-clause-none
returns-in-None-clause-none g c =
    exchange_of_none c.args.map.now c.choose-count.result (c.choose-count.ensures.value ∙ ap (λ m. choose m.elements
    m.rank) c.map.view_is) c.in-None.ensures

pub returns-in_ok-c-in-Some-clause-first : goal.returns-in_ok-c-in-Some-clause-first
returns-in_ok-c-in-Some-clause-first g c =
    first_of_least c.args.map.now c.choose-count.result c.in-Some.k c.in_ok-c-in-Some.e c.set_at-b.result
    c.in_ok-c-in-Some.c (c.choose-count.ensures.value ∙ ap (λ m. choose m.elements m.rank) c.map.view_is)
    c.in-Some.ensures c.set_at-b.ensures.n
    c.set_at-b.ensures.elements c.in_ok-c-in-Some.ensures.first
