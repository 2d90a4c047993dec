use Rattle.om_parallel.proofs.FirstBadLaws.{halfway, least_in_front, first_in_back}
use Rattle.om_parallel.proofs.probe.+fn-search-back+fn-search-front+search.Goals as goal

pub returns-in-Some : goal.returns-in-Some
returns-in-Some g t c =
    least_in_front (g.P.Probe.is_bad c.args.probe.now) c.args.low _ c.args.high _
    (halfway c.args.low c.args.high c.requires).1 (rw c.in-Some.is at c.join-first.ensures.first)

pub returns-in-None : goal.returns-in-None
returns-in-None g t c =
    first_in_back (g.P.Probe.is_bad c.args.probe.now) c.args.low _ c.args.high c.join-first.result.1
    (halfway c.args.low c.args.high c.requires).0 (rw c.in-None.is at c.join-first.ensures.first)
    c.join-first.ensures.second
