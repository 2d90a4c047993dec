use Rattle.om_make.proofs.summarizing.trip_by_covectors.Goals as goal

pub returns-clause-back : goal.returns-clause-back
returns-clause-back c = c.in_ok-back.ensures c.args.chi.now c.in_ok-covectors.ensures.list
