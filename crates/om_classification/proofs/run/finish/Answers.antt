use Rattle.std.proofs.Common.{subst}
use Rattle.om_classification.proofs.Written.{IsOneWritten, end_stopped}
use Rattle.om_classification.proofs.run.finish.Goals as goal

pub returns-in-Ok-clause-outcome : goal.returns-in-Ok-clause-outcome
returns-in-Ok-clause-outcome g c = λ r all first going.
    let old = g.K.Sink.taken c.args.sink.now in
    let new = g.K.Sink.taken c.write_text.new.sink in
    end_stopped r all c.args.progress c.in-Ok.step.status c.write_text.result c.in-Ok.step.text.items first old new
    c.in-Ok.ensures.replied (c.in-Ok.ensures.step r all)
    (subst (λ x. IsOneWritten c.in-Ok.step.status c.write_text.result x old new) c.as_slice.ensures.value
    c.write_text.ensures.either) going
