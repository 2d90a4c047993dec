use Rattle.std.proofs.Common.{option_map, subst}
use Rattle.om_classification.specs.Answers.{IsGoing}
use Rattle.om_pieces.proofs.Steps.{made_byte}
use Rattle.om_classification.proofs.Written.{going_first}
use Rattle.om_pieces.specs.Making.{made}
use Rattle.om_classification.proofs.run.take_byte.Goals as goal

pub returns-in-Ok-clause-outcome : goal.returns-in-Ok-clause-outcome
returns-in-Ok-clause-outcome g c = λ r all rest first going.
    c.take_piece.ensures.outcome r all (made c.feed.new.self rest) first
    (subst (λ x. IsGoing r all c.args.progress.now x first (g.K.Sink.taken c.args.sink.now))
    (made_byte c.args.cutter.now c.feed.new.self (option_map (λ p. p.items) c.in-Ok.piece) c.args.byte rest
    c.in-Ok.ensures.taken) going)

pub returns-in-Err-clause-outcome : goal.returns-in-Err-clause-outcome
returns-in-Err-clause-outcome g c = λ r all rest first going. going_first r all _ _ first _ going
