use Rattle.std.proofs.Common.{◌++◌, ◌∷◌, option_map, subst, sym}
use Rattle.om_pieces.specs.Making.{option_list}
use Rattle.om_classification.specs.Answers.{IsReached, IsGoing}
use Rattle.om_classification.proofs.Written.{IsOneWritten, piece_outcome}
use Rattle.om_classification.proofs.run.take_piece.Goals as goal

pub returns-in-Ok-clause-outcome : goal.returns-in-Ok-clause-outcome
returns-in-Ok-clause-outcome g c = λ r all left first going.
    let old = g.K.Sink.taken c.args.sink.now in
    let new = g.K.Sink.taken c.write_text.new.sink in
    let piece = c.in-Some.piece.items in
    piece_outcome r all c.args.progress.now c.take.new.self piece left c.in-Ok.step.status c.write_text.result
    c.in-Ok.step.text.items first old new c.in-Ok.ensures.replied
    (λ text b. c.in-Ok.ensures.step r all text left
    (subst (λ x. IsReached r all text c.args.progress.now (x ∷ left)) (sym c.as_slice.ensures.value) b))
    (subst (λ x. IsOneWritten c.in-Ok.step.status c.write_text.result x old new) c.as_slice-in-Ok.ensures.value
    c.write_text.ensures.either)
    (subst (λ o. IsGoing r all c.args.progress.now (option_list (option_map (λ p. p.items) o) ++ left) first old)
    c.in-Some.is going)
