use Rattle.std.proofs.Common.{[], option_map, refl, sym, subst, append-nil}
use Rattle.std.proofs.Math.Nat.{le_trans}
use Rattle.om_pieces.specs.Making.{option_list, rest_of}
use Rattle.om_classification.specs.Answers.{IsGoing, IsOutcome}
use Rattle.om_pieces.proofs.Steps.{made_end}
use Rattle.om_port.proofs.Taking.{rose_before}
use Rattle.om_classification.proofs.Written.{stopped}
use Rattle.om_classification.proofs.run.take_end.Goals as goal

pub returns-in_default-take_piece : goal.returns-in_default-take_piece
returns-in_default-take_piece g c = record {
  outcome = λ r all first h.
      stopped r all c.take_piece.result c.take_piece.new.progress (option_list (rest_of c.end.new.self)) first
      (g.K.Sink.taken c.take_piece.new.sink) c.in_default-take_piece.not-Done
      (c.take_piece.ensures.outcome r all (option_list (rest_of c.end.new.self)) first
      (subst (λ x. IsGoing r all c.args.progress x first (g.K.Sink.taken c.args.sink.now))
      (made_end c.args.cutter.now c.end.new.self (option_map (λ p. p.items) c.in-Ok.piece) (rest_of c.end.new.self)
      c.in-Ok.ensures.taken refl) h));
  no_usage = c.take_piece.ensures.no_usage;
  no_read = c.take_piece.ensures.no_read;
  write = c.take_piece.ensures.write;
  later = c.take_piece.ensures.later;
}

pub returns-in-Done-take_piece : goal.returns-in-Done-take_piece
returns-in-Done-take_piece g c = record {
  outcome = λ r all first h.
      let left = option_list (option_map (λ p. p.items) c.rest.result) in
      let one = c.take_piece.ensures.outcome r all left first
      (subst (λ x. IsGoing r all c.args.progress x first (g.K.Sink.taken c.args.sink.now))
      (made_end c.args.cutter.now c.end.new.self (option_map (λ p. p.items) c.in-Ok.piece)
      (option_map (λ p. p.items) c.rest.result) c.in-Ok.ensures.taken c.rest.ensures.piece) h) in
      let going : IsGoing r all c.take_piece.new.progress left first (g.K.Sink.taken c.take_piece.new.sink) =
      subst (λ t. IsOutcome r all t c.take_piece.new.progress left first (g.K.Sink.taken c.take_piece.new.sink))
      c.in-Done.is one in
      let two = c.take_piece-2.ensures.outcome r all [] first
      (subst (λ x. IsGoing r all c.take_piece.new.progress x first (g.K.Sink.taken c.take_piece.new.sink))
      (sym (append-nil left)) going) in
      c.finish.ensures.outcome r all first
      (subst (λ t. IsOutcome r all t c.take_piece-2.new.progress [] first (g.K.Sink.taken c.take_piece-2.new.sink))
      c.in-Done-take_piece.is two);
  no_usage = c.finish.ensures.no_usage;
  no_read = c.finish.ensures.no_read;
  write = λ cut. rose_before _ _ _ (le_trans c.take_piece.ensures.later c.take_piece-2.ensures.later)
      (c.finish.ensures.write cut);
  later = le_trans (le_trans c.take_piece.ensures.later c.take_piece-2.ensures.later) c.finish.ensures.later;
}

pub returns-in_default-take_piece-2 : goal.returns-in_default-take_piece-2
returns-in_default-take_piece-2 g c = record {
  outcome = λ r all first h.
      let left = option_list (option_map (λ p. p.items) c.rest.result) in
      let one = c.take_piece.ensures.outcome r all left first
      (subst (λ x. IsGoing r all c.args.progress x first (g.K.Sink.taken c.args.sink.now))
      (made_end c.args.cutter.now c.end.new.self (option_map (λ p. p.items) c.in-Ok.piece)
      (option_map (λ p. p.items) c.rest.result) c.in-Ok.ensures.taken c.rest.ensures.piece) h) in
      let going : IsGoing r all c.take_piece.new.progress left first (g.K.Sink.taken c.take_piece.new.sink) =
      subst (λ t. IsOutcome r all t c.take_piece.new.progress left first (g.K.Sink.taken c.take_piece.new.sink))
      c.in-Done.is one in
      stopped r all c.take_piece-2.result c.take_piece-2.new.progress [] first
      (g.K.Sink.taken c.take_piece-2.new.sink) c.in_default-take_piece-2.not-Done
      (c.take_piece-2.ensures.outcome r all [] first
      (subst (λ x. IsGoing r all c.take_piece.new.progress x first (g.K.Sink.taken c.take_piece.new.sink))
      (sym (append-nil left)) going));
  no_usage = c.take_piece-2.ensures.no_usage;
  no_read = c.take_piece-2.ensures.no_read;
  write = λ cut. rose_before _ _ _ c.take_piece.ensures.later (c.take_piece-2.ensures.write cut);
  later = le_trans c.take_piece.ensures.later c.take_piece-2.ensures.later;
}
