use Rattle.om_reply.specs.declared.status.Status.TheVariants as status
use Rattle.om_program.proofs.Steps.{next_answers, next_breaks, only_own, no_piece, replied_not}
use Rattle.std.proofs.Common.{refl, subst}
use Rattle.std.proofs.Math.Nat.{le_refl}
use Rattle.om_reply.specs.Statuses.{IsReplied}
use Rattle.om_program.proofs.piece_answers.answer_next.Goals as goal

pub returns-in-Some-clause-answer : goal.returns-in-Some-clause-answer
returns-in-Some-clause-answer g c =
    rw (c.in-Some.is, ← c.as_slice.ensures.value)
    (λ answered. next_answers _ _ _ _ _ _ _ answered c.greater.ensures.code c.answer_piece.ensures.answer)

pub returns-in-Some-clause-untouched : goal.returns-in-Some-clause-untouched
returns-in-Some-clause-untouched g c =
    λ memory. c.answer_piece.ensures.untouched
    (only_own _ _ _ status.NoMemory c.requires.before (λ none. none) c.greater.ensures.either memory)

pub returns-in-Some-clause-cut : goal.returns-in-Some-clause-cut
returns-in-Some-clause-cut g c =
    rw (c.in-Some.is, ← c.as_slice.ensures.value)
    (λ cut. next_breaks _ _ _ _ (c.answer_piece.ensures.cut
    (only_own _ _ _ status.WriteFault c.requires.before (λ none. none) c.greater.ensures.either cut)))

pub returns-in-Some-clause-no_usage : goal.returns-in-Some-clause-no_usage
returns-in-Some-clause-no_usage g c =
    λ usage. c.answer_piece.ensures.no_usage
    (only_own _ _ _ status.Usage c.requires.before (λ none. none) c.greater.ensures.either usage)

pub returns-in-Some-clause-no_read : goal.returns-in-Some-clause-no_read
returns-in-Some-clause-no_read g c =
    λ fault. c.answer_piece.ensures.no_read
    (only_own _ _ _ status.ReadFault c.requires.before (λ none. none) c.greater.ensures.either fault)

pub returns-in-Some-clause-write : goal.returns-in-Some-clause-write
returns-in-Some-clause-write g c =
    λ cut. c.answer_piece.ensures.write
    (only_own _ _ _ status.WriteFault c.requires.before (λ none. none) c.greater.ensures.either cut)

pub returns-in-None-clause-answer : goal.returns-in-None-clause-answer
returns-in-None-clause-answer g c =
    rw c.in-None.is (λ answered. no_piece _ c.args.before (g.K.Sink.taken c.args.sink.now))

pub answer_piece-requires-clause-lawful : goal.answer_piece-requires-clause-lawful
answer_piece-requires-clause-lawful g c κs within = c.requires.lawful

pub answer_piece-requires-clause-reading : goal.answer_piece-requires-clause-reading
answer_piece-requires-clause-reading g c κs within = c.requires.reading

pub answer_piece-requires-clause-ready : goal.answer_piece-requires-clause-ready
answer_piece-requires-clause-ready g c κs within = c.requires.ready

pub returns-in-Some-clause-later : goal.returns-in-Some-clause-later
returns-in-Some-clause-later g c = c.answer_piece.ensures.later

pub returns-in-None-clause-untouched : goal.returns-in-None-clause-untouched
returns-in-None-clause-untouched g c = λ memory. refl

pub returns-in-None-clause-cut : goal.returns-in-None-clause-cut
returns-in-None-clause-cut g c = λ cut. absurd (subst IsReplied cut c.requires.before)

pub returns-in-None-clause-no_usage : goal.returns-in-None-clause-no_usage
returns-in-None-clause-no_usage g c = replied_not _ status.Usage c.requires.before (λ none. none)

pub returns-in-None-clause-no_read : goal.returns-in-None-clause-no_read
returns-in-None-clause-no_read g c = replied_not _ status.ReadFault c.requires.before (λ none. none)

pub returns-in-None-clause-write : goal.returns-in-None-clause-write
returns-in-None-clause-write g c = λ cut. absurd (subst IsReplied cut c.requires.before)

pub returns-in-None-clause-again : goal.returns-in-None-clause-again
returns-in-None-clause-again g c = λ answered. c.requires.ready

pub returns-in-None-clause-later : goal.returns-in-None-clause-later
returns-in-None-clause-later g c = le_refl _
