use Rattle.std.proofs.Common.{refl}
use Rattle.std.proofs.Math.Nat.{le_refl}
use Rattle.om_program.proofs.FaultLaws.{no_memory_ne_usage, no_memory_ne_read_fault, no_memory_ne_write_fault}
use Rattle.om_program.proofs.piece_answers.answer_piece.Goals as goal

pub write_and_drop-requires-clause-reply : goal.write_and_drop-requires-clause-reply
write_and_drop-requires-clause-reply g c = c.in-Ok.ensures.reply

pub returns-in-Ok-clause-answer : goal.returns-in-Ok-clause-answer
returns-in-Ok-clause-answer g c =
    λ answered. (c.in-Ok.answer, (c.in-Ok.ensures.meant, c.write_and_drop.ensures.whole answered))

pub returns-in-Ok-clause-cut : goal.returns-in-Ok-clause-cut
returns-in-Ok-clause-cut g c = λ cut. (c.in-Ok.answer, (c.in-Ok.ensures.meant, c.write_and_drop.ensures.cut cut))

pub find_answer-requires-clause-lawful : goal.find_answer-requires-clause-lawful
find_answer-requires-clause-lawful g c κs within = c.requires.lawful

pub find_answer-requires-clause-reading : goal.find_answer-requires-clause-reading
find_answer-requires-clause-reading g c κs within = c.requires.reading

pub write_and_drop-requires-clause-ready : goal.write_and_drop-requires-clause-ready
write_and_drop-requires-clause-ready g c = c.requires.ready

pub returns-in-Ok-clause-untouched : goal.returns-in-Ok-clause-untouched
returns-in-Ok-clause-untouched g c = c.write_and_drop.ensures.untouched

pub returns-in-Ok-clause-no_usage : goal.returns-in-Ok-clause-no_usage
returns-in-Ok-clause-no_usage g c = c.write_and_drop.ensures.no_usage

pub returns-in-Ok-clause-no_read : goal.returns-in-Ok-clause-no_read
returns-in-Ok-clause-no_read g c = c.write_and_drop.ensures.no_read

pub returns-in-Ok-clause-write : goal.returns-in-Ok-clause-write
returns-in-Ok-clause-write g c = c.write_and_drop.ensures.fault

pub returns-in-Ok-clause-again : goal.returns-in-Ok-clause-again
returns-in-Ok-clause-again g c = c.write_and_drop.ensures.again

pub returns-in-Ok-clause-later : goal.returns-in-Ok-clause-later
returns-in-Ok-clause-later g c = c.write_and_drop.ensures.later

pub returns-in-Err-clause-answer : goal.returns-in-Err-clause-answer
returns-in-Err-clause-answer g c = λ answered. absurd answered

pub returns-in-Err-clause-cut : goal.returns-in-Err-clause-cut
returns-in-Err-clause-cut g c = λ cut. absurd (no_memory_ne_write_fault cut)

pub returns-in-Err-clause-no_usage : goal.returns-in-Err-clause-no_usage
returns-in-Err-clause-no_usage g c = no_memory_ne_usage

pub returns-in-Err-clause-no_read : goal.returns-in-Err-clause-no_read
returns-in-Err-clause-no_read g c = no_memory_ne_read_fault

pub returns-in-Err-clause-write : goal.returns-in-Err-clause-write
returns-in-Err-clause-write g c = λ cut. absurd (no_memory_ne_write_fault cut)

pub returns-in-Err-clause-later : goal.returns-in-Err-clause-later
returns-in-Err-clause-later g c = le_refl _

pub returns-in-Err-clause-untouched : goal.returns-in-Err-clause-untouched
returns-in-Err-clause-untouched g c = λ memory. refl

pub returns-in-Err-clause-again : goal.returns-in-Err-clause-again
returns-in-Err-clause-again g c = λ answered. absurd answered
