use Rattle.std.specs.Prelude.{Err}
use Rattle.std.proofs.Common.{ap, arith, rules}
use Rattle.om_program.specs.Meaning.{ReadingMeans}
use Rattle.om_program.proofs.MeaningLaws.{meant_of_long, taken_whole, taken_long}
use Rattle.om_program.proofs.PlanLaws.{long_reading}
use Rattle.om_program.proofs.ReplyLaws.{reading_replies}
use Rattle.std.proofs.Common.{inl, inr, refl}
use Rattle.om_port.proofs.Taking.{taken_to_end}
use Rattle.om_program.proofs.running.read_and_answer.Goals as goal

pub returns-in_ok-answer_reading-in-Ok-clause-reply : goal.returns-in_ok-answer_reading-in-Ok-clause-reply
returns-in_ok-answer_reading-in-Ok-clause-reply g c = reading_replies _ _ _ c.in_ok-answer_reading-in-Ok.ensures

pub returns-in_ok-answer_reading-in-Ok-clause-taken : goal.returns-in_ok-answer_reading-in-Ok-clause-taken
returns-in_ok-answer_reading-in-Ok-clause-taken g c =
    taken_whole _ _ _ c.in-Ok.ensures.ok c.in-Ok.ensures.end (omega (arith, c.in-Ok.bytes.ok.0, c.in-Ok.ensures.short))

pub returns-in_ok-answer_reading-in-Ok-clause-still : goal.returns-in_ok-answer_reading-in-Ok-clause-still
returns-in_ok-answer_reading-in-Ok-clause-still g c =
    λ other. inr (taken_to_end _ _ _ c.in-Ok.ensures.ok c.in-Ok.ensures.end)

pub returns-in-Err-TooLong : goal.returns-in-Err-TooLong
returns-in-Err-TooLong g c = record {
  meant = meant_of_long (ReadingMeans c.args.what) _ _ _ (c.in-Err-TooLong.ensures.long
      (ap Err c.in-Err-TooLong.field-0-is)) (long_reading c.args.what);
  reply = search rules;
  read = search rules;
  taken = taken_long _ _ (c.in-Err-TooLong.ensures.long (ap Err c.in-Err-TooLong.field-0-is));
  prefix = c.in-Err-TooLong.ensures.prefix;
  later = c.in-Err-TooLong.ensures.later;
  still = λ other. inl (c.in-Err-TooLong.ensures.again (inl (ap Err c.in-Err-TooLong.field-0-is)));
}

pub returns-in-Err-ReadFault : goal.returns-in-Err-ReadFault
returns-in-Err-ReadFault g c = record {
  meant = tt;
  reply = tt;
  read = λ fault. c.in-Err-ReadFault.ensures.fault (ap Err c.in-Err-ReadFault.field-0-is);
  taken = tt;
  prefix = c.in-Err-ReadFault.ensures.prefix;
  later = c.in-Err-ReadFault.ensures.later;
  still = λ other. absurd (other refl);
}

pub returns-in-Err-Memory : goal.returns-in-Err-Memory
returns-in-Err-Memory g c = record {
  meant = tt;
  reply = tt;
  read = λ fault. cc;
  taken = tt;
  prefix = c.in-Err-Memory.ensures.prefix;
  later = c.in-Err-Memory.ensures.later;
  still = λ other. inl (c.in-Err-Memory.ensures.again (inr (ap Err c.in-Err-Memory.field-0-is)));
}
