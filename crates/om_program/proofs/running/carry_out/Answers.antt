use Rattle.std.specs.Prelude.{Some, Err}
use Rattle.std.proofs.Common.{ap, refl, rules}
use Rattle.om_program.specs.Meaning.{TaskMeans}
use Rattle.om_program.proofs.MeaningLaws.{whole, cut_off}
use Rattle.std.specs.Prelude.{◌≡◌, Result}
use Rattle.om_reply.specs.declared.answer.Answer.{Answer}
use Rattle.om_program.specs.declared.running.Unanswered.{Unanswered}
use Rattle.om_program.proofs.FaultLaws.{unanswered}
use Rattle.om_program.proofs.running.carry_out.Goals as goal

same_error : (e f : Unanswered) → ◌≡◌ {A = Result Answer Unanswered} (Err e) (Err f) → e ≡ f
same_error e f same = cc

pub returns-in-Ok : goal.returns-in-Ok
returns-in-Ok g c = record {
  no_usage = c.write_and_drop.ensures.no_usage;
  answer = λ answered. whole (TaskMeans c.args.task) _ _ _ _ _ c.in-Ok.ensures.meant
      (c.write_and_drop.ensures.whole answered);
  untouched_fault = λ fault. absurd (c.write_and_drop.ensures.no_read fault);
  untouched_memory = c.write_and_drop.ensures.untouched;
  cut = λ cut. cut_off (TaskMeans c.args.task) _ _ _ _ c.in-Ok.ensures.meant (c.write_and_drop.ensures.cut cut);
  reading = λ fault. absurd (c.write_and_drop.ensures.no_read fault);
  read = λ fault. absurd (c.write_and_drop.ensures.no_read fault);
  write = c.write_and_drop.ensures.fault;
  unread = c.in-Ok.ensures.unread;
  alone_answer = λ nothing answered bytes. whole (TaskMeans c.args.task) (Some bytes) _ _ _ _
      (c.in-Ok.ensures.alone nothing bytes) (c.write_and_drop.ensures.whole answered);
  alone_cut = λ nothing cut bytes. cut_off (TaskMeans c.args.task) (Some bytes) _ _ _
      (c.in-Ok.ensures.alone nothing bytes) (c.write_and_drop.ensures.cut cut);
  taken = λ answered. c.in-Ok.ensures.taken;
  prefix = c.in-Ok.ensures.prefix;
  source_later = c.in-Ok.ensures.later;
  sink_later = c.write_and_drop.ensures.later;
  still = λ other. c.in-Ok.ensures.still (λ same. cc);
}

pub find_answer-requires : goal.find_answer-requires
find_answer-requires g c = (c.type_bounds.sync-R, (c.requires.lawful, c.requires.source_ready))

pub write_and_drop-requires : goal.write_and_drop-requires
write_and_drop-requires g c = record {
  reply = c.in-Ok.ensures.reply;
  ready = c.requires.sink_ready;
}

pub returns-in-Err : goal.returns-in-Err
returns-in-Err g c =
    let ends = unanswered _ c.status.ensures.one in
    let found = c.in-Err.ensures in
    record {
      no_usage = ends.no_usage;
      answer = λ answered. absurd (ends.no_answer answered);
      untouched_fault = λ fault. refl;
      untouched_memory = λ none. refl;
      cut = λ cut. absurd (ends.no_cut cut);
      reading = λ fault. found.reading (ap Err (c.status.ensures.fault.0 fault));
      read = λ fault. found.read (ap Err (c.status.ensures.fault.0 fault));
      write = λ cut. absurd (ends.no_cut cut);
      unread = found.unread;
      alone_answer = λ nothing answered. absurd (ends.no_answer answered);
      alone_cut = λ nothing cut. absurd (ends.no_cut cut);
      taken = λ answered. absurd (ends.no_answer answered);
      prefix = found.prefix;
      source_later = found.later;
      sink_later = search rules;
      still = λ other. found.still (λ same. other (c.status.ensures.fault.1 (same_error _ _ same)));
    }
