use Rattle.std.proofs.Common.{subst, sym, refl, inl}
use Rattle.om_reply.specs.Statuses.{IsAnswered}
use Rattle.om_pieces.proofs.Feeding.{has_one_cut}
use Rattle.om_program.proofs.Runs.{run_answered, run_stopped, run_up_to_date, run_broken, reads_pieces}
use Rattle.std.proofs.Math.Nat.{le_refl}
use Rattle.om_port.proofs.Taking.{takes_none}
use Rattle.om_program.proofs.FaultLaws.{usage_ne_read_fault}
use Rattle.om_program.proofs.each.run_each.Goals as goal

pub returns-in-Ok : goal.returns-in-Ok
returns-in-Ok g c = record {
  answer = rw c.unwrap_or.ensures (λ n pieces answered. run_answered _ c.in-Ok.task _ _ _ _ n c.in-Ok.ensures.task
      c.in-Ok.ensures.one pieces (c.answer_source.ensures.answer answered));
  fault = rw c.unwrap_or.ensures (λ n pieces fault. run_stopped _ c.in-Ok.task _ _ _ n c.in-Ok.ensures.task
      c.in-Ok.ensures.one pieces (c.answer_source.ensures.fault fault));
  prompt = rw c.unwrap_or.ensures (λ n pieces fault. run_up_to_date _ c.in-Ok.task _ _ _ _ n c.in-Ok.ensures.task
      c.in-Ok.ensures.one pieces (c.answer_source.ensures.prompt fault));
  cut = rw c.unwrap_or.ensures (λ n pieces cut. run_broken _ c.in-Ok.task _ _ _ n c.in-Ok.ensures.task
      c.in-Ok.ensures.one pieces (c.answer_source.ensures.cut cut));
  one = has_one_cut;
  usage = λ none. absurd (none (c.in-Ok.task, (c.in-Ok.ensures.task.0, c.in-Ok.ensures.task.1)));
  usage_line = λ none usage. absurd (none (c.in-Ok.task, (c.in-Ok.ensures.task.0, c.in-Ok.ensures.task.1)));
  usage_cut = λ none cut. absurd (none (c.in-Ok.task, (c.in-Ok.ensures.task.0, c.in-Ok.ensures.task.1)));
  only = rw c.unwrap_or.ensures (λ is command. c.answer_source.ensures.no_usage is);
  unread = λ none. absurd (none (c.in-Ok.task, (c.in-Ok.ensures.task.0, c.in-Ok.ensures.task.1)));
  read = rw c.unwrap_or.ensures c.answer_source.ensures.read;
  write = rw c.unwrap_or.ensures c.answer_source.ensures.write;
  still = rw c.unwrap_or.ensures c.answer_source.ensures.still;
  taken = rw c.unwrap_or.ensures (λ answered command. c.answer_source.ensures.taken answered);
  prefix = c.answer_source.ensures.prefix;
  source_later = c.answer_source.ensures.source_later;
  sink_later = c.answer_source.ensures.sink_later;
}

pub returns-in-Err : goal.returns-in-Err
returns-in-Err g c = record {
  answer = λ n pieces answered. absurd (c.in-Err.ensures.none (reads_pieces _ n pieces));
  fault = λ n pieces fault. absurd (c.in-Err.ensures.none (reads_pieces _ n pieces));
  prompt = λ n pieces fault. absurd (c.in-Err.ensures.none (reads_pieces _ n pieces));
  cut = λ n pieces cut. absurd (c.in-Err.ensures.none (reads_pieces _ n pieces));
  one = has_one_cut;
  usage = λ none. c.write_usage.ensures.no_other;
  usage_line = λ none usage. (
    c.in-Err.usage.word,
    (c.in-Err.ensures.usage, (c.write_usage.ensures.whole (subst IsAnswered (sym usage) tt)).1),
  );
  usage_cut = λ none cut. (c.in-Err.usage.word, (c.in-Err.ensures.usage, c.write_usage.ensures.cut cut));
  only = λ is command. c.in-Err.ensures.none command;
  unread = λ none. refl;
  read = λ fault. absurd (usage_ne_read_fault _ c.write_usage.ensures.no_other fault);
  write = c.write_usage.ensures.fault;
  still = λ other. inl c.requires.source_ready;
  taken = λ answered command. absurd (c.in-Err.ensures.none command);
  prefix = takes_none _;
  source_later = le_refl _;
  sink_later = c.write_usage.ensures.later;
}
