use Rattle.std.proofs.Common.{Some, arith, inl, refl}
use Rattle.om_plane.proofs.EvidenceLaws.{evidence_decides}
use Rattle.om_port.proofs.Taking.{takes_none}
use Rattle.om_program.proofs.CompletenessLaws.{alone_ends, always_answered}
use Rattle.om_program.proofs.FaultLaws.{usage_ne_read_fault, usage_ne_no_memory}
use Rattle.om_program.proofs.MeaningLaws.{named_answer, named_cut_off, usage_answer, usage_cut_off}
use Rattle.om_program.proofs.OneAnswer.{words_determined}
use Rattle.om_program.proofs.OnlyTask.{only_task, no_task, same_nothing, nothing_read, command_read}
use Rattle.om_program.proofs.ValidClaimLaws.{verdicts_found_valid, limits_found}
use Rattle.om_program.proofs.running.run.Goals as goal

pub carry_out-requires-clause-lawful : goal.carry_out-requires-clause-lawful
carry_out-requires-clause-lawful g c κs within = c.in-Ok.ensures.lawful

pub returns-in-Ok : goal.returns-in-Ok
returns-in-Ok g c =
    let t = c.in-Ok.task in
    let only = only_task _ t c.in-Ok.ensures.task in
    let does = c.carry_out.ensures in
    record {
      answer = λ answered. named_answer _ _ _ _ _ _ only.named (does.answer answered);
      determined = words_determined _ _ c.in-Ok.ensures.task;
      untouched_fault = does.untouched_fault;
      untouched_memory = does.untouched_memory;
      cut = λ cut. named_cut_off _ _ _ _ _ only.named (does.cut cut);
      reading = λ fault. (t, (only.named, does.reading fault));
      read = does.read;
      write = does.write;
      usage = λ none. absurd (none (t, only.named));
      only = λ is command. does.no_usage is;
      unread = λ none. absurd (none (t, only.named));
      alone = λ s named nothing. does.unread (same_nothing only s named nothing);
      alone_answer = λ lone answered bytes.
          named_answer _ t (Some bytes) _ _ _ only.named (does.alone_answer (nothing_read only lone) answered bytes);
      alone_cut = λ lone cut bytes.
          named_cut_off _ t (Some bytes) _ _ only.named (does.alone_cut (nothing_read only lone) cut bytes);
      alone_ends = λ s named nothing. let alone = same_nothing only s named nothing in
          alone_ends t _ _ _ alone (does.alone_answer alone) (λ fault. does.reading fault alone);
      complete = λ given no_read no_write. always_answered _ t _ _ _ _ given (only.one _ given.names) only.named
          does.answer does.alone_answer does.no_usage (λ e. no_read (does.read e)) (λ e. no_write (does.write e));
      decided = verdicts_found_valid;
      limits = limits_found;
      evidence = evidence_decides;
      taken = λ answered command. does.taken answered (command_read only command);
      prefix = does.prefix;
      source_later = does.source_later;
      sink_later = does.sink_later;
      still = does.still;
    }

pub returns-in-Err : goal.returns-in-Err
returns-in-Err g c =
    let none = no_task _ _ c.in-Err.ensures.task in
    let does = c.write_usage.ensures in
    record {
      answer = λ answered. usage_answer _ _ _ c.in-Err.ensures.usage (does.whole answered);
      determined = words_determined _ _ c.in-Err.ensures.task;
      untouched_fault = λ fault. absurd (usage_ne_read_fault _ does.no_other fault);
      untouched_memory = λ memory. absurd (usage_ne_no_memory _ does.no_other memory);
      cut = λ cut. usage_cut_off _ _ _ c.in-Err.ensures.usage (does.cut cut);
      reading = λ fault. absurd (usage_ne_read_fault _ does.no_other fault);
      read = λ fault. absurd (usage_ne_read_fault _ does.no_other fault);
      write = does.fault;
      usage = λ none. does.no_other;
      only = λ is command. none command.0 command.1;
      unread = λ none. refl;
      alone = λ s named. absurd (none s named);
      alone_answer = λ lone answered bytes. usage_answer (Some bytes) _ _ c.in-Err.ensures.usage (does.whole answered);
      alone_cut = λ lone cut bytes. usage_cut_off (Some bytes) _ _ c.in-Err.ensures.usage (does.cut cut);
      alone_ends = λ s named. absurd (none s named);
      complete = λ given. absurd (none given.task given.names);
      decided = verdicts_found_valid;
      limits = limits_found;
      evidence = evidence_decides;
      taken = λ answered command. absurd (none command.0 command.1.0);
      prefix = takes_none _;
      source_later = omega arith;
      sink_later = does.later;
      still = λ other. inl c.requires.source_ready;
    }
