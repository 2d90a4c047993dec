use Rattle.std.proofs.Common.{subst, sym, ◌∙◌}
use Rattle.std.proofs.Math.Nat.{le_refl, le_trans}
use Rattle.std.proofs.lemmas.Bool.{true≢false}
use Rattle.om_reply.specs.declared.status.Status.TheVariants as status
use Rattle.om_reply.specs.Statuses.{IsReplied}
use Rattle.om_pieces.specs.Making.{completed, made}
use Rattle.om_program.proofs.Chaining.{nothing_yet}
use Rattle.om_port.proofs.Taking.{rose_before}
use Rattle.om_program.proofs.Steps.{replied_not, answered_replied, loop_goes, loop_stops, loop_breaks, loop_ends}
use Rattle.om_program.proofs.piece_answers.answer_bytes.Goals as goal

pub loop-byte-init : goal.loop-byte-init
loop-byte-init g c = record {
  answered = λ rest. nothing_yet _ _ _ _;
  prompt = λ rest. nothing_yet _ _ _ _;
  replied = c.requires.before;
  ready = c.requires.ready;
  later = le_refl _;
}

pub returns-then-not-is_answered : goal.returns-then-not-is_answered
returns-then-not-is_answered g c =
    let so_far = c.loop-byte.invariant in
    let does = c.answer_byte-status.ensures in
    let here = c.loop-byte-test.true in
    record {
      answer = λ answered. absurd (true≢false (sym (c.is_answered.ensures.1 answered) ∙ c.if-not-is_answered.true));
      memory = λ memory rest. loop_stops _ _ _ _ rest _ _ _ _ _ _ here (so_far.answered rest) (does.memory memory);
      cut = λ cut rest. loop_breaks _ _ _ _ rest _ _ _ _ _ _ here (so_far.answered rest) (does.cut cut);
      no_usage = does.no_usage;
      no_read = does.no_read;
      write = λ cut. rose_before _ _ _ so_far.later (does.write cut);
      again = does.again;
      later = le_trans so_far.later does.later;
      prompt = λ answered. absurd (true≢false (sym (c.is_answered.ensures.1 answered) ∙ c.if-not-is_answered.true));
    }

pub loop-byte-preserved : goal.loop-byte-preserved
loop-byte-preserved g c =
    let so_far = c.loop-byte.invariant in
    let does = c.answer_byte-status.ensures in
    let answered = c.is_answered.ensures.0 c.if-not-is_answered.false in
    record {
      answered = λ rest. loop_goes _ made _ _ _ _ rest _ _ _ _ _ _ _ c.loop-byte-test.true (so_far.answered rest)
          (does.answer answered);
      prompt = λ rest. loop_goes _ completed _ _ _ _ rest _ _ _ _ _ _ _ c.loop-byte-test.true (so_far.prompt rest)
          (does.prompt answered);
      replied = answered_replied _ answered does.no_usage;
      ready = does.again answered;
      later = le_trans so_far.later does.later;
    }

pub returns : goal.returns
returns g c =
    let so_far = c.loop-byte.invariant in
    let end = c.loop-byte-test.false in
    record {
      answer = λ answered rest. loop_ends _ made _ _ _ rest _ _ _ _ _ end (so_far.answered rest);
      memory = λ memory rest. absurd (subst IsReplied memory so_far.replied);
      cut = λ cut rest. absurd (subst IsReplied cut so_far.replied);
      no_usage = replied_not _ status.Usage so_far.replied (λ none. none);
      no_read = replied_not _ status.ReadFault so_far.replied (λ none. none);
      write = λ cut. absurd (subst IsReplied cut so_far.replied);
      again = λ answered. so_far.ready;
      later = so_far.later;
      prompt = λ answered rest. loop_ends _ completed _ _ _ rest _ _ _ _ _ end (so_far.prompt rest);
    }

pub answer_byte-status-requires : goal.answer_byte-status-requires
answer_byte-status-requires g c = (
  c.type_bounds.sync-R,
  (c.requires.lawful, (c.requires.reading, (c.loop-byte.invariant.ready, c.loop-byte.invariant.replied))),
)
