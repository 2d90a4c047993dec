use Rattle.std.proofs.Common.{sym, subst, refl}
use Rattle.std.specs.Prelude.{IfSome}
use Rattle.std.proofs.Math.Nat.{le_refl}
use Rattle.om_reply.specs.Statuses.{IsAnswered}
use Rattle.om_classification.specs.Runs.{HasRun}
use Rattle.om_port.proofs.Taking.{takes_none}
use Rattle.om_signs.proofs.Results.{ok-injective, err-ne-ok}
use Rattle.om_classification.proofs.Written.{usage_not_done, usage_not_read}
use Rattle.om_classification.proofs.run.classify.Goals as goal

pub returns-in-Ok-clause-answer : goal.returns-in-Ok-clause-answer
returns-in-Ok-clause-answer g c = λ r names.
    subst (λ x. IfSome (g.S.Source.left c.args.source.now) (λ bytes. HasRun x bytes c.read_documents.result
    (g.K.Sink.taken c.args.sink.now) (g.K.Sink.taken c.read_documents.new.sink)))
    (ok-injective _ _ ((c.in-Ok.ensures.request r).1 names)) c.read_documents.ensures.answer

pub returns-in-Ok-clause-usage : goal.returns-in-Ok-clause-usage
returns-in-Ok-clause-usage g c =
    λ none. absurd (none (c.in-Ok.request, (c.in-Ok.ensures.request c.in-Ok.request).0 refl))

pub returns-in-Ok-clause-usage_line : goal.returns-in-Ok-clause-usage_line
returns-in-Ok-clause-usage_line g c =
    λ none usage. absurd (none (c.in-Ok.request, (c.in-Ok.ensures.request c.in-Ok.request).0 refl))

pub returns-in-Ok-clause-usage_cut : goal.returns-in-Ok-clause-usage_cut
returns-in-Ok-clause-usage_cut g c =
    λ none cut. absurd (none (c.in-Ok.request, (c.in-Ok.ensures.request c.in-Ok.request).0 refl))

pub returns-in-Ok-clause-unread : goal.returns-in-Ok-clause-unread
returns-in-Ok-clause-unread g c =
    λ none. absurd (none (c.in-Ok.request, (c.in-Ok.ensures.request c.in-Ok.request).0 refl))

pub returns-in-Ok-clause-only : goal.returns-in-Ok-clause-only
returns-in-Ok-clause-only g c = λ is asked. c.read_documents.ensures.no_usage is

pub returns-in-Err-clause-answer : goal.returns-in-Err-clause-answer
returns-in-Err-clause-answer g c = λ r names. absurd (err-ne-ok _ r ((c.in-Err.ensures.request r).1 names))

pub returns-in-Err-clause-usage : goal.returns-in-Err-clause-usage
returns-in-Err-clause-usage g c = λ none. c.write_usage.ensures.no_other

pub returns-in-Err-clause-usage_line : goal.returns-in-Err-clause-usage_line
returns-in-Err-clause-usage_line g c =
    λ none usage. (
      c.in-Err.usage.word,
      (c.in-Err.ensures.usage, (c.write_usage.ensures.whole (subst IsAnswered (sym usage) tt)).1),
    )

pub returns-in-Err-clause-usage_cut : goal.returns-in-Err-clause-usage_cut
returns-in-Err-clause-usage_cut g c =
    λ none cut. (c.in-Err.usage.word, (c.in-Err.ensures.usage, c.write_usage.ensures.cut cut))

pub returns-in-Err-clause-only : goal.returns-in-Err-clause-only
returns-in-Err-clause-only g c = λ is asked. err-ne-ok _ asked.0 ((c.in-Err.ensures.request asked.0).1 asked.1)

pub returns-in-Err-clause-read : goal.returns-in-Err-clause-read
returns-in-Err-clause-read g c = λ fault. absurd (usage_not_read _ c.write_usage.ensures.no_other fault)

pub returns-in-Err-clause-write : goal.returns-in-Err-clause-write
returns-in-Err-clause-write g c = c.write_usage.ensures.fault

pub returns-in-Err-clause-taken : goal.returns-in-Err-clause-taken
returns-in-Err-clause-taken g c = λ done. absurd (usage_not_done _ c.write_usage.ensures.no_other done)

pub returns-in-Err-clause-prefix : goal.returns-in-Err-clause-prefix
returns-in-Err-clause-prefix g c = takes_none _

pub returns-in-Err-clause-source_later : goal.returns-in-Err-clause-source_later
returns-in-Err-clause-source_later g c = le_refl _

pub returns-in-Err-clause-sink_later : goal.returns-in-Err-clause-sink_later
returns-in-Err-clause-sink_later g c = c.write_usage.ensures.later
