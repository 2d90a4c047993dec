use Rattle.std.specs.Prelude.{◌≡◌}
use Rattle.std.proofs.Common.{subst, inl}
use Rattle.om_words.specs.declared.reads.Reads.TheVariants as source
use Rattle.om_plane.proofs.MadeLaws.{made_replies}
use Rattle.om_program.specs.declared.plan.Plan.{Plan}
use Rattle.om_program.specs.Plans.{reads_by}
use Rattle.om_program.proofs.PlanLaws.{reads_input}
use Rattle.om_program.proofs.running.follow.Goals as goal

-- the plan reads nothing
abbrev ReadsNothing : Plan → Type 0
ReadsNothing p = reads_by p ≡ source.Nothing

pub returns-in_ok-make_input-in-Make-clause-reply : goal.returns-in_ok-make_input-in-Make-clause-reply
returns-in_ok-make_input-in-Make-clause-reply g c = made_replies _ _ _ c.in_ok-make_input-in-Make.ensures

pub returns-in-Read-clause-alone : goal.returns-in-Read-clause-alone
returns-in-Read-clause-alone g c = λ nothing. absurd (reads_input c.in-Read.what (subst ReadsNothing c.in-Read.is
    nothing))

pub returns-in-Read-clause-reading : goal.returns-in-Read-clause-reading
returns-in-Read-clause-reading g c = λ fault nothing. reads_input c.in-Read.what (subst ReadsNothing c.in-Read.is
    nothing)

pub returns-in-Read-clause-unread : goal.returns-in-Read-clause-unread
returns-in-Read-clause-unread g c = λ nothing. absurd (reads_input c.in-Read.what (subst ReadsNothing c.in-Read.is
    nothing))

pub returns-in-Read-clause-meant : goal.returns-in-Read-clause-meant
returns-in-Read-clause-meant g c = rw c.in-Read.is c.read_and_answer.ensures.meant

pub returns-in-Read-clause-reply : goal.returns-in-Read-clause-reply
returns-in-Read-clause-reply g c = c.read_and_answer.ensures.reply

pub returns-in-Read-clause-read : goal.returns-in-Read-clause-read
returns-in-Read-clause-read g c = c.read_and_answer.ensures.read

pub returns-in-Read-clause-prefix : goal.returns-in-Read-clause-prefix
returns-in-Read-clause-prefix g c = c.read_and_answer.ensures.prefix

pub returns-in-Read-clause-later : goal.returns-in-Read-clause-later
returns-in-Read-clause-later g c = c.read_and_answer.ensures.later

pub returns-in-Read-clause-still : goal.returns-in-Read-clause-still
returns-in-Read-clause-still g c = c.read_and_answer.ensures.still

pub returns-in_ok-make_input-in-Make-clause-still : goal.returns-in_ok-make_input-in-Make-clause-still
returns-in_ok-make_input-in-Make-clause-still g c = λ other. inl c.requires.ready
