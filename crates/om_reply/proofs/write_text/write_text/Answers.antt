use Rattle.std.proofs.Common.{rules, inl, refl}
use Rattle.om_reply.proofs.write_text.write_text.Goals as goal

pub returns-in-Ok-clause-cut : goal.returns-in-Ok-clause-cut
returns-in-Ok-clause-cut g c = search rules

pub returns-in-Ok-clause-fault : goal.returns-in-Ok-clause-fault
returns-in-Ok-clause-fault g c = search rules

pub returns-in-Ok-clause-no_other : goal.returns-in-Ok-clause-no_other
returns-in-Ok-clause-no_other g c = inl refl
