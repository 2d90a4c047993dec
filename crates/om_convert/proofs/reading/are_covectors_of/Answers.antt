use Rattle.om_denotation.specs.Covectors.{IsCovectorOfChirotope}
use Rattle.om_convert.proofs.MemoryCauses.{memory_is_cause}
use Rattle.om_convert.proofs.SameMembers.{covectors_seen}
use Rattle.om_convert.proofs.reading.are_covectors_of.Goals as goal

pub returns-in-Ok : goal.returns-in-Ok
returns-in-Ok g c = covectors_seen g.args.chi.now g.all_covectors.ensures.lawful g.in-Ok.covectors g.args.vectors.now
    g.in-Ok.ensures.members (g.is_set_of.ensures.0 c)

pub memory_alone-requires : goal.memory_alone-requires
memory_alone-requires c =
    memory_is_cause (IsCovectorOfChirotope c.args.chi.now) c.in-Err.error c.in-Err.ensures.many c.in_default.not-TooMany
