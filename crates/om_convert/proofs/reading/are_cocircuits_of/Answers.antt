use Rattle.om_denotation.specs.Circuits.{IsCocircuitOfChirotope}
use Rattle.om_convert.proofs.MemoryCauses.{memory_is_cause}
use Rattle.om_convert.proofs.SameMembers.{cocircuits_seen}
use Rattle.om_convert.proofs.reading.are_cocircuits_of.Goals as goal

pub returns-in-Ok : goal.returns-in-Ok
returns-in-Ok g c = cocircuits_seen g.args.chi.now g.all_cocircuits.ensures.lawful g.in-Ok.cocircuits g.args.vectors.now
    g.in-Ok.ensures.members (g.is_set_of.ensures.0 c)

pub memory_alone-requires : goal.memory_alone-requires
memory_alone-requires c = memory_is_cause (IsCocircuitOfChirotope c.args.chi.now) c.in-Err.error c.in-Err.ensures.many
    c.in_default.not-TooMany
