use Rattle.om_convert.proofs.MemoryCauses.{memory_within_limit}
use Rattle.om_denotation.specs.Circuits.{IsCocircuitOfChirotope}
use Rattle.om_make.proofs.CountLaws.{few_cocircuits}
use Rattle.om_make.proofs.listing.list_cocircuits.Goals as goal

pub memory_alone-requires : goal.memory_alone-requires
memory_alone-requires c =
    memory_within_limit (IsCocircuitOfChirotope c.args.chi.now) c.in-Err.error c.in-Err.ensures.many
    (few_cocircuits c.args.chi.now c.requires c.chirotope_to_cocircuits.ensures.high)

pub returns-in-Ok-clause-list : goal.returns-in-Ok-clause-list
returns-in-Ok-clause-list c =
    record {
      axioms = c.chirotope_to_cocircuits.ensures.lawful;
      elements = c.in-Ok.ensures.elements;
      members =
          c.in-Ok.ensures.members;
      same = c.in-Ok.ensures.same;
    }
