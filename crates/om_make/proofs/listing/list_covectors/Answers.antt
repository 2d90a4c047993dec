use Rattle.om_convert.proofs.MemoryCauses.{memory_within_limit}
use Rattle.om_denotation.specs.Covectors.{IsCovectorOfChirotope}
use Rattle.om_make.proofs.CovectorCounts.{few_covectors}
use Rattle.om_make.proofs.listing.list_covectors.Goals as goal

pub memory_alone-requires : goal.memory_alone-requires
memory_alone-requires c =
    memory_within_limit (IsCovectorOfChirotope c.args.chi.now) c.in-Err.error c.in-Err.ensures.many
    (few_covectors c.args.chi.now c.chirotope_to_covectors.ensures.lawful c.requires
    c.chirotope_to_covectors.ensures.high)

pub returns-in-Ok-clause-list : goal.returns-in-Ok-clause-list
returns-in-Ok-clause-list c =
    record {
      axioms = c.chirotope_to_covectors.ensures.lawful;
      elements = c.in-Ok.ensures.elements;
      members =
          c.in-Ok.ensures.members;
      same = c.in-Ok.ensures.same;
    }
