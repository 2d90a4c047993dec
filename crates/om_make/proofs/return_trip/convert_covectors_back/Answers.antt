use Rattle.std.specs.List.{Contains}
use Rattle.om_convert.proofs.MemoryCauses.{memory_with_few_values}
use Rattle.om_make.proofs.BackLaws.{back_from_covectors, narrow_covectors}
use Rattle.om_make.proofs.return_trip.convert_covectors_back.Goals as goal

pub memory_alone-requires : goal.memory_alone-requires
memory_alone-requires c = memory_with_few_values c.args.covectors.now.elements
    (Contains c.args.covectors.now.members) c.in-Err.error c.in-Err.ensures.refused
    (narrow_covectors c.requires.map c.args.covectors.now c.requires.lists c.requires.rank c.requires.high)

pub returns-in-Ok : goal.returns-in-Ok
returns-in-Ok c = λ m lists. back_from_covectors m _ _ lists c.in-Ok.ensures.lawful
    c.in-Ok.ensures.elements c.in-Ok.ensures.same c.in-Ok.ensures.normal
