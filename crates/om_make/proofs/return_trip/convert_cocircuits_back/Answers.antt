use Rattle.om_denotation.specs.Covectors.{IsCovectorOfCocircuits}
use Rattle.om_convert.proofs.MemoryCauses.{memory_with_few_values}
use Rattle.om_make.proofs.BackLaws.{back_from_cocircuits, narrow_cocircuits}
use Rattle.om_make.proofs.return_trip.convert_cocircuits_back.Goals as goal

pub memory_alone-requires : goal.memory_alone-requires
memory_alone-requires c = memory_with_few_values c.args.cocircuits.now.0.elements
    (IsCovectorOfCocircuits c.args.cocircuits.now.0) c.in-Err.error c.in-Err.ensures.refused
    (narrow_cocircuits c.requires.map c.args.cocircuits.now.0 c.requires.lists c.requires.rank c.requires.high)

pub returns-in-Ok : goal.returns-in-Ok
returns-in-Ok c = λ m lists. back_from_cocircuits m _ _ lists c.in-Ok.ensures.lawful
    c.in-Ok.ensures.elements c.in-Ok.ensures.same c.in-Ok.ensures.normal
