use Rattle.om_oriented.proofs.Members.{covector_of_circuits}
use Rattle.om_oriented.proofs.circuits.CircuitsOriented.is_covector.Goals as goal

pub returns : goal.returns
returns c = covector_of_circuits _ c.members.result.now c.args.x c.is_orthogonal_to_all.result c.members.ensures.value
    c.requires c.is_orthogonal_to_all.ensures
