use Rattle.std.proofs.Common.{arith}
use Rattle.om_threeterm.proofs.SetLaws.{few_fours}
use Rattle.om_threeterm.proofs.relations.number_of_fours.Goals as goal

pub returns-clause-few : goal.returns-clause-few
returns-clause-few c =
    let most = few_fours c.args.elements c.requires in
    let value = c.choose.ensures.value in
    omega (arith, most, value)
