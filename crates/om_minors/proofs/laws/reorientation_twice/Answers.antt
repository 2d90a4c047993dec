use Rattle.om_minors.proofs.Turning.{twice_normal}
use Rattle.om_minors.proofs.laws.reorientation_twice.Goals as goal

pub returns : goal.returns
returns c = λ m a b mask om h k. twice_normal m om mask a b h k
