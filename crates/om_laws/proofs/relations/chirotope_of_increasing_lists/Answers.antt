use Rattle.om_laws.proofs.ChirotopeLaws.{chirotope_from_increasing}
use Rattle.om_laws.proofs.relations.chirotope_of_increasing_lists.Goals as goal

pub returns : goal.returns
returns c = λ n r f rel t size i nz. chirotope_from_increasing n r f rel t size i nz
