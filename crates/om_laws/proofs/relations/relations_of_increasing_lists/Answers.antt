use Rattle.om_laws.proofs.ChirotopeLaws.{relations_of_all_tuples, relations_of_increasing_tuples}
use Rattle.om_laws.proofs.relations.relations_of_increasing_lists.Goals as goal

pub returns : goal.returns
returns c = λ n r f. (relations_of_all_tuples n r f, relations_of_increasing_tuples n r f)
