use Rattle.std.proofs.Common.{refl, length}
use Rattle.om_laws.proofs.BridgeLaws.{as_list-as_function, as_function-as_list}
use Rattle.om_laws.proofs.lists.lists_and_functions.Goals as goal

pub returns-clause-back : goal.returns-clause-back
returns-clause-back c = λ xs. as_list-as_function (length xs) xs refl

pub returns-clause-forth : goal.returns-clause-forth
returns-clause-forth c = λ n f s e. as_function-as_list n f s e
