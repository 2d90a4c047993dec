use Rattle.om_covers.proofs.Exchanged.{some_basis_before_last}
use Rattle.om_covers.proofs.laws.last_element_off_a_basis.Goals as goal

pub returns : goal.returns
returns c = λ m om lt. some_basis_before_last m om lt
