use Rattle.std.proofs.Common.{rules}
use Rattle.om_symmetry.proofs.signed_element.SignedElement.negated_if.Goals as goal

pub returns : goal.returns
returns c = search rules
