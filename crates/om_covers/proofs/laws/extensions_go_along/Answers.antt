use Rattle.om_covers.proofs.Extensions.{extension_image}
use Rattle.om_covers.proofs.laws.extensions_go_along.Goals as goal

pub returns : goal.returns
returns c = λ m x w p ext. extension_image m x ext w p
