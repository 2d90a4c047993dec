use Rattle.om_localize.proofs.OneExtension.{same_extensions}
use Rattle.om_localize.proofs.laws.extension_of_a_signature.Goals as goal

pub returns : goal.returns
returns c = same_extensions
