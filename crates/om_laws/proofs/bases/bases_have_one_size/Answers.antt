use Rattle.om_laws.proofs.SizeLaws.{one_size}
use Rattle.om_laws.proofs.bases.bases_have_one_size.Goals as goal

pub returns : goal.returns
returns c = λ E chi om s t ns nt. one_size E chi om s t ns nt
