use Rattle.om_grassmann.specs.Terms.{bracket}
use Rattle.om_grassmann.proofs.terms.value.Goals as goal

pub returns : goal.returns
unfolding bracket
returns c = c.value.ensures
