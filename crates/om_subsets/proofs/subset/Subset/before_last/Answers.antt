use Rattle.std.proofs.Common.{◌∙◌}
use Rattle.om_subsets.proofs.Shorter.{shorter_code}
use Rattle.om_subsets.proofs.subset.Subset.before_last.Goals as goal

pub from_mask-requires-clause-within : goal.from_mask-requires-clause-within
from_mask-requires-clause-within c =
    rw (c.mask.ensures.value, c.n.ensures.value)
    ((shorter_code c.args.self.n c.args.self.elements c.requires.some c.mask.ensures.lawful c.requires.off).0)

pub returns-clause-elements : goal.returns-clause-elements
returns-clause-elements c = c.from_mask.ensures.elements
    ∙ rw (c.mask.ensures.value, c.n.ensures.value)
    ((shorter_code c.args.self.n c.args.self.elements c.requires.some c.mask.ensures.lawful c.requires.off).1)
