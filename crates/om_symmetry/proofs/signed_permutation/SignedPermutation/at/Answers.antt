use Rattle.om_symmetry.proofs.Places.{entry_within}
use Rattle.om_symmetry.proofs.signed_permutation.SignedPermutation.at.Goals as goal

pub returns-clause-low : goal.returns-clause-low
returns-clause-low c = (entry_within c.self.inside.entries c.args.self.now c.args.i c.at.result c.self.invariant
    c.self.view_is c.requires.low c.requires.high c.at.ensures).0

pub returns-clause-high : goal.returns-clause-high
returns-clause-high c = (entry_within c.self.inside.entries c.args.self.now c.args.i c.at.result c.self.invariant
    c.self.view_is c.requires.low c.requires.high c.at.ensures).1
