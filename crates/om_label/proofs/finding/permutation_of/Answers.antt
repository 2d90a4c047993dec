use Rattle.std.proofs.Common.{sym, subst}
use Rattle.om_symmetry.specs.Permutations.{IsSignedPermutation}
use Rattle.om_symmetry.proofs.Products.{identity_permutation}
use Rattle.om_label.proofs.finding.permutation_of.Goals as goal

pub returns-in-None : goal.returns-in-None
returns-in-None c = subst (IsSignedPermutation c.args.n) (sym c.identity.ensures) (identity_permutation c.args.n)
