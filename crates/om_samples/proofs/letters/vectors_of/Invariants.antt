use Rattle.std.proofs.Common.{◌≤◌, length}
use Rattle.om_signs.specs.declared.limits.TheConstants.{MAX_MEMBERS}
use Rattle.om_members.specs.Listings.{HaveLength, AreDistinct}
use Rattle.om_samples.proofs.letters.vectors_of.Given as goal

abbrev pub invariant-loop-text : goal.invariant-loop-text
invariant-loop-text l = HaveLength l.elements l.list × AreDistinct l.list × (length l.list ≤ MAX_MEMBERS)
