use Rattle.std.proofs.Common.{length}
use Rattle.om_symmetry.proofs.Reading.{IsReadTo}
use Rattle.om_symmetry.proofs.signed_permutation.SignedPermutation.from_entries.Given as goal

abbrev pub invariant-loop-a : goal.invariant-loop-a
invariant-loop-a l = IsReadTo (length l.entries) l.entries l.a-index l.listed l.seen
