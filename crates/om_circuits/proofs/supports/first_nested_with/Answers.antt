use Rattle.std.proofs.Common.{sym, subst, below_more}
use Rattle.om_members.specs.Scans.{nth}
use Rattle.om_members.proofs.ScanLaws.{nth_read}
use Rattle.om_circuits.specs.Instances.{IsNestedIn}
use Rattle.om_circuits.specs.Scans.{IsUnnestedIn}
use Rattle.om_circuits.proofs.supports.first_nested_with.Goals as goal

pub loop-k-preserved : goal.loop-k-preserved
loop-k-preserved c =
    let members = c.args.members.now in
    below_more (λ j. IsUnnestedIn c.args.x (nth members j)) c.loop-k.k c.loop-k.invariant
    (subst (IsUnnestedIn c.args.x)
    (sym (nth_read members c.loop-k.k c.index-members-k.result c.loop-k-test.true c.index-members-k.is))
    (rw c.if-is_nested.false at c.is_nested.ensures))

pub returns-then-is_nested-clause-first : goal.returns-then-is_nested-clause-first
returns-then-is_nested-clause-first c = record {
  within = c.loop-k-test.true;
  bad = subst (IsNestedIn c.args.x)
      (sym (nth_read c.args.members.now c.loop-k.k c.index-members-k.result c.loop-k-test.true c.index-members-k.is))
      (rw c.if-is_nested.true at c.is_nested.ensures);
  before = c.loop-k.invariant;
}
