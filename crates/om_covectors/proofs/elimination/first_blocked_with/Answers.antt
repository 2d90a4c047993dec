use Rattle.std.proofs.Common.{◌+◌, sym, ◌∙◌, ap, subst, below_more, arith, length}
use Rattle.om_members.specs.Scans.{AllBelow, IsFirstBad}
use Rattle.om_members.proofs.ScanLaws.{nth_read}
use Rattle.om_covectors.specs.Instances.{HasNoCovectorEliminator}
use Rattle.om_covectors.specs.Scans.{HasCovectorEliminatorIfAsked, IsUnblockedWith}
use Rattle.om_covectors.proofs.elimination.first_blocked_with.Goals as goal

pub first_blocked_element-requires : goal.first_blocked_element-requires
first_blocked_element-requires c = record {
  high = c.requires.high;
  lengths = sym (ap length c.index-members-j.is
      ∙ c.requires.lengths c.loop-j.j c.index-members-j.result c.loop-j-test.true);
}

pub loop-j-preserved : goal.loop-j-preserved
loop-j-preserved c =
    let members = c.args.members.now in
    let x = c.args.x in
    let n = c.args.elements + 1 in
    below_more (λ j. AllBelow n (IsUnblockedWith members x j)) c.loop-j.j c.loop-j.invariant
    (subst (λ Y. AllBelow n (HasCovectorEliminatorIfAsked members x Y))
    (sym (nth_read members c.loop-j.j c.index-members-j.result c.loop-j-test.true c.index-members-j.is))
    c.in_default.ensures.none)

pub returns-in-Some-clause-first : goal.returns-in-Some-clause-first
returns-in-Some-clause-first c =
    let members = c.args.members.now in
    let x = c.args.x in
    record {
      within = c.loop-j-test.true;
      second = subst
          (λ Y. IsFirstBad (c.args.elements + 1) (HasNoCovectorEliminator members x Y)
          (HasCovectorEliminatorIfAsked members x Y) c.in-Some.e)
          (sym (nth_read members c.loop-j.j c.index-members-j.result c.loop-j-test.true c.index-members-j.is))
          c.in-Some.ensures.first;
      before = c.loop-j.invariant;
    }

pub returns-clause-none : goal.returns-clause-none
returns-clause-none c = λ k l. c.loop-j.invariant k (let t = c.loop-j-test.false in omega arith)
