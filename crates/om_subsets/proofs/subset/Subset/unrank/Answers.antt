use Rattle.std.proofs.Common.{arith, ◌≡◌, ◌-◌, ◌<◌, ◌≤◌}
use Rattle.om_subsets.specs.Subsets.{choose}
use Rattle.om_subsets.specs.Members.{members-subset}
use Rattle.om_subsets.proofs.Places.{bits_fit}
use Rattle.om_subsets.proofs.Unrank.{IsBegun, begun_done, begun_skip, begun_take, begun_end, listed_end}
use Rattle.om_subsets.proofs.subset.Subset.unrank.Goals as goal
use Rattle.om_subsets.proofs.subset.Subset.unrank.Goals.{then-left-gt0+then-rest-count, then-left-gt0+else-rest-count}
use Rattle.om_subsets.proofs.subset.Subset.unrank.Goals.{else-left-gt0}

pub loop-i-preserved : goal.loop-i-preserved
loop-i-preserved c = elim c.if-left-gt0.branch [
  | then-left-gt0+then-rest-count w ↦
      let few : c.loop-i.rest < choose (c.args.n - 1 - c.loop-i.i) (c.loop-i.left - 1) = let e =
      w.choose-count.ensures.value in let t = w.if-rest-count.true in omega arith in
      rw (w.left-is, w.rest-is, w.mask-is)
      (begun_take _ _ _ _ _ _ _ c.loop-i-test.true (bits_fit _ c.requires.small) w.if-left-gt0.true few
      c.loop-i.invariant)
  | then-left-gt0+else-rest-count w ↦
      let many : choose (c.args.n - 1 - c.loop-i.i) (c.loop-i.left - 1) ≤ c.loop-i.rest = let e =
      w.choose-count.ensures.value in let t = w.if-rest-count.false in omega arith in
      rw (w.left-is, w.rest-is, w.mask-is, w.choose-count.ensures.value)
      (begun_skip _ _ _ _ _ _ _ c.loop-i-test.true w.if-left-gt0.true many c.loop-i.invariant)
  | else-left-gt0 w ↦
      let none : c.loop-i.left ≡ 0 = let t = w.if-left-gt0.false in omega arith in
      let inv : IsBegun c.loop-i.mask c.loop-i.i 0 c.loop-i.rest c.args.r c.args.k c.args.n =
      rw none at c.loop-i.invariant in
      rw (w.left-is, w.rest-is, w.mask-is, none) (begun_done _ _ _ _ _ _ c.loop-i-test.true inv)
]

pub returns-clause-place : goal.returns-clause-place
returns-clause-place c =
    let e : c.loop-i.i ≡ c.args.n = let t = c.loop-i-test.false in omega arith in
    let b : IsBegun c.loop-i.mask c.args.n c.loop-i.left c.loop-i.rest c.args.r c.args.k c.args.n =
    rw e at c.loop-i.invariant in
    (begun_end c.loop-i.mask c.loop-i.left c.loop-i.rest c.args.r c.args.k c.args.n b).1

pub returns-clause-lawful : goal.returns-clause-lawful
returns-clause-lawful c = members-subset c.loop-i.mask 1 c.args.n

pub returns-clause-elements : goal.returns-clause-elements
returns-clause-elements c =
    let e : c.loop-i.i ≡ c.args.n = let t = c.loop-i-test.false in omega arith in
    let b : IsBegun c.loop-i.mask c.args.n c.loop-i.left c.loop-i.rest c.args.r c.args.k c.args.n =
    rw e at c.loop-i.invariant in
    listed_end c.loop-i.mask c.loop-i.left c.loop-i.rest c.args.r c.args.k c.args.n b
