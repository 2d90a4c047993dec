use Rattle.std.proofs.Common.{arith, subst, sym}
use Rattle.om_members.specs.Listings.{HaveLength}
use Rattle.om_subsets.specs.Subsets.{IsSubsetFrom}
use Rattle.om_convert.specs.Hitting.{IsNonzeroMember}
use Rattle.om_convert.proofs.MeetingLaws.{all_meet, narrowed_start, narrowed_more, narrowed_minimal}
use Rattle.om_convert.proofs.hitting.minimal_meeting.Goals as goal

pub loop-e-init : goal.loop-e-init
loop-e-init c = narrowed_start c.args.elements (IsNonzeroMember c.args.vectors.now) c.first-set.result.n
    c.first-set.result.elements c.first-set.ensures.n c.first-set.ensures.lawful c.first-set.ensures.elements
    (all_meet c.args.elements c.args.vectors.now c.requires.lengths)

pub narrowed-set-requires-clause-high : goal.narrowed-set-requires-clause-high
narrowed-set-requires-clause-high c = let q = c.loop-e.invariant.n_is in let t = c.loop-e-test.true in
    omega (arith, q, t)

pub narrowed-set-requires-clause-lengths : goal.narrowed-set-requires-clause-lengths
narrowed-set-requires-clause-lengths c =
    subst (λ k. HaveLength k c.args.vectors.now) (sym c.loop-e.invariant.n_is) c.requires.lengths

pub narrowed-set-requires-clause-lawful : goal.narrowed-set-requires-clause-lawful
narrowed-set-requires-clause-lawful c =
    subst (λ k. IsSubsetFrom 1 k c.loop-e.set.elements) (sym c.loop-e.invariant.n_is) c.loop-e.invariant.lawful

pub loop-e-preserved : goal.loop-e-preserved
loop-e-preserved c = narrowed_more c.args.elements (IsNonzeroMember c.args.vectors.now) c.loop-e.e c.loop-e.set.n
    c.narrowed-set.result.n c.loop-e.set.elements c.narrowed-set.result.elements c.loop-e.invariant
    c.narrowed-set.ensures.n c.narrowed-set.ensures.lawful c.narrowed-set.ensures.narrowed

pub returns-clause-n : goal.returns-clause-n
returns-clause-n c = c.loop-e.invariant.n_is

pub returns-clause-lawful : goal.returns-clause-lawful
returns-clause-lawful c = c.loop-e.invariant.lawful

pub returns-clause-minimal : goal.returns-clause-minimal
returns-clause-minimal c =
    narrowed_minimal c.args.elements (IsNonzeroMember c.args.vectors.now) c.loop-e.e c.loop-e.set.n
    c.loop-e.set.elements c.loop-e-test.false c.loop-e.invariant
