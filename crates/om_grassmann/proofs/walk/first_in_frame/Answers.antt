use Rattle.std.proofs.Common.{◌+◌, ◌*◌, sym, subst, arith}
use Rattle.om_grassmann.specs.Walk.{frame_place, IsFirstFrom}
use Rattle.om_grassmann.proofs.Frames.{none_here, first_here}
use Rattle.om_grassmann.proofs.walk.first_in_frame.Goals as goal

pub returns-in-Some-clause-first : goal.returns-in-Some-clause-first
returns-in-Some-clause-first c = λ m terms.
    subst (IsFirstFrom m (frame_place c.args.frame * 9 + c.args.from)) (sym c.candidate.ensures)
    (first_here m c.args.frame c.args.terms (frame_place c.args.frame * 9 + c.args.from) c.loop-direction.direction
    c.in-Some.strict terms c.loop-direction-test.true (omega arith) c.in-Some.ensures
    (c.loop-direction.invariant m terms))

pub loop-direction-preserved : goal.loop-direction-preserved
loop-direction-preserved c = λ m terms.
    none_here m c.args.frame c.args.terms (frame_place c.args.frame * 9 + c.args.from) c.loop-direction.direction terms
    c.loop-direction-test.true c.in_default.ensures (c.loop-direction.invariant m terms)
