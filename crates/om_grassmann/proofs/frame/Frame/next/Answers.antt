use Rattle.std.proofs.Common.{arith}
use Rattle.om_grassmann.specs.Walk.{frame_place}
use Rattle.om_grassmann.proofs.frame.Frame.next.Goals as goal

pub returns-then-self-n-clause-later : goal.returns-then-self-n-clause-later
unfolding frame_place
returns-then-self-n-clause-later c = omega arith

pub returns-then-self-n-clause-next : goal.returns-then-self-n-clause-next
unfolding frame_place
returns-then-self-n-clause-next c = λ g frame later. omega arith

pub returns-then-self-n-2-clause-later : goal.returns-then-self-n-2-clause-later
unfolding frame_place
returns-then-self-n-2-clause-later c = omega arith

pub returns-then-self-n-2-clause-next : goal.returns-then-self-n-2-clause-next
unfolding frame_place
returns-then-self-n-2-clause-next c = λ g frame later. omega arith

pub returns-then-self-n-3-clause-later : goal.returns-then-self-n-3-clause-later
unfolding frame_place
returns-then-self-n-3-clause-later c = omega arith

pub returns-then-self-n-3-clause-next : goal.returns-then-self-n-3-clause-next
unfolding frame_place
returns-then-self-n-3-clause-next c = λ g frame later. omega arith

pub returns-then-self-n-4-clause-later : goal.returns-then-self-n-4-clause-later
unfolding frame_place
returns-then-self-n-4-clause-later c = omega arith

pub returns-then-self-n-4-clause-next : goal.returns-then-self-n-4-clause-next
unfolding frame_place
returns-then-self-n-4-clause-next c = λ g frame later. omega arith

pub returns-then-self-n-5-clause-later : goal.returns-then-self-n-5-clause-later
unfolding frame_place
returns-then-self-n-5-clause-later c = omega arith

pub returns-then-self-n-5-clause-next : goal.returns-then-self-n-5-clause-next
unfolding frame_place
returns-then-self-n-5-clause-next c = λ g frame later. omega arith

pub returns-else-self-n-5-clause-last : goal.returns-else-self-n-5-clause-last
unfolding frame_place
returns-else-self-n-5-clause-last c = λ g frame. omega arith
