use Rattle.om_grassmann.proofs.brackets.term_brackets.Goals as goal

pub returns-then-number-eq1-clause-first : goal.returns-then-number-eq1-clause-first
returns-then-number-eq1-clause-first c = rw c.if-number-eq1.true c.set_of.ensures

pub returns-then-number-eq1-clause-second : goal.returns-then-number-eq1-clause-second
returns-then-number-eq1-clause-second c = rw c.if-number-eq1.true c.set_of-then-number-eq1.ensures

pub returns-then-number-eq2-clause-first : goal.returns-then-number-eq2-clause-first
returns-then-number-eq2-clause-first c = rw c.if-number-eq2.true c.set_of-then-number-eq2.ensures

pub returns-then-number-eq2-clause-second : goal.returns-then-number-eq2-clause-second
returns-then-number-eq2-clause-second c = rw c.if-number-eq2.true c.set_of-then-number-eq2-2.ensures
