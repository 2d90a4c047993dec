use Rattle.std.proofs.Common.{arith}
use Rattle.om_words.proofs.TripleLaws.{first_bad, second_bad, third_bad, triple_long, triple_read}
use Rattle.om_words.proofs.triple.triple.Goals as goal

pub returns-in_err-a : goal.returns-in_err-a
returns-in_err-a c = first_bad _ _ _ _ c.element_at.ensures.value c.element_at.ensures.fault c.in_err-a.was
    c.from_residual.ensures.1

pub overflow_add-a : goal.overflow_add-a
overflow_add-a c = let a = ((c.element_at.ensures.value c.in_ok-a.a).0 c.in_ok-a.was).within.below in omega (arith, a)

pub returns-in_err-b : goal.returns-in_err-b
returns-in_err-b c = second_bad _ _ _ _ _ ((c.element_at.ensures.value c.in_ok-a.a).0 c.in_ok-a.was)
    c.element_at-2.ensures.value c.element_at-2.ensures.fault c.in_err-b.was c.from_residual-in_err-b.ensures.1

pub overflow_add-b : goal.overflow_add-b
overflow_add-b c = let b = ((c.element_at-2.ensures.value c.in_ok-b.b).0 c.in_ok-b.was).within.below in omega (arith, b)

pub returns-in_err-c : goal.returns-in_err-c
returns-in_err-c c = third_bad _ _ _ _ _ _ ((c.element_at.ensures.value c.in_ok-a.a).0 c.in_ok-a.was)
    ((c.element_at-2.ensures.value c.in_ok-b.b).0 c.in_ok-b.was) c.element_at-3.ensures.value
    c.element_at-3.ensures.fault c.in_err-c.was c.from_residual-in_err-c.ensures.1

pub returns-then-rest-gt3 : goal.returns-then-rest-gt3
returns-then-rest-gt3 c = triple_long _ _ _ _ _ ((c.element_at.ensures.value c.in_ok-a.a).0 c.in_ok-a.was)
    ((c.element_at-2.ensures.value c.in_ok-b.b).0 c.in_ok-b.was)
    ((c.element_at-3.ensures.value c.in_ok-c.c).0 c.in_ok-c.was) c.if-rest-gt3.true

pub returns : goal.returns
returns c = triple_read _ _ _ _ _ ((c.element_at.ensures.value c.in_ok-a.a).0 c.in_ok-a.was)
    ((c.element_at-2.ensures.value c.in_ok-b.b).0 c.in_ok-b.was)
    ((c.element_at-3.ensures.value c.in_ok-c.c).0 c.in_ok-c.was) c.if-rest-gt3.false
