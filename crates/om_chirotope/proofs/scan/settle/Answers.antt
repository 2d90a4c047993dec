use Rattle.std.proofs.Common.{◌+◌, arith, refl, ap, ◌∙◌, length}
use Rattle.om_laws.specs.Relations.{around}
use Rattle.om_laws.proofs.BridgeLaws.{length-as_list}
use Rattle.om_chirotope.specs.Map.{value_of}
use Rattle.om_chirotope.proofs.Apart.{first_violated}
use Rattle.om_chirotope.proofs.Placed.{placed}
use Rattle.std.proofs.lemmas.Bool.{false≢true}
use Rattle.om_chirotope.proofs.scan.settle.Goals as goal
use Rattle.om_chirotope.proofs.scan.settle.Goals.{else-is_given_test-via-then-is_given_test+else-meets_test}
use Rattle.om_chirotope.proofs.scan.settle.Goals.{else-is_given_test-via-else-is_given_test}

pub fill_while_orthogonal-requires-clause-vector : goal.fill_while_orthogonal-requires-clause-vector
fill_while_orthogonal-requires-clause-vector c = ap length c.circuit_of.ensures
    ∙ length-as_list c.args.map.now.elements (around (value_of c.args.map.now) c.first-s.result.elements)

pub returns-in-Some : goal.returns-in-Some
returns-in-Some c =
    first_violated c.args.map.now c.first-s.result c.in-Some.a 0 c.circuit_of.result
    (placed (λ m. m.rank + 1) _ _ _ c.first-s.result c.map.view_is c.first-s.ensures.n c.first-s.ensures.size
    c.first-s.ensures.lawful c.first-s.ensures.place) c.circuit_of.ensures c.in-Some.ensures.first
    (λ t b p l. absurd (omega (arith, l)))

pub returns-then-meets_test : goal.returns-then-meets_test
returns-then-meets_test c = c.if-meets_test.ensures.0 refl

pub returns : goal.returns
returns c = (
  c.in_default.ensures.none,
  λ given orthogonal.
      elim c.else-is_given_test.branch [
        | else-is_given_test-via-then-is_given_test+else-meets_test w ↦
            false≢true (w.if-meets_test.ensures.1 orthogonal)
        | else-is_given_test-via-else-is_given_test w ↦ false≢true (w.if-is_given_test.ensures.1 given)
      ],
)

pub fill_while_orthogonal-requires-clause-room : goal.fill_while_orthogonal-requires-clause-room
fill_while_orthogonal-requires-clause-room c = c.requires.room

pub circuit_of-requires-clause-size : goal.circuit_of-requires-clause-size
circuit_of-requires-clause-size c = c.first-s.ensures.size ∙ ap (λ m. m.rank + 1) c.map.view_is

pub meets_test-requires-clause-filled : goal.meets_test-requires-clause-filled
meets_test-requires-clause-filled c = c.in_default.ensures.none
