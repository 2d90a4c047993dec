use Rattle.std.specs.Prelude.{◌≡◌}
use Rattle.om_class_tests.proofs.stepping.list_of.Given as goal

-- the list is of chirotopes on as many elements as were asked for
abbrev pub invariant-loop-elements : goal.invariant-loop-elements
invariant-loop-elements g l = l.level.elements ≡ l.fn.n
