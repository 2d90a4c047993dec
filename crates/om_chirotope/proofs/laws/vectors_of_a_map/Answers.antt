use Rattle.om_laws.specs.Relations.{around, along}
use Rattle.om_laws.proofs.BridgeLaws.{length-as_list}
use Rattle.om_chirotope.specs.Map.{chi_of, value_of}
use Rattle.om_chirotope.proofs.InOrder.{value_in_order}
use Rattle.om_chirotope.proofs.Places.{circuit_place, circuit_off, cocircuit_place}
use Rattle.om_chirotope.proofs.laws.vectors_of_a_map.Goals as goal

pub returns-clause-circuit : goal.returns-clause-circuit
returns-clause-circuit c = circuit_place

pub returns-clause-off : goal.returns-clause-off
returns-clause-off c = circuit_off

pub returns-clause-cocircuit : goal.returns-clause-cocircuit
returns-clause-cocircuit c = cocircuit_place

pub returns-clause-lengths : goal.returns-clause-lengths
returns-clause-lengths c =
    λ m xs. (length-as_list m.elements (around (value_of m) xs), length-as_list m.elements (along (value_of m) xs))

pub returns-clause-value : goal.returns-clause-value
returns-clause-value c = λ m xs h. value_in_order 1 m.elements (chi_of m) xs h
