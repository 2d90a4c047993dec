use Rattle.om_commands.specs.ThreeTermTests.{of_map}
use Rattle.om_commands.proofs.three_terms.test_three_terms.Goals as goal

pub returns-in-Chirotope : goal.returns-in-Chirotope
returns-in-Chirotope g c = of_map c.in-Chirotope.raw _ c.in-Chirotope.is c.test_map.ensures
