use Rattle.std.proofs.lemmas.Bool.{false≢true}
use Rattle.om_chirotope.specs.Map.{map_of}
use Rattle.om_chirotope.proofs.ThreeTerms.{chirotope_of_test, test_of_chirotope}
use Rattle.om_threeterm.proofs.checking.check.Goals as goal

pub lawful-requires-clause-axioms : goal.lawful-requires-clause-axioms
lawful-requires-clause-axioms g c = chirotope_of_test (map_of c.args.raw) c.in-None.ensures.none

pub returns-in-Some-clause-accepted : goal.returns-in-Some-clause-accepted
returns-in-Some-clause-accepted g c =
    (λ t. absurd (false≢true t), λ chi. absurd (c.in-Some.ensures.some (test_of_chirotope (map_of c.args.raw) chi)))
