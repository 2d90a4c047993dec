use Rattle.om_chirotope.proofs.ThreeTerms.{chirotope_of_test, test_of_chirotope}
use Rattle.om_chirotope.proofs.laws.three_term_test.Goals as goal

pub returns : goal.returns
returns c = λ m. (λ h. chirotope_of_test m h, λ h. test_of_chirotope m h)
