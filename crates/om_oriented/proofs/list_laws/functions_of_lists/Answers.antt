use Rattle.om_denotation.proofs.AxiomLaws.{supported, covector_axioms}
use Rattle.om_oriented.proofs.list_laws.functions_of_lists.Goals as goal

pub returns-clause-support : goal.returns-clause-support
returns-clause-support c = λ n members lengths. supported n members lengths

pub returns-clause-axioms : goal.returns-clause-axioms
returns-clause-axioms c = λ members axioms. covector_axioms members axioms
