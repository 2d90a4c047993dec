use Rattle.om_covers.proofs.Deletions as laws
use Rattle.om_covers.proofs.laws.deletion_of_the_last_element.Goals as goal

pub returns-clause-chirotope : goal.returns-clause-chirotope
returns-clause-chirotope c = λ x om several some. laws.deletion_axioms x several om some

pub returns-clause-extension : goal.returns-clause-extension
returns-clause-extension c = λ x om several some. laws.is_extension x several om some

pub returns-clause-simple : goal.returns-clause-simple
returns-clause-simple c = λ x om several some simple. laws.deletion_simple x several om some simple

pub returns-clause-uniform : goal.returns-clause-uniform
returns-clause-uniform c = λ x om several some uniform. laws.deletion_uniform x several om some uniform
