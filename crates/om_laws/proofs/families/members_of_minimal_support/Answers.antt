use Rattle.om_laws.proofs.MinimalLaws.{composition_both, minimal_axioms, parts_both}
use Rattle.om_laws.proofs.families.members_of_minimal_support.Goals as goal

pub returns-clause-axioms : goal.returns-clause-axioms
returns-clause-axioms c = λ E Ls s a. minimal_axioms E Ls s a

pub returns-clause-parts : goal.returns-clause-parts
returns-clause-parts c = λ E Ls s a X. parts_both E Ls s a X

pub returns-clause-compositions : goal.returns-clause-compositions
returns-clause-compositions c = λ E Ls s a X. composition_both E Ls s a X
