use Rattle.om_symmetry.proofs.Bases as laws
use Rattle.om_symmetry.proofs.laws.bases_of_an_image.Goals as goal

pub returns-clause-bases : goal.returns-clause-bases
returns-clause-bases c = λ m w b p h l. laws.acted_basis m w p b h l

pub returns-clause-independent : goal.returns-clause-independent
returns-clause-independent c = λ m w s p h. laws.acted_independent m w p s h

pub returns-clause-loops : goal.returns-clause-loops
returns-clause-loops c = λ m w e p h. laws.acted_loop m w p e h

pub returns-clause-coloops : goal.returns-clause-coloops
returns-clause-coloops c = λ m w e p h. laws.acted_coloop m w p e h
