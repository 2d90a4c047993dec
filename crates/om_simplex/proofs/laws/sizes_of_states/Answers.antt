use Rattle.om_simplex.proofs.Reached.{reached_sound}
use Rattle.om_simplex.proofs.laws.sizes_of_states.Goals as goal

pub returns-clause-basis : goal.returns-clause-basis
returns-clause-basis c = λ columns m pivots k s l h. (reached_sound columns m pivots l k s h).basis_size

pub returns-clause-rows : goal.returns-clause-rows
returns-clause-rows c = λ columns m pivots k s l h. (reached_sound columns m pivots l k s h).size

pub returns-clause-widths : goal.returns-clause-widths
returns-clause-widths c = λ columns m pivots k s i l h q. (reached_sound columns m pivots l k s h).widths i q

pub returns-clause-numbers : goal.returns-clause-numbers
returns-clause-numbers c = λ columns m pivots k s i l h p. (reached_sound columns m pivots l k s h).numbers i p
